-- The passes of a key come back from the rows, the last key first.
use Rattle.std.proofs.Common.{◌≡◌, ◌≢◌, ℕ, zero, suc, ◌+◌, ◌<◌, ◌≤◌, List, [], ◌∷◌, ◌++◌, length, Some, None, refl, sym, ap, ◌∙◌, subst, arith, length-append, append_assoc, reverse}
use Rattle.std.proofs.Common as std
use Rattle.std.proofs.lemmas.List.{append-nil, reverse-append}
use mathlib.Core.Option.{some, some-injective, some-ne-none}
use lib.ListN.{get_elem?}
use Rattle.shared_region.specs.Shared.{Shared}
use Rattle.std.specs.List.{All}
use Rattle.turn_cell.specs.declared.cell.Turns.{Turns}
use Rattle.turn_cell.specs.declared.cell.Seen.{Seen}
use Rattle.turn_cell.specs.Cell.{IsPassOf, pass_number}
use Rattle.turn_cell.specs.History.{Each}
use Rattle.turn_cell.proofs.Frames.{there, reads}
use Rattle.turn_cell.proofs.Places.{get_there}
use Rattle.region_tier.specs.declared.cells.Passes.{Passes}
use Rattle.region_tier.specs.Tiers.{RegionPass, AreDealt, AreRows, IsClosed, EndsWithPass, slots_of}
use Rattle.region_tier.proofs.At.{same_in}
use Rattle.region_tier.proofs.Dealing.{at_last, at_longer}

at_front : {A : Type 0} (xs ys : List A) (k : ℕ) (a : A) → k < length xs → get_elem? (xs ++ ys) k ≡ some a → get_elem? xs k ≡ some a
at_front [] ys k a h e = absurd (omega arith)
at_front (x ∷ xs) ys zero a h e = e
at_front (x ∷ xs) ys (suc k) a h e = at_front xs ys k a (omega arith) e

split_last : {A : Type 0} (xs : List A) (n : ℕ) (a : A) → length xs ≡ n + 1 → get_elem? xs n ≡ some a → (front : List A) × (xs ≡ front ++ a ∷ [])
split_last [] n a l e = absurd (some-ne-none a (sym e))
split_last (x ∷ []) zero a l e = ([], ap (λ z. z ∷ []) (some-injective x a e))
split_last (x ∷ []) (suc n) a l e = absurd (omega arith)
split_last (x ∷ y ∷ ys) zero a l e = absurd (omega arith)
split_last (x ∷ y ∷ ys) (suc n) a l e = let r = split_last (y ∷ ys) n a (omega arith) e in (x ∷ r.0, ap (λ z. x ∷ z) r.1)

-- so many passes of this row are still there
pub record RowLeft (now : List Passes) (n : ℕ) (i : ℕ) (r : Passes) : Type 0 where
  pub row : Passes
  pub at : get_elem? now i ≡ some row
  pub gone : List (std.Option RegionPass)
  pub front : slots_of r ≡ slots_of row ++ gone
  pub long : length (slots_of row) ≡ n

pub all_left : (cells : List (Turns Shared)) (numbers : ℕ) (rows : List Passes) → AreRows cells numbers rows → Each rows (RowLeft rows (length cells))
all_left cells numbers rows a i r e = record { row = r; at = e; gone = []; front = sym (append-nil (slots_of r)); long = (a.1 i r e).0 }

pub end_with_pass : (cells : List (Turns Shared)) (numbers : ℕ) (rows now : List Passes) (n : ℕ) (t : Turns Shared) → AreRows cells numbers rows → length now ≡ length rows
    → Each rows (RowLeft now (n + 1)) → get_elem? cells n ≡ some t → Each now (λ i x. EndsWithPass (slots_of x))
end_with_pass cells numbers rows now n t a long left at i x e =
    let r = get_there rows i (let h = there now i x e in omega (arith, h, long)) in
    let o = left i r.0 r.1 in
    let same : o.row ≡ x = some-injective o.row x (sym o.at ∙ e) in
    let q = (a.1 i r.0 r.1).1 n t at in
    let size = o.long in
    let in_row = at_front (slots_of o.row) o.gone n (Some q.0) (omega (arith, size)) (ap (λ l. get_elem? l n) (sym o.front) ∙ q.1) in
    let s = split_last (slots_of o.row) n (Some q.0) o.long in_row in
    (s.0, q.0, ap slots_of (sym same) ∙ s.1)

-- what has come back of a row: the pass of this key
pub record CameBack (column : List RegionPass) (less : List Passes) (n : ℕ) (i : ℕ) (r : Passes) : Type 0 where
  pub pass : RegionPass
  pub at_column : get_elem? column i ≡ some pass
  pub at_key : get_elem? (slots_of r) n ≡ some (Some pass)
  pub left : RowLeft less n i r

pub came_back : (rows now less : List Passes) (column : List RegionPass) (n : ℕ) → length now ≡ length rows → Each rows (RowLeft now (n + 1)) → AreDealt less column now → Each rows (CameBack column less n)
came_back rows now less column n long left d i r e =
    let o = left i r e in
    let size = o.long in
    let many = d.0 in
    let l = get_there less i (let h = there rows i r e in omega (arith, h, long, many)) in
    let od = d.1 i l.0 l.1 in
    let same : od.row ≡ o.row = some-injective od.row o.row (sym od.at_row ∙ o.at) in
    let more : slots_of o.row ≡ slots_of l.0 ++ Some od.pass ∷ [] = ap slots_of (sym same) ∙ od.more.slots in
    let short : length (slots_of l.0) ≡ n = let k = length-append (slots_of l.0) (Some od.pass ∷ []) in let m = ap length more in omega (arith, k, m, size) in
    let in_row = ap (λ z. get_elem? z n) more ∙ at_last (slots_of l.0) (Some od.pass) n (sym short) in
    record {
      pass = od.pass;
      at_column = od.at_column;
      at_key = ap (λ z. get_elem? z n) o.front ∙ at_longer (slots_of o.row) o.gone n (Some od.pass) in_row;
      left = record { row = l.0; at = l.1; gone = Some od.pass ∷ o.gone; front = o.front ∙ (ap (λ z. z ++ o.gone) more ∙ append_assoc (slots_of l.0) (Some od.pass ∷ []) o.gone); long = short };
    }

-- they are the passes of this cell, in order
pub are_passes : (cells : List (Turns Shared)) (numbers : ℕ) (rows less : List Passes) (column : List RegionPass) (n : ℕ) (t : Turns Shared) → AreRows cells numbers rows → get_elem? cells n ≡ some t → length column ≡ length rows
    → Each rows (CameBack column less n) → Each column (λ k p. (pass_number p ≡ k) × IsPassOf p t)
are_passes cells numbers rows less column n t a at long back k p e =
    let r = get_there rows k (let h = there column k p e in omega (arith, h, long)) in
    let b = back k r.0 r.1 in
    let q = (a.1 k r.0 r.1).1 n t at in
    let one : b.pass ≡ p = some-injective b.pass p (sym b.at_column ∙ e) in
    let two : q.0 ≡ b.pass = same_in (slots_of r.0) n q.0 b.pass q.1 b.at_key in
    subst (λ (x : RegionPass). (pass_number x ≡ k) × IsPassOf x t) (two ∙ one) (q.3, q.2)

-- ---- What holds of each element of a list, by its index.

pub all_at : {A : Type 0} (P : A → Type 0) (xs : List A) (k : ℕ) (x : A) → get_elem? xs k ≡ some x → All P xs → P x
all_at P xs k x e all = subst P (reads xs k x x e) (all k x (there xs k x e))

pub all_last : {A : Type 0} (P : A → Type 0) (xs : List A) (x : A) → All P (xs ++ x ∷ []) → P x
all_last P xs x all = all_at P (xs ++ x ∷ []) (length xs) x (at_last xs x (length xs) refl) all

pub all_front : {A : Type 0} (P : A → Type 0) (xs ys : List A) → All P (xs ++ ys) → All P xs
all_front P xs ys all = λ k d low. let t = get_there xs k low in
    subst P (sym (reads xs k t.0 d t.1)) (all_at P (xs ++ ys) k t.0 (at_longer xs ys k t.0 t.1) all)

-- ---- The ends of the cells, the last first.

abbrev pub ClosedFrom : List (Turns Shared) → List Passes → List (Shared × Seen Shared) → ℕ → Type 0
ClosedFrom cells rows ends from = Each cells (λ k t. (j : ℕ) → k ≡ from + j → (e : Shared × Seen Shared) × (get_elem? (reverse ends) j ≡ some e) × IsClosed t rows k e)

pub closes_one : (cells : List (Turns Shared)) (rows : List Passes) (ends : List (Shared × Seen Shared)) (x : Shared × Seen Shared) (n : ℕ) (u : Turns Shared) → get_elem? cells n ≡ some u → IsClosed u rows n x
    → ClosedFrom cells rows ends (n + 1) → ClosedFrom cells rows (ends ++ x ∷ []) n
closes_one cells rows ends x n u at closed old k t e zero is =
    let here : k ≡ n = omega (arith, is) in
    let same : u ≡ t = some-injective u t (sym at ∙ (ap (get_elem? cells) (sym here) ∙ e)) in
    (x, ap (λ l. get_elem? l 0) (reverse-append ends (x ∷ [])), subst (λ m. IsClosed t rows m x) (sym here) (subst (λ (z : Turns Shared). IsClosed z rows n x) same closed))
closes_one cells rows ends x n u at closed old k t e (suc j) is =
    let o = old k t e j (omega (arith, is)) in
    (o.0, ap (λ l. get_elem? l (suc j)) (reverse-append ends (x ∷ [])) ∙ o.1, o.2)
