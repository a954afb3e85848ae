-- Rows that get a pass each, one after the other.
use Rattle.std.proofs.Common.{◌≡◌, ◌≢◌, ℕ, zero, suc, ◌+◌, ◌<◌, ◌≤◌, List, [], ◌∷◌, ◌++◌, length, set, refl, sym, ap, ◌∙◌, subst, arith, length-append, length-set}
use mathlib.Core.List.{IsPrefix}
use mathlib.Core.Option.{some, some-injective, some-ne-none}
use mathlib.Core.Logic.{dite}
use native.Mathlib.Decide.{ℕ_discrete}
use lib.ListN.{get_elem?}
use Rattle.turn_cell.specs.History.{Each}
use Rattle.turn_cell.proofs.Frames.{there}
use Rattle.turn_cell.proofs.Places.{at_end, get_there, each_push}
use Rattle.std.proofs.Common as std
use Rattle.std.proofs.Common.{Some, None}
use Rattle.shared_region.specs.Shared.{Shared}
use Rattle.turn_cell.specs.declared.cell.Turns.{Turns}
use Rattle.turn_cell.specs.Cell.{IsPassOf, pass_list, pass_number}
use Rattle.region_tier.specs.declared.cells.Passes.{Passes}
use Rattle.region_tier.specs.Tiers.{RegionPass, IsFreshRow, AreFreshRows, AreRows, OneDealt, AreDealt, Changed, HasMore}

pub at_longer : {A : Type 0} (xs ys : List A) (k : ℕ) (a : A) → get_elem? xs k ≡ some a → get_elem? (xs ++ ys) k ≡ some a
at_longer [] ys k a e = absurd (some-ne-none a (sym e))
at_longer (x ∷ xs) ys zero a e = e
at_longer (x ∷ xs) ys (suc k) a e = at_longer xs ys k a e

pub at_last : {A : Type 0} (xs : List A) (a : A) (k : ℕ) → k ≡ length xs → get_elem? (xs ++ a ∷ []) k ≡ some a
at_last [] a k e = ap (get_elem? (a ∷ [])) e
at_last (x ∷ xs) a zero e = absurd (omega arith)
at_last (x ∷ xs) a (suc k) e = at_last xs a k (omega arith)

pub at_put : {A : Type 0} (xs : List A) (k : ℕ) (a : A) → k < length xs → get_elem? (set xs k a) k ≡ some a
at_put [] k a h = absurd (omega arith)
at_put (x ∷ xs) zero a h = refl
at_put (x ∷ xs) (suc k) a h = at_put xs k a (omega arith)

pub at_other : {A : Type 0} (xs : List A) (k j : ℕ) (a : A) → j ≢ k → get_elem? (set xs k a) j ≡ get_elem? xs j
at_other [] k j a ne = refl
at_other (x ∷ xs) zero zero a ne = absurd (ne refl)
at_other (x ∷ xs) zero (suc j) a ne = refl
at_other (x ∷ xs) (suc k) zero a ne = refl
at_other (x ∷ xs) (suc k) (suc j) a ne = at_other xs k j a (λ e. ne (ap suc e))

-- from this place on each row has its pass, and before it the rows are as they were
pub record DealtFrom (column : List RegionPass) (now : List Passes) (from : ℕ) (i : ℕ) (r : Passes) : Type 0 where
  pub below : i < from → get_elem? now i ≡ some r
  pub above : from ≤ i → OneDealt column now i r

-- up to this place each row has given its pass, and from it on the rows are as they were
pub record GivenTo (home : List RegionPass) (now : List Passes) (to : ℕ) (i : ℕ) (r : Passes) : Type 0 where
  pub above : to ≤ i → get_elem? now i ≡ some r
  pub below : i < to → (d : Passes) × (p : RegionPass) × (get_elem? home i ≡ some p) × (get_elem? now i ≡ some d) × HasMore d r p

-- one more row, the one before, gets its pass
pub deals_one : (column left : List RegionPass) (p : RegionPass) (rows old new : List Passes) (from : ℕ) → IsPrefix (left ++ p ∷ []) column → from ≡ length left
    → Each rows (DealtFrom column old (length (left ++ p ∷ []))) → Changed old new from (λ r d. HasMore r d p) → Each rows (DealtFrom column new from)
deals_one column left p rows old new from pre is all ch i r e =
    let more : length (left ++ p ∷ []) ≡ from + 1 = length-append left (p ∷ []) ∙ ap (λ n. n + 1) (sym is) in
    let was = all i r e in
    let inside = there old from ch.before ch.at in
    record {
      below = λ h. ap (λ l. get_elem? l i) ch.put ∙ (at_other old from i ch.after (λ same. omega (arith, same, h)) ∙ was.below (omega (arith, h, more)));
      above = λ h. dite (ℕ_discrete i from)
          (λ here. let same : ch.before ≡ r = some-injective ch.before r (sym ch.at ∙ (ap (get_elem? old) (sym here) ∙ was.below (omega (arith, here, more)))) in record {
            pass = p;
            row = ch.after;
            at_column = ap (get_elem? column) (here ∙ is) ∙ at_end left column p pre;
            at_row = ap (λ l. get_elem? l i) ch.put ∙ (ap (get_elem? (set old from ch.after)) here ∙ at_put old from ch.after inside);
            more = subst (λ (x : Passes). HasMore x ch.after p) same ch.so;
          })
          (λ other. let o = was.above (let n : i ≢ from = other in omega (arith, h, more, n)) in record {
            pass = o.pass;
            row = o.row;
            at_column = o.at_column;
            at_row = ap (λ l. get_elem? l i) ch.put ∙ (at_other old from i ch.after other ∙ o.at_row);
            more = o.more;
          });
    }

-- one more row gives its pass
pub gives_one : (home : List RegionPass) (p : RegionPass) (rows old new : List Passes) (to : ℕ) → to ≡ length home
    → Each rows (GivenTo home old to) → Changed old new to (λ r d. HasMore d r p) → Each rows (GivenTo (home ++ p ∷ []) new (to + 1))
gives_one home p rows old new to is all ch i r e =
    let was = all i r e in
    let inside = there old to ch.before ch.at in
    record {
      above = λ h. ap (λ l. get_elem? l i) ch.put ∙ (at_other old to i ch.after (λ same. omega (arith, same, h)) ∙ was.above (omega (arith, h)));
      below = λ h. dite (ℕ_discrete i to)
          (λ here. let same : ch.before ≡ r = some-injective ch.before r (sym ch.at ∙ (ap (get_elem? old) (sym here) ∙ was.above (omega (arith, here)))) in
          (ch.after, p, at_last home p i (here ∙ is), ap (λ l. get_elem? l i) ch.put ∙ (ap (get_elem? (set old to ch.after)) here ∙ at_put old to ch.after inside), subst (λ (x : Passes). HasMore ch.after x p) same ch.so))
          (λ other. let o = was.below (let n : i ≢ to = other in omega (arith, h, n)) in
          (o.0, o.1, at_longer home (p ∷ []) i o.1 o.2, ap (λ l. get_elem? l i) ch.put ∙ (at_other old to i ch.after other ∙ o.3), o.4));
    }

-- all rows have given their passes
pub given_all : (home : List RegionPass) (rows now : List Passes) (to : ℕ) → to ≡ length rows → length now ≡ length rows → Each rows (GivenTo home now to) → AreDealt now home rows
given_all home rows now to is long all = (
  sym long,
  λ i d e.
      let r = get_there rows i (let t = there now i d e in omega (arith, t, long)) in
      let o = (all i r.0 r.1).below (let t = there now i d e in omega (arith, t, long, is)) in
      let same : o.0 ≡ d = some-injective o.0 d (sym o.3 ∙ e) in
      record { pass = o.1; row = r.0; at_column = o.2; at_row = r.1; more = subst (λ (x : Passes). HasMore x r.0 o.1) same o.4 },
)

-- what holds of each row holds of each that has a pass more
pub dealt_each : (rows dealt : List Passes) (column : List RegionPass) (P Q : ℕ → Passes → Type 0) → AreDealt rows column dealt → Each rows P
    → ((i : ℕ) (r d : Passes) (p : RegionPass) → get_elem? column i ≡ some p → HasMore r d p → P i r → Q i d) → Each dealt Q
dealt_each rows dealt column P Q a all step i d e =
    let long = a.0 in
    let r = get_there rows i (let t = there dealt i d e in omega (arith, t, long)) in
    let o = a.1 i r.0 r.1 in
    let same : o.row ≡ d = some-injective o.row d (sym o.at_row ∙ e) in
    step i r.0 d o.pass o.at_column (subst (λ (x : Passes). HasMore r.0 x o.pass) same o.more) (all i r.0 r.1)

-- what held of the row at this place before the rows changed holds of it still
pub here_dealt : (column : List RegionPass) (rows now : List Passes) (from : ℕ) (P : ℕ → Passes → Type 0) → length now ≡ length rows → Each rows (DealtFrom column now from) → Each rows P
    → (k : ℕ) (x : Passes) → get_elem? now k ≡ some x → k < from → P k x
here_dealt column rows now from P long all each k x e low =
    let r = get_there rows k (let t = there now k x e in omega (arith, t, long)) in
    let same : r.0 ≡ x = some-injective r.0 x (sym ((all k r.0 r.1).below low) ∙ e) in
    subst (P k) same (each k r.0 r.1)

pub here_given : (home : List RegionPass) (rows now : List Passes) (to : ℕ) (P : ℕ → Passes → Type 0) → length now ≡ length rows → Each rows (GivenTo home now to) → Each rows P
    → (k : ℕ) (x : Passes) → get_elem? now k ≡ some x → to ≤ k → P k x
here_given home rows now to P long all each k x e low =
    let r = get_there rows k (let t = there now k x e in omega (arith, t, long)) in
    let same : r.0 ≡ x = some-injective r.0 x (sym ((all k r.0 r.1).above low) ∙ e) in
    subst (P k) same (each k r.0 r.1)

-- a fresh row gets a pass of a cell more
pub fresh_more : (cells : List (Turns Shared)) (t : Turns Shared) (slots more : List (std.Option RegionPass)) (i : ℕ) (p : RegionPass) → IsFreshRow cells slots i → more ≡ slots ++ Some p ∷ []
    → (pass_number p ≡ i) × IsPassOf p t × (pass_list p ≡ []) → IsFreshRow (cells ++ t ∷ []) more i
fresh_more cells t slots more i p f is h = subst (λ l. IsFreshRow (cells ++ t ∷ []) l i) (sym is) (
  let a = length-append cells (t ∷ []) in let b = length-append slots (Some p ∷ []) in let n = f.0 in omega (arith, a, b, n),
  each_push cells t (λ k u. (q : RegionPass) × (get_elem? (slots ++ Some p ∷ []) k ≡ some (Some q)) × IsPassOf q u × (pass_number q ≡ i) × (pass_list q ≡ []))
      (λ k u e. let o = f.1 k u e in (o.0, at_longer slots (Some p ∷ []) k (Some o.0) o.1, o.2, o.3, o.4))
      (p, at_last slots (Some p) (length cells) (sym f.0), h.1, h.0, h.2),
)

-- fresh passes are passes
pub fresh_are_rows : (cells : List (Turns Shared)) (n : ℕ) (rows : List Passes) → AreFreshRows cells n rows → AreRows cells n rows
fresh_are_rows cells n rows f = (f.0, λ i r e. let x = f.1 i r e in (x.0, λ k t z. let o = x.1 k t z in (o.0, o.1, o.2, o.3)))

pub rows_as : (cells others : List (Turns Shared)) (n m : ℕ) (rows same : List Passes) → others ≡ cells → m ≡ n → same ≡ rows → AreRows cells n rows → AreRows others m same
rows_as cells others n m rows same p q r a = subst (λ l. AreRows l m same) (sym p) (subst (λ k. AreRows cells k same) (sym q) (subst (λ l. AreRows cells n l) (sym r) a))
