-- How many pieces a range has.
use Rattle.std.proofs.Common.{◌≡◌, ℕ, suc, ◌+◌, ◌-◌, ◌*◌, ◌/◌, ◌≤◌, List, [], ◌∷◌, length, refl, arith, Some, Bool, true, false, cond, take, not}
use Rattle.std.specs.Prelude.{nat_lt, ◌==◌, drop, filter, min}
use Rattle.std.proofs.lemmas.Bool.{ltb-true}
use Rattle.std.specs.Int.{Width, w8, w16, w32, w64, w128}
use mir.Val.{bits}
use Rattle.faaslet_meaning.specs.Lists.{row_at}
use Rattle.faaslet_meaning.specs.LoadStore.{store_of, Load, load_size, stores}
use Rattle.faaslet_meaning.specs.Memory.{Memory, Segment, Home, private, mapped, is_private, Piece, page_size, cut, pieces, writes, Written, write_on, put, reading, writing}
use Rattle.faaslet_meaning.specs.Bounds.{left_of}

-- a choice with what its test says
pub when : {A : Type 0} (P : A → Type 0) (b : Bool) (x y : A) → (b ≡ true → P x) → (b ≡ false → P y) → P (cond b x y)
when P true x y h k = h refl
when P false x y h k = k refl

filter_few : {A : Type 0} (p : A → Bool) (xs : List A) → length (filter p xs) ≤ length xs
filter_few p [] = omega arith
filter_few p (x ∷ xs) = when (λ ys. length ys ≤ suc (length xs)) (p x) (x ∷ filter p xs) (filter p xs) (λ e. let r = filter_few p xs in omega arith) (λ e. let r = filter_few p xs in omega arith)

pub cut_few : (ss : List Segment) (base at n : ℕ) → length (cut ss base at n) ≤ n
cut_few [] base at n = omega arith
cut_few (s ∷ ss) base at n =
    let next = base + s.pages * page_size in
    let here = min n (next - at) in
    when (λ ps. length ps ≤ n) (nat_lt 0 here) (record { home = s.home; off = at - base; at = at; size = here } ∷ cut ss next (at + here) (n - here)) (cut ss next at n) (λ e. let r = cut_few ss next (at + here) (n - here) in let some = ltb-true 0 here e in omega arith) (λ e. cut_few ss next at n)

pub reading_asks : (m : Memory) (at n : ℕ) → left_of (reading m at n) ≤ n
reading_asks m at n =
    let a = filter_few (λ p. not (is_private p.home)) (pieces m at n) in
    let b = cut_few m.segments 0 at n in
    omega arith

-- what a write that goes on over these pieces asks
pub write_asks : (ps : List Piece) (m : Memory) (bs : List ℕ) → left_of (write_on ps m bs).access ≤ (length ps)
write_asks [] m bs = omega arith
write_asks (p ∷ ps) m bs = by p.home (write_asks ps (put m p.at (take p.size bs)) (drop p.size bs))
  where
    by : (h : Home) → left_of (write_on ps (put m p.at (take p.size bs)) (drop p.size bs)).access ≤ (length ps) → left_of (elim h as (λ _. Written) [ private ↦ write_on ps (put m p.at (take p.size bs)) (drop p.size bs) | mapped k ↦ record { memory = m; access = writes (p ∷ ps) bs } ]).access ≤ suc (length ps)
    by private r = omega arith
    by (mapped k) r = omega arith

pub writing_asks : (m : Memory) (at : ℕ) (bs : List ℕ) → left_of (writing m at bs).access ≤ (length bs)
writing_asks m at bs =
    let a = write_asks (pieces m at (length bs)) m bs in
    let b = cut_few m.segments 0 at (length bs) in
    omega arith

pub load_small : (l : Load) → load_size l ≤ 16
load_small l = by l.stored
  where
    by : (w : Width) → bits w / 8 ≤ 16
    by w8 = omega arith
    by w16 = omega arith
    by w32 = omega arith
    by w64 = omega arith
    by w128 = omega arith

-- each row of a table is small
abbrev AllSmall : List (ℕ × ℕ) → Type 0
AllSmall [] = Unit {0}
AllSmall (r ∷ rs) = (r.1 ≤ 8) × AllSmall rs

row_small : (rs : List (ℕ × ℕ)) (n k : ℕ) → AllSmall rs → row_at rs n ≡ Some k → k ≤ 8
row_small [] n k h e = cc
row_small (r ∷ rs) n k h e = when (λ o. o ≡ Some k → k ≤ 8) (r.0 == n) (Some r.1) (row_at rs n) (λ t f. let g = h.0 in let s : r.1 ≡ k = cc in omega arith) (λ t f. row_small rs n k h.1 f) e

pub store_small : (op k : ℕ) → store_of op ≡ Some k → k ≤ 8
store_small op k e = row_small stores op k (omega arith, (omega arith, (omega arith, (omega arith, (omega arith, (omega arith, (omega arith, tt))))))) e
