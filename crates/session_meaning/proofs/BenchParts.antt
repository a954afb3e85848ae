-- The parts of a bench's calls tile its entries: each entry is in the part of one of them.
use Rattle.std.proofs.Common.{◌≡◌, ℕ, zero, suc, ◌+◌, ◌<◌, ◌≤◌, Bool, true, false, cond, List, [], ◌∷◌, Option, Some, None, refl, sym, ap, ap₂, ◌∙◌, length, slice_get, filter, is_some, subst, arith}
use Rattle.std.specs.Prelude.{◌&&◌, ◌==◌, nat_lt}
use Rattle.std.proofs.lemmas.Bool.{and_parts, eqb-true, ltb-true, ltb-false, eqb-false}
use Rattle.faaslet_meaning.specs.declared.call.CallRecord.{CallRecord}
use Rattle.faaslet_meaning.specs.declared.call.CallState.{CallState}
use Rattle.faaslet_meaning.specs.declared.call.CallState.TheVariants.{Queued, Taken, Finished}
use Rattle.faaslet_meaning.specs.declared.grant.Channel.{Channel}
use Rattle.faaslet_meaning.specs.Lists.{total}
use Rattle.session_meaning.specs.Plan.{Plan}
use Rattle.session_meaning.specs.Own.{Session, bench_of, order_of, count_on, is_of_bench, made_before}
use Rattle.session_meaning.proofs.Kept.{get_map}
use Rattle.session_meaning.proofs.Orders.{mark, marks, InOrder}

-- ---- Counts in an order.

module _ {A : Type 0} (is : A → Bool) (order count : A → ℕ) where
  abbrev before : ℕ → List A → ℕ
  before n xs = total count (filter (λ x. is x && nat_lt (order x) n) xs)

  abbrev at : ℕ → List A → ℕ
  at n xs = total count (filter (λ x. is x && (order x == n)) xs)

  abbrev all : List A → ℕ
  all xs = total count (filter is xs)

  -- one element of a list, or none, that passes tests
  abbrev picked : Bool → A → ℕ → ℕ
  picked b x n = cond b (count x + n) n

  total_picked : (test : A → Bool) (x : A) (xs : List A) → total count (filter test (x ∷ xs)) ≡ picked (test x) x (total count (filter test xs))
  total_picked test x xs = by (test x)
    where
      by : (b : Bool) → total count (cond b (x ∷ filter test xs) (filter test xs)) ≡ picked b x (total count (filter test xs))
      by true = refl
      by false = refl

  none_before : (xs : List A) → before 0 xs ≡ 0
  none_before [] = refl
  none_before (x ∷ xs) = total_picked (λ x. is x && nat_lt (order x) 0) x xs ∙ by (is x) (nat_lt (order x) 0) refl (none_before xs)
    where
      by : (b c : Bool) → nat_lt (order x) 0 ≡ c → before 0 xs ≡ 0 → picked (b && c) x (before 0 xs) ≡ 0
      by true true e h = let l = ltb-true (order x) 0 e in let no : ⊥ = omega (arith, l) in absurd no
      by true false e h = h
      by false c e h = h

  one_more : (n : ℕ) (xs : List A) → before (suc n) xs ≡ before n xs + at n xs
  one_more n [] = refl
  one_more n (x ∷ xs) =
      total_picked (λ x. is x && nat_lt (order x) (suc n)) x xs
      ∙ by (is x) (nat_lt (order x) (suc n)) (nat_lt (order x) n) (order x == n) refl refl refl (one_more n xs)
      ∙ sym (ap₂ (λ a b. a + b) (total_picked (λ x. is x && nat_lt (order x) n) x xs) (total_picked (λ x. is x && (order x == n)) x xs))
    where
      by : (b more less same : Bool) → nat_lt (order x) (suc n) ≡ more → nat_lt (order x) n ≡ less → (order x == n) ≡ same → before (suc n) xs ≡ before n xs + at n xs → picked (b && more) x (before (suc n) xs) ≡ picked (b && less) x (before n xs) + picked (b && same) x (at n xs)
      by false more less same e f g h = h
      by true true true false e f g h = omega (arith, h)
      by true true false true e f g h = omega (arith, h)
      by true false false false e f g h = h
      by true true true true e f g h = let l = ltb-true (order x) n f in let k = eqb-true (order x) n g in let no : ⊥ = omega (arith, l, k) in absurd no
      by true true false false e f g h = let l = ltb-true (order x) (suc n) e in let k = eqb-false (order x) n g in let m = ltb-false (order x) n f in let no : ⊥ = k (omega (arith, l, m)) in absurd no
      by true false true same e f g h = let l = ltb-true (order x) n f in let m = ltb-false (order x) (suc n) e in let no : ⊥ = omega (arith, l, m) in absurd no
      by true false false true e f g h = let k = eqb-true (order x) n g in let m = ltb-false (order x) (suc n) e in let no : ⊥ = omega (arith, k, m) in absurd no

  all_before : (n : ℕ) (xs : List A) → ((m : ℕ) (x : A) → slice_get xs m ≡ Some x → is x ≡ true → order x < n) → before n xs ≡ all xs
  all_before n [] h = refl
  all_before n (x ∷ xs) h = total_picked (λ x. is x && nat_lt (order x) n) x xs ∙ by (is x) (nat_lt (order x) n) refl refl (all_before n xs (λ m y e i. h (suc m) y e i)) ∙ sym (total_picked is x xs)
    where
      by : (b c : Bool) → is x ≡ b → nat_lt (order x) n ≡ c → before n xs ≡ all xs → picked (b && c) x (before n xs) ≡ picked b x (all xs)
      by true true e f k = ap (λ m. count x + m) k
      by true false e f k = let l = h 0 x refl e in let m = ltb-false (order x) n f in let no : ⊥ = omega (arith, l, m) in absurd no
      by false c e f k = k

  -- a number below the whole lies in the count of one place of the order
  place : (n i : ℕ) (xs : List A) → i < before n xs → (m : ℕ) × (before m xs ≤ i) × (i < before (suc m) xs)
  place zero i xs l = let none = none_before xs in let no : ⊥ = omega (arith, l, none) in absurd no
  place (suc n) i xs l = by (nat_lt i (before n xs)) refl (λ k. place n i xs k)
    where
      by : (b : Bool) → nat_lt i (before n xs) ≡ b → (i < before n xs → (m : ℕ) × (before m xs ≤ i) × (i < before (suc m) xs)) → (m : ℕ) × (before m xs ≤ i) × (i < before (suc m) xs)
      by true e go = go (ltb-true i (before n xs) e)
      by false e go = let m = ltb-false i (before n xs) e in (n, m, l)

  record One (test : A → Bool) (xs : List A) : Type 0 where
    pub spot : ℕ
    pub is_it : A
    pub here : slice_get xs spot ≡ Some is_it
    pub passes : test is_it ≡ true
    pub count_so : total count (filter test xs) ≡ count is_it

  none_of : (test : A → Bool) (xs : List A) → ((m : ℕ) (x : A) → slice_get xs m ≡ Some x → test x ≡ true → ⊥) → total count (filter test xs) ≡ 0
  none_of test [] h = refl
  none_of test (x ∷ xs) h = total_picked test x xs ∙ by (test x) refl (none_of test xs (λ m y e i. h (suc m) y e i))
    where
      by : (b : Bool) → test x ≡ b → total count (filter test xs) ≡ 0 → picked b x (total count (filter test xs)) ≡ 0
      by true e k = absurd (h 0 x refl e)
      by false e k = k

  one_of : (test : A → Bool) (xs : List A) → ((m n : ℕ) (x y : A) → slice_get xs m ≡ Some x → slice_get xs n ≡ Some y → test x ≡ true → test y ≡ true → m ≡ n) → 0 < total count (filter test xs) → One test xs
  one_of test [] h l = let no : ⊥ = omega (arith, l) in absurd no
  one_of test (x ∷ xs) h l = by (test x) refl (λ k. one_of test xs (λ m n y z f g i j. let same = h (suc m) (suc n) y z f g i j in omega (arith, same)) k)
    where
      by : (b : Bool) → test x ≡ b → (0 < total count (filter test xs) → One test xs) → One test (x ∷ xs)
      by true e go =
          let rest = none_of test xs (λ m y f i. let same = h 0 (suc m) x y refl f e i in let no : ⊥ = omega (arith, same) in no) in
          record { spot = 0; is_it = x; here = refl; passes = e; count_so = total_picked test x xs ∙ ap (λ b. picked b x (total count (filter test xs))) e ∙ omega (arith, rest) }
      by false e go =
          let same = total_picked test x xs ∙ ap (λ b. picked b x (total count (filter test xs))) e in
          let o = go (omega (arith, l, same)) in
          record { spot = suc o.spot; is_it = o.is_it; here = o.here; passes = o.passes; count_so = same ∙ o.count_so }

-- ---- The calls of a bench.

-- the call in whose part the entry of this number lies, among those of a bench on a channel
pub record Found (plan : Plan) (s : Session) (bench : ℕ) (ch : Channel) (i : ℕ) : Type 0 where
  pub call : ℕ
  pub r : CallRecord
  pub here : slice_get s.records call ≡ Some r
  pub of_bench : is_of_bench bench r ≡ true
  pub from : made_before plan s bench (order_of r.state) ch ≤ i
  pub below : i < made_before plan s bench (order_of r.state) ch + count_on plan r ch

of_bench_mark : (bench : ℕ) (s : CallState) → elim (bench_of s) as (λ o. Bool) [ None ↦ false | Some b ↦ b == bench ] ≡ true → mark s ≡ Some (order_of s)
of_bench_mark bench Queued h = let no : ⊥ = cc in absurd no
of_bench_mark bench (Taken host b order) h = refl
of_bench_mark bench (Finished host b order o used output counts) h = refl

marked : (rs : List CallRecord) (m bench : ℕ) (r : CallRecord) → slice_get rs m ≡ Some r → is_of_bench bench r ≡ true → slice_get (marks rs) m ≡ Some (Some (order_of r.state))
marked rs m bench r e h = get_map (λ r. mark r.state) rs m ∙ ap (λ o. elim o as (λ o. Option (Option ℕ)) [ None ↦ None | Some r ↦ Some (mark r.state) ]) e ∙ ap (λ x. Some x) (of_bench_mark bench r.state h)

pub one_call : (s : Session) (bench m n : ℕ) (q r : CallRecord) → InOrder (marks s.records) → slice_get s.records m ≡ Some q → slice_get s.records n ≡ Some r → is_of_bench bench q ≡ true → is_of_bench bench r ≡ true → order_of q.state ≡ order_of r.state → m ≡ n
one_call s bench m n q r fine e f h k same = fine.apart m n (order_of r.state) (marked s.records m bench q e h ∙ ap (λ o. Some (Some o)) same) (marked s.records n bench r f k)

pub found : (plan : Plan) (s : Session) (bench i : ℕ) (ch : Channel) → InOrder (marks s.records) → i < total (λ r. count_on plan r ch) (filter (is_of_bench bench) s.records) → Found plan s bench ch i
found plan s bench i ch fine l =
    let is = is_of_bench bench in
    let order = λ (r : CallRecord). order_of r.state in
    let count = λ (r : CallRecord). count_on plan r ch in
    let most = length (filter is_some (marks s.records)) in
    let whole = all_before is order count most s.records (λ m r e h. fine.below m (order_of r.state) (marked s.records m bench r e h)) in
    let p = place is order count most i s.records (omega (arith, l, whole)) in
    let more = one_more is order count p.0 s.records in
    let low = p.1 in
    let high = p.2 in
    let one = one_of is order count (λ r. is r && (order_of r.state == p.0)) s.records (λ m n q r e f h k.
    let a = and_parts (is q) (order_of q.state == p.0) h in
    let b = and_parts (is r) (order_of r.state == p.0) k in
    one_call s bench m n q r fine e f a.0 b.0 (eqb-true (order_of q.state) p.0 a.1 ∙ sym (eqb-true (order_of r.state) p.0 b.1))) (omega (arith, more, low, high)) in
    let passes = and_parts (is one.is_it) (order_of one.is_it.state == p.0) one.passes in
    let at_order = eqb-true (order_of one.is_it.state) p.0 passes.1 in
    let from : made_before plan s bench (order_of one.is_it.state) ch ≤ i = subst (λ n. made_before plan s bench n ch ≤ i) (sym at_order) low in
    let same : made_before plan s bench (order_of one.is_it.state) ch ≡ made_before plan s bench p.0 ch = ap (λ n. made_before plan s bench n ch) at_order in
    let counted = one.count_so in
    record { call = one.spot; r = one.is_it; here = one.here; of_bench = passes.0; from = from; below = omega (arith, high, more, counted, same) }
