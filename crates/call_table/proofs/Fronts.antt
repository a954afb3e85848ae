-- Places before which no call is queued: where the search stops is the first that is, and changes of the records keep them.
use Rattle.std.proofs.Common.{◌≡◌, ℕ, zero, suc, ◌+◌, ◌<◌, ◌≤◌, List, [], ◌∷◌, ◌++◌, length, Bool, true, false, Option, Some, None, get_or, slice_get, slice_set, IfSome, IfNone, refl, sym, ap, ◌∙◌, arith}
use mathlib.Core.Logic.{dite}
use native.Mathlib.Decide.{ℕ_discrete}
use Rattle.std.proofs.lemmas.List.{length-set, length_push}
use Rattle.std.proofs.lemmas.Option.{slice_get_read, same_Some}
use Rattle.faaslet_meaning.specs.declared.call.CallRecord.{CallRecord}
use Rattle.faaslet_meaning.specs.Lists.{first, places_from, places, passes_at}
use Rattle.call_table.specs.Heads.{at_host, anywhere, NoneBefore, StopsAt, HeadsFit}
use Rattle.call_table.specs.declared.heads.Heads.{Heads}
use Rattle.call_table.proofs.Places.{passes_so}

module _ (test : CallRecord → Bool) (rs : List CallRecord) where
  read_so : (p : ℕ) (r : CallRecord) → p < length rs → r ≡ get_or rs p r → passes_at test rs p ≡ test r
  read_so p r low is = passes_so test rs p r (slice_get_read rs (length rs) p r refl low is)

  pub none_more : (p : ℕ) (r : CallRecord) → NoneBefore test p rs → p < length rs → r ≡ get_or rs p r → test r ≡ false → NoneBefore test (p + 1) rs
  none_more p r h low is f = record { within = omega arith; none = by }
    where
      by : (n : ℕ) → n < p + 1 → passes_at test rs n ≡ false
      by n l = dite (ℕ_discrete n p) (λ e. ap (passes_at test rs) e ∙ read_so p r low is ∙ f) (λ ne. h.none n (omega arith))

  pub stops_here : (p : ℕ) (r : CallRecord) → NoneBefore test p rs → p < length rs → r ≡ get_or rs p r → test r ≡ true → StopsAt test p rs
  stops_here p r h low is t = record { before = record { within = h.within; none = h.none }; here = λ l. read_so p r low is ∙ t }

  pub stops_last : (p : ℕ) → NoneBefore test p rs → length rs ≤ p → StopsAt test p rs
  stops_last p h high = record { before = record { within = h.within; none = h.none }; here = λ l. absurd (omega arith) }

-- ---- The first place.

first_from : (test : CallRecord → Bool) (m p : ℕ) (rs : List CallRecord) → ((n : ℕ) → n < p → passes_at test rs n ≡ false) → passes_at test rs p ≡ true → first (places_from m test rs) ≡ Some (m + p)
first_from test m p [] none e = let no : ⊥ = cc in absurd no
first_from test m zero (x ∷ xs) none e = rw e (let z : m ≡ m + zero = omega arith in ap (λ k. Some k) z)
first_from test m (suc p) (x ∷ xs) none e =
    let x_not : test x ≡ false = none zero (omega arith) in
    let rest = first_from test (m + 1) p xs (λ n l. none (suc n) (omega arith)) e in
    let z : (m + 1) + p ≡ m + suc p = omega arith in
    rw x_not (rest ∙ ap (λ k. Some k) z)

none_from : (test : CallRecord → Bool) (m : ℕ) (rs : List CallRecord) → ((n : ℕ) → n < length rs → passes_at test rs n ≡ false) → places_from m test rs ≡ []
none_from test m [] none = refl
none_from test m (x ∷ xs) none =
    let x_not : test x ≡ false = none zero (omega arith) in
    rw x_not (none_from test (m + 1) xs (λ n l. none (suc n) (omega arith)))

pub first_place : (test : CallRecord → Bool) (rs : List CallRecord) (p : ℕ) → StopsAt test p rs → p < length rs → first (places test rs) ≡ Some p
first_place test rs p s low = first_from test 0 p rs s.before.none (s.here low) ∙ ap (λ k. Some k) (let z : 0 + p ≡ p = omega arith in z)

pub no_place : (test : CallRecord → Bool) (rs : List CallRecord) (p : ℕ) → StopsAt test p rs → length rs ≤ p → places test rs ≡ []
no_place test rs p s high = none_from test 0 rs (λ n l. s.before.none n (omega arith))

pub first_of_two : (xs ys : List ℕ) (o : Option ℕ) (n : ℕ) → first xs ≡ Some n → first (xs ++ ys) ≡ Some n
first_of_two [] ys o n e = let no : ⊥ = cc in absurd no
first_of_two (x ∷ xs) ys o n e = e

pub second_of_two : (xs ys : List ℕ) → first xs ≡ None → first (xs ++ ys) ≡ first ys
second_of_two [] ys e = refl
second_of_two (x ∷ xs) ys e = let no : ⊥ = cc in absurd no

pub none_in_two : (xs ys : List ℕ) → first (xs ++ ys) ≡ None → ys ≡ []
none_in_two [] [] e = refl
none_in_two [] (y ∷ ys) e = let no : ⊥ = cc in absurd no
none_in_two (x ∷ xs) ys e = let no : ⊥ = cc in absurd no

-- what was found at the place where the search stops
pub found_is : (test : CallRecord → Bool) (rs : List CallRecord) (p : ℕ) (o : Option ℕ) → StopsAt test p rs → IfSome o (λ n. (n ≡ p) × (p < length rs)) → IfNone o (length rs ≤ p) → o ≡ first (places test rs)
found_is test rs p (Some n) s some none = ap (λ k. Some k) some.0 ∙ sym (first_place test rs p s some.1)
found_is test rs p None s some none = sym (ap first (no_place test rs p s none))

-- ---- Changes of the records.

pub pushed_at : {A : Type 0} (test : A → Bool) (rs : List A) (r : A) (n : ℕ) → n < length rs → passes_at test (rs ++ r ∷ []) n ≡ passes_at test rs n
pushed_at test [] r n low = absurd (omega arith)
pushed_at test (x ∷ rs) r zero low = refl
pushed_at test (x ∷ rs) r (suc n) low = pushed_at test rs r n (omega arith)

set_at : {A : Type 0} (test : A → Bool) (rs : List A) (n k : ℕ) (r x : A) → slice_get rs n ≡ Some r → (test r ≡ false → test x ≡ false) → passes_at test rs k ≡ false → passes_at test (slice_set rs n x) k ≡ false
set_at test [] n k r x e h f = f
set_at test (y ∷ rs) zero zero r x e h f = h (ap test (sym (same_Some y r e)) ∙ f)
set_at test (y ∷ rs) zero (suc k) r x e h f = f
set_at test (y ∷ rs) (suc n) zero r x e h f = f
set_at test (y ∷ rs) (suc n) (suc k) r x e h f = set_at test rs n k r x e h f

none_pushed : (test : CallRecord → Bool) (p : ℕ) (rs : List CallRecord) (r : CallRecord) → NoneBefore test p rs → NoneBefore test p (rs ++ r ∷ [])
none_pushed test p rs r h =
    let len = length_push rs r in
    let within = h.within in
    record { within = omega arith; none = λ n l. pushed_at test rs r n (omega arith) ∙ h.none n l }

none_set : (test : CallRecord → Bool) (p : ℕ) (rs : List CallRecord) (n : ℕ) (r x : CallRecord) → slice_get rs n ≡ Some r → (test r ≡ false → test x ≡ false) → NoneBefore test p rs → NoneBefore test p (slice_set rs n x)
none_set test p rs n r x e k h =
    let len = length-set rs n x in
    let within = h.within in
    record { within = omega arith; none = λ m l. set_at test rs n m r x e k (h.none m l) }

pub heads_pushed : (rs : List CallRecord) (heads : Heads) (r : CallRecord) → HeadsFit rs heads → HeadsFit (rs ++ r ∷ []) heads
heads_pushed rs heads r h = record {
  each = λ host. none_pushed (at_host host) (get_or heads.at.items host 0) rs r (h.each host);
  all = none_pushed anywhere heads.any rs r h.all;
}

pub heads_set : (rs : List CallRecord) (heads : Heads) (n : ℕ) (r x : CallRecord) → slice_get rs n ≡ Some r → ((host : ℕ) → at_host host r ≡ false → at_host host x ≡ false) → (anywhere r ≡ false → anywhere x ≡ false)
    → HeadsFit rs heads → HeadsFit (slice_set rs n x) heads
heads_set rs heads n r x e each all h = record {
  each = λ host. none_set (at_host host) (get_or heads.at.items host 0) rs n r x e (each host) (h.each host);
  all = none_set anywhere heads.any rs n r x e all h.all;
}
