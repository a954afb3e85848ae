-- One item of a list in place of another, and numbers that stand at one place alone.
use Rattle.std.proofs.Common.{◌≡◌, ℕ, zero, suc, ◌+◌, ◌≤◌, Bool, true, false, cond, List, [], ◌∷◌, Some, refl, sym, ap, ◌∙◌, map, slice_get, slice_set, arith}
use Rattle.std.proofs.lemmas.Option.{same_Some}
use Rattle.faaslet_meaning.specs.Lists.{places_from}

low : {A : Type 0} (test : A → Bool) (k : ℕ) (xs : List A) (i n : ℕ) → slice_get (places_from k test xs) i ≡ Some n → k ≤ n
low test k [] i n e = let no : ⊥ = cc in absurd no
low test k (x ∷ xs) i n e = by (test x) i e (λ i e. low test (k + 1) xs i n e)
  where
    by : (b : Bool) (i : ℕ) → slice_get (cond b (k ∷ places_from (k + 1) test xs) (places_from (k + 1) test xs)) i ≡ Some n → ((i : ℕ) → slice_get (places_from (k + 1) test xs) i ≡ Some n → k + 1 ≤ n) → k ≤ n
    by true zero e go = let same : k ≡ n = same_Some _ _ e in omega (arith, same)
    by true (suc i) e go = let l = go i e in omega (arith, l)
    by false i e go = let l = go i e in omega (arith, l)

-- a number stands at one place alone
pub one_place : {A : Type 0} (test : A → Bool) (k : ℕ) (xs : List A) (i j n : ℕ) → slice_get (places_from k test xs) i ≡ Some n → slice_get (places_from k test xs) j ≡ Some n → i ≡ j
one_place test k [] i j n e f = let no : ⊥ = cc in absurd no
one_place test k (x ∷ xs) i j n e f = by (test x) i j e f (λ i j e f. one_place test (k + 1) xs i j n e f)
  where
    by : (b : Bool) (i j : ℕ) → slice_get (cond b (k ∷ places_from (k + 1) test xs) (places_from (k + 1) test xs)) i ≡ Some n → slice_get (cond b (k ∷ places_from (k + 1) test xs) (places_from (k + 1) test xs)) j ≡ Some n → ((i j : ℕ) → slice_get (places_from (k + 1) test xs) i ≡ Some n → slice_get (places_from (k + 1) test xs) j ≡ Some n → i ≡ j) → i ≡ j
    by true zero zero e f go = refl
    by true zero (suc j) e f go = let same : k ≡ n = same_Some _ _ e in let l = low test (k + 1) xs j n f in let no : ⊥ = omega (arith, same, l) in absurd no
    by true (suc i) zero e f go = let same : k ≡ n = same_Some _ _ f in let l = low test (k + 1) xs i n e in let no : ⊥ = omega (arith, same, l) in absurd no
    by true (suc i) (suc j) e f go = ap suc (go i j e f)
    by false i j e f go = go i j e f

pub set_here : {A : Type 0} (xs : List A) (i : ℕ) (x y : A) → slice_get xs i ≡ Some x → slice_get (slice_set xs i y) i ≡ Some y
set_here [] i x y e = let no : ⊥ = cc in absurd no
set_here (z ∷ xs) zero x y e = refl
set_here (z ∷ xs) (suc i) x y e = set_here xs i x y e

pub set_apart : {A : Type 0} (xs : List A) (i j : ℕ) (y : A) → (j ≡ i → ⊥) → slice_get (slice_set xs i y) j ≡ slice_get xs j
set_apart [] i j y ne = refl
set_apart (z ∷ xs) zero zero y ne = absurd (ne refl)
set_apart (z ∷ xs) zero (suc j) y ne = refl
set_apart (z ∷ xs) (suc i) zero y ne = refl
set_apart (z ∷ xs) (suc i) (suc j) y ne = set_apart xs i j y (λ e. ne (ap suc e))

pub same_numbers : {A : Type 0} (f : A → ℕ) (xs : List A) (i : ℕ) (x y : A) → slice_get xs i ≡ Some x → f y ≡ f x → map f (slice_set xs i y) ≡ map f xs
same_numbers f [] i x y e k = let no : ⊥ = cc in absurd no
same_numbers f (z ∷ xs) zero x y e k = ap (λ n. n ∷ map f xs) (k ∙ ap f (sym (same_Some _ _ e)))
same_numbers f (z ∷ xs) (suc i) x y e k = ap (λ ns. f z ∷ ns) (same_numbers f xs i x y e k)
