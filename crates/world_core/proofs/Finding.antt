-- Where a search ends, and what holds of each item of an edited list.
use Rattle.std.proofs.Common.{◌≡◌, ℕ, zero, suc, ◌+◌, ◌<◌, ◌≤◌, All, Bool, true, false, not, cond, List, [], ◌∷◌, ◌++◌, Some, None, length, map, take, refl, sym, ap, ◌∙◌, slice_index_or, append_assoc, arith}
use Rattle.std.specs.Prelude.{◌==◌, nat_lt, position}
use Rattle.std.specs.List.{insert, remove, position_or_len}
use Rattle.std.proofs.lemmas.Bool.{eq-eqb, eqb-false, lt-ltb, ltb-false, ltb-true}
use Rattle.world_core.proofs.Places.{among, among_more}

pub some_same : {A : Type 0} {x y : A} → Some x ≡ Some y → x ≡ y
some_same e = cc

-- ---- A search.

pub up_to : {A : Type 0} (p : A → Bool) (xs : List A) → position_or_len p xs ≤ length xs
up_to p [] = omega arith
up_to p (x ∷ xs) = by (p x) (up_to p xs)
  where
    by : (b : Bool) → position_or_len p xs ≤ length xs → cond (not b) (1 + position_or_len p xs) 0 ≤ suc (length xs)
    by true h = omega arith
    by false h = omega (arith, h)

pub found_first : {A : Type 0} (p : A → Bool) (xs : List A) (i : ℕ) → position p xs ≡ Some i → (i ≡ position_or_len p xs) × (i < length xs)
found_first p xs i e = by (nat_lt (position_or_len p xs) (length xs)) refl e
  where
    by : (b : Bool) → nat_lt (position_or_len p xs) (length xs) ≡ b → cond b (Some (position_or_len p xs)) None ≡ Some i → (i ≡ position_or_len p xs) × (i < length xs)
    by true h f =
        let same : position_or_len p xs ≡ i = cc in
        let l = ltb-true (position_or_len p xs) (length xs) h in
        (sym same, omega (arith, same, l))
    by false h f = let bad : ⊥ = cc in absurd bad

pub found_none : {A : Type 0} (p : A → Bool) (xs : List A) → position p xs ≡ None → length xs ≡ position_or_len p xs
found_none p xs e = by (nat_lt (position_or_len p xs) (length xs)) refl e
  where
    by : (b : Bool) → nat_lt (position_or_len p xs) (length xs) ≡ b → cond b (Some (position_or_len p xs)) None ≡ None → length xs ≡ position_or_len p xs
    by true h f = let bad : ⊥ = cc in absurd bad
    by false h f =
        let l = ltb-false (position_or_len p xs) (length xs) h in
        let m = up_to p xs in
        omega (arith, l, m)

-- ---- All items of an edited list.

all_first : {A : Type 0} (P : A → Type 0) (x : A) (xs : List A) → P x → All P xs → All P (x ∷ xs)
all_first P x xs h all zero d l = h
all_first P x xs h all (suc n) d l = all n d (omega (arith, l))

all_rest : {A : Type 0} (P : A → Type 0) (x : A) (xs : List A) → All P (x ∷ xs) → All P xs
all_rest P x xs all n d l = all (suc n) d (omega (arith, l))

pub all_insert : {A : Type 0} (P : A → Type 0) (xs : List A) (i : ℕ) (x : A) → P x → All P xs → All P (insert xs i x)
all_insert P [] zero x h all = all_first P x [] h all
all_insert P [] (suc i) x h all = all_first P x [] h all
all_insert P (y ∷ xs) zero x h all = all_first P x (y ∷ xs) h all
all_insert P (y ∷ xs) (suc i) x h all = all_first P y (insert xs i x) (all 0 y (omega arith)) (all_insert P xs i x h (all_rest P y xs all))

pub all_remove : {A : Type 0} (P : A → Type 0) (xs : List A) (i : ℕ) → All P xs → All P (remove xs i)
all_remove P [] zero all = all
all_remove P [] (suc i) all = all
all_remove P (y ∷ xs) zero all = all_rest P y xs all
all_remove P (y ∷ xs) (suc i) all = all_first P y (remove xs i) (all 0 y (omega arith)) (all_remove P xs i (all_rest P y xs all))

-- an item's number is among the numbers
among_first : {A : Type 0} (f : A → ℕ) (x : A) (xs : List A) (m : ℕ) → (f x == m) ≡ true → among m (f x ∷ map f xs) ≡ true
among_first f x xs m e = ap (λ b. nat_lt (cond (not b) (1 + position_or_len (λ k. k == m) (map f xs)) 0) (suc (length (map f xs)))) e ∙ lt-ltb 0 (suc (length (map f xs))) (omega arith)

among_behind : {A : Type 0} (f : A → ℕ) (x : A) (xs : List A) (m : ℕ) → among m (map f xs) ≡ true → among m (f x ∷ map f xs) ≡ true
among_behind f x xs m h = by (f x == m) refl
  where
    by : (b : Bool) → (f x == m) ≡ b → among m (f x ∷ map f xs) ≡ true
    by true e = among_first f x xs m e
    by false e = among_more m (f x) (map f xs) (eqb-false (f x) m e) ∙ h

pub item_among : {A : Type 0} (f : A → ℕ) (xs : List A) (n : ℕ) (d : A) → n < length xs → among (f (slice_index_or xs n d)) (map f xs) ≡ true
item_among f [] n d l = let bad : ⊥ = omega (arith, l) in absurd bad
item_among f (x ∷ xs) zero d l = among_first f x xs (f x) (eq-eqb (f x) (f x) refl)
item_among f (x ∷ xs) (suc n) d l = among_behind f x xs (f (slice_index_or xs n d)) (item_among f xs n d (omega (arith, l)))

-- ---- The front of a list.

take_less : (n m : ℕ) (xs : List ℕ) → n ≤ m → take n (take m xs) ≡ take n xs
take_less zero m xs l = refl
take_less (suc n) zero xs l = let bad : ⊥ = omega (arith, l) in absurd bad
take_less (suc n) (suc m) [] l = refl
take_less (suc n) (suc m) (x ∷ xs) l = ap (λ l. x ∷ l) (take_less n m xs (omega (arith, l)))

take_front : (xs ys : List ℕ) → take (length xs) (xs ++ ys) ≡ xs
take_front [] ys = refl
take_front (x ∷ xs) ys = ap (λ l. x ∷ l) (take_front xs ys)

pub front_of : (n m : ℕ) (front rest tail xs : List ℕ) → n ≡ length front → n ≤ m → xs ≡ front ++ rest → take n (take m (xs ++ tail)) ≡ front
front_of n m front rest tail xs e l same =
    let apart : (front ++ rest) ++ tail ≡ front ++ (rest ++ tail) = simp append_assoc in
    take_less n m (xs ++ tail) l
    ∙ ap (λ ys. take n (ys ++ tail)) same
    ∙ ap (take n) apart
    ∙ ap (λ k. take k (front ++ (rest ++ tail))) e
    ∙ take_front front (rest ++ tail)
