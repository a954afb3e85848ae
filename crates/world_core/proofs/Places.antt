-- What one item changed, or one more, does to the places of the items that pass a test; and how edits of a list find the same place.
use Rattle.std.proofs.Common.{◌≡◌, ℕ, zero, suc, ◌+◌, ◌<◌, Bool, true, false, not, cond, List, [], ◌∷◌, ◌++◌, Some, length, map, slice_get, slice_set, refl, sym, ap, ◌∙◌, arith}
use Rattle.std.specs.Prelude.{◌==◌, nat_lt}
use Rattle.std.specs.List.{insert, remove, position_or_len}
use Rattle.std.proofs.lemmas.Bool.{eq-eqb, eqb-true, lt-ltb, le-ltb, ltb-true, ltb-false, ne_eqb}
use Rattle.faaslet_meaning.specs.Lists.{passes_at, places_from}

-- ---- Lists of numbers.

one_more : (n : ℕ) → suc n ≡ 1 + n
one_more n = omega arith

-- before the first that is larger
abbrev pub put : ℕ → List ℕ → List ℕ
put n [] = n ∷ []
put n (x ∷ xs) = cond (nat_lt n x) (n ∷ x ∷ xs) (x ∷ put n xs)

-- without the first that is equal
abbrev pub without : ℕ → List ℕ → List ℕ
without n [] = []
without n (x ∷ xs) = cond (x == n) xs (x ∷ without n xs)

abbrev AllAbove : ℕ → List ℕ → Type 0
AllAbove k [] = Unit {0}
AllAbove k (x ∷ xs) = (k < x) × AllAbove k xs

put_first : (n : ℕ) (xs : List ℕ) → AllAbove n xs → put n xs ≡ n ∷ xs
put_first n [] h = refl
put_first n (x ∷ xs) h = ap (λ b. cond b (n ∷ x ∷ xs) (x ∷ put n xs)) (lt-ltb n x h.0)

pub put_is : (n : ℕ) (xs : List ℕ) → put n xs ≡ insert xs (position_or_len (λ x. nat_lt n x) xs) n
put_is n [] = refl
put_is n (x ∷ xs) = by (nat_lt n x) (put_is n xs)
  where
    by : (b : Bool) → put n xs ≡ insert xs (position_or_len (λ x. nat_lt n x) xs) n → cond b (n ∷ x ∷ xs) (x ∷ put n xs) ≡ insert (x ∷ xs) (cond (not b) (1 + position_or_len (λ x. nat_lt n x) xs) 0) n
    by true e = refl
    by false e = ap (λ l. x ∷ l) e ∙ ap (λ m. insert (x ∷ xs) m n) (one_more (position_or_len (λ x. nat_lt n x) xs))

pub without_is : (n : ℕ) (xs : List ℕ) → without n xs ≡ remove xs (position_or_len (λ x. x == n) xs)
without_is n [] = refl
without_is n (x ∷ xs) = by (x == n) (without_is n xs)
  where
    by : (b : Bool) → without n xs ≡ remove xs (position_or_len (λ x. x == n) xs) → cond b xs (x ∷ without n xs) ≡ remove (x ∷ xs) (cond (not b) (1 + position_or_len (λ x. x == n) xs) 0)
    by true e = refl
    by false e = ap (λ l. x ∷ l) e ∙ ap (λ m. remove (x ∷ xs) m) (one_more (position_or_len (λ x. x == n) xs))

-- ---- Edits of items, and of their numbers.

pub map_insert : {A : Type 0} (f : A → ℕ) (xs : List A) (i : ℕ) (x : A) → map f (insert xs i x) ≡ insert (map f xs) i (f x)
map_insert f [] zero x = refl
map_insert f [] (suc i) x = refl
map_insert f (y ∷ xs) zero x = refl
map_insert f (y ∷ xs) (suc i) x = ap (λ l. f y ∷ l) (map_insert f xs i x)

pub map_remove : {A : Type 0} (f : A → ℕ) (xs : List A) (i : ℕ) → map f (remove xs i) ≡ remove (map f xs) i
map_remove f [] zero = refl
map_remove f [] (suc i) = refl
map_remove f (y ∷ xs) zero = refl
map_remove f (y ∷ xs) (suc i) = ap (λ l. f y ∷ l) (map_remove f xs i)

pub position_map : {A : Type 0} (f : A → ℕ) (p : ℕ → Bool) (xs : List A) → position_or_len (λ x. p (f x)) xs ≡ position_or_len p (map f xs)
position_map f p [] = refl
position_map f p (x ∷ xs) = ap (λ n. cond (not (p (f x))) (1 + n) 0) (position_map f p xs)

-- ---- One item that passes now, or not any more.

places_above : {A : Type 0} (test : A → Bool) (k m : ℕ) (xs : List A) → k < m → AllAbove k (places_from m test xs)
places_above test k m [] h = tt
places_above test k m (x ∷ xs) h = by (test x) (places_above test k (m + 1) xs (omega (arith, h)))
  where
    by : (b : Bool) → AllAbove k (places_from (m + 1) test xs) → AllAbove k (cond b (m ∷ places_from (m + 1) test xs) (places_from (m + 1) test xs))
    by true r = (h, r)
    by false r = r

pub places_put : {A : Type 0} (test : A → Bool) (k i : ℕ) (xs : List A) (x z : A) → slice_get xs i ≡ Some x → test x ≡ false → test z ≡ true → places_from k test (slice_set xs i z) ≡ put (k + i) (places_from k test xs)
places_put test k i [] x z at fails holds = let bad : ⊥ = cc in absurd bad
places_put {A} test k zero (y ∷ ys) x z at fails holds =
    let same : y ≡ x = cc in
    let P : List ℕ = places_from (k + 1) test ys in
    let e : k ≡ k + 0 = omega arith in
    ap (λ b. cond b (k ∷ P) P) holds
    ∙ sym (put_first k P (places_above test k (k + 1) ys (omega arith)))
    ∙ ap (λ n. put n P) e
    ∙ ap (λ b. put (k + 0) (cond b (k ∷ P) P)) (sym (ap test same ∙ fails))
places_put {A} test k (suc i) (y ∷ ys) x z at fails holds = by (test y) (places_put test (k + 1) i ys x z at fails holds ∙ ap (λ n. put n (places_from (k + 1) test ys)) e)
  where
    e : k + 1 + i ≡ k + suc i
    e = omega arith

    by : (b : Bool) → places_from (k + 1) test (slice_set ys i z) ≡ put (k + suc i) (places_from (k + 1) test ys) → cond b (k ∷ places_from (k + 1) test (slice_set ys i z)) (places_from (k + 1) test (slice_set ys i z)) ≡ put (k + suc i) (cond b (k ∷ places_from (k + 1) test ys) (places_from (k + 1) test ys))
    by true h = ap (λ l. k ∷ l) h ∙ sym (ap (λ b. cond b ((k + suc i) ∷ k ∷ places_from (k + 1) test ys) (k ∷ put (k + suc i) (places_from (k + 1) test ys))) (le-ltb (k + suc i) k (omega arith)))
    by false h = h

pub places_without : {A : Type 0} (test : A → Bool) (k i : ℕ) (xs : List A) (x z : A) → slice_get xs i ≡ Some x → test x ≡ true → test z ≡ false → places_from k test (slice_set xs i z) ≡ without (k + i) (places_from k test xs)
places_without test k i [] x z at holds fails = let bad : ⊥ = cc in absurd bad
places_without {A} test k zero (y ∷ ys) x z at holds fails =
    let same : y ≡ x = cc in
    let P : List ℕ = places_from (k + 1) test ys in
    ap (λ b. cond b (k ∷ P) P) fails
    ∙ sym (ap (λ b. cond b P (k ∷ without (k + 0) P)) (eq-eqb k (k + 0) (omega arith)))
    ∙ ap (λ b. without (k + 0) (cond b (k ∷ P) P)) (sym (ap test same ∙ holds))
places_without {A} test k (suc i) (y ∷ ys) x z at holds fails = by (test y) (places_without test (k + 1) i ys x z at holds fails ∙ ap (λ n. without n (places_from (k + 1) test ys)) e)
  where
    e : k + 1 + i ≡ k + suc i
    e = omega arith

    ne : k ≡ k + suc i → ⊥
    ne h = omega (arith, h)

    by : (b : Bool) → places_from (k + 1) test (slice_set ys i z) ≡ without (k + suc i) (places_from (k + 1) test ys) → cond b (k ∷ places_from (k + 1) test (slice_set ys i z)) (places_from (k + 1) test (slice_set ys i z)) ≡ without (k + suc i) (cond b (k ∷ places_from (k + 1) test ys) (places_from (k + 1) test ys))
    by true h = ap (λ l. k ∷ l) h ∙ sym (ap (λ b. cond b (places_from (k + 1) test ys) (k ∷ without (k + suc i) (places_from (k + 1) test ys))) (ne_eqb k (k + suc i) ne))
    by false h = h

pub places_same : {A : Type 0} (test : A → Bool) (k i : ℕ) (xs : List A) (x z : A) → slice_get xs i ≡ Some x → test z ≡ test x → places_from k test (slice_set xs i z) ≡ places_from k test xs
places_same test k i [] x z at same = refl
places_same test k zero (y ∷ ys) x z at same = let is : y ≡ x = cc in ap (λ b. cond b (k ∷ places_from (k + 1) test ys) (places_from (k + 1) test ys)) (same ∙ sym (ap test is))
places_same test k (suc i) (y ∷ ys) x z at same = ap (λ l. cond (test y) (k ∷ l) l) (places_same test (k + 1) i ys x z at same)

-- one item more
pub places_more : {A : Type 0} (test : A → Bool) (k : ℕ) (xs : List A) (y : A) → places_from k test (xs ++ y ∷ []) ≡ places_from k test xs ++ cond (test y) ((k + length xs) ∷ []) []
places_more test k [] y = by (test y)
  where
    e : k ≡ k + 0
    e = omega arith

    by : (b : Bool) → cond b (k ∷ []) [] ≡ cond b ((k + 0) ∷ []) []
    by true = ap (λ (m : ℕ). m ∷ []) e
    by false = refl
places_more test k (x ∷ xs) y = by (test x) (places_more test (k + 1) xs y ∙ ap (λ (m : ℕ). places_from (k + 1) test xs ++ cond (test y) (m ∷ []) []) e)
  where
    e : k + 1 + length xs ≡ k + suc (length xs)
    e = omega arith

    by : (b : Bool) → places_from (k + 1) test (xs ++ y ∷ []) ≡ places_from (k + 1) test xs ++ cond (test y) ((k + suc (length xs)) ∷ []) [] → cond b (k ∷ places_from (k + 1) test (xs ++ y ∷ [])) (places_from (k + 1) test (xs ++ y ∷ [])) ≡ cond b (k ∷ places_from (k + 1) test xs) (places_from (k + 1) test xs) ++ cond (test y) ((k + suc (length xs)) ∷ []) []
    by true h = ap (λ l. k ∷ l) h
    by false h = h

-- ---- A number is among the places exactly where its item passes.

lt_suc : (a b : ℕ) → nat_lt (1 + a) (suc b) ≡ nat_lt a b
lt_suc a b = by (nat_lt a b) refl
  where
    by : (c : Bool) → nat_lt a b ≡ c → nat_lt (1 + a) (suc b) ≡ c
    by true e = let l = ltb-true a b e in lt-ltb (1 + a) (suc b) (omega (arith, l))
    by false e = let l = ltb-false a b e in le-ltb (1 + a) (suc b) (omega (arith, l))

-- it is in the list
abbrev pub among : ℕ → List ℕ → Bool
among n xs = nat_lt (position_or_len (λ m. m == n) xs) (length xs)

pub among_more : (n x : ℕ) (xs : List ℕ) → (x ≡ n → ⊥) → among n (x ∷ xs) ≡ among n xs
among_more n x xs ne = ap (λ b. nat_lt (cond (not b) (1 + position_or_len (λ m. m == n) xs) 0) (suc (length xs))) (ne_eqb x n ne) ∙ lt_suc (position_or_len (λ m. m == n) xs) (length xs)

none_there : (n : ℕ) (xs : List ℕ) → AllAbove n xs → among n xs ≡ false
none_there n [] h = refl
none_there n (x ∷ xs) h = let l = h.0 in among_more n x xs (λ e. omega (arith, e, l)) ∙ none_there n xs h.1

pub found_at : {A : Type 0} (test : A → Bool) (k i : ℕ) (xs : List A) → among (k + i) (places_from k test xs) ≡ passes_at test xs i
found_at test k i [] = refl
found_at test k zero (x ∷ xs) = by (test x)
  where
    P : List ℕ
    P = places_from (k + 1) test xs

    same : k + 0 ≡ k
    same = omega arith

    first : among (k + 0) (k ∷ places_from (k + 1) test xs) ≡ true
    first =
        ap (λ b. nat_lt (cond (not b) (1 + position_or_len (λ m. m == (k + 0)) (places_from (k + 1) test xs)) 0) (suc (length (places_from (k + 1) test xs)))) (eq-eqb k (k + 0) (sym same))
        ∙ lt-ltb 0 (suc (length (places_from (k + 1) test xs))) (omega arith)

    by : (b : Bool) → among (k + 0) (cond b (k ∷ places_from (k + 1) test xs) (places_from (k + 1) test xs)) ≡ b
    by true = first
    by false = ap (λ n. among n (places_from (k + 1) test xs)) same ∙ none_there k (places_from (k + 1) test xs) (places_above test k (k + 1) xs (omega arith))
found_at test k (suc i) (x ∷ xs) = by (test x) (ap (λ n. among n (places_from (k + 1) test xs)) e ∙ found_at test (k + 1) i xs)
  where
    e : k + suc i ≡ k + 1 + i
    e = omega arith

    ne : k ≡ k + suc i → ⊥
    ne h = omega (arith, h)

    by : (b : Bool) → among (k + suc i) (places_from (k + 1) test xs) ≡ passes_at test xs i → among (k + suc i) (cond b (k ∷ places_from (k + 1) test xs) (places_from (k + 1) test xs)) ≡ passes_at test xs i
    by true h = among_more (k + suc i) k (places_from (k + 1) test xs) ne ∙ h
    by false h = h

-- ---- Items in place of others, and their numbers.

-- which item is found
pub position_there : {A : Type 0} (f : A → ℕ) (n : ℕ) (xs : List A) → among n (map f xs) ≡ true → (x : A) × (slice_get xs (position_or_len (λ x. f x == n) xs) ≡ Some x) × (f x ≡ n)
position_there f n [] h = let bad : ⊥ = cc in absurd bad
position_there {A} f n (x ∷ xs) h = by (f x == n) refl h (position_there f n xs)
  where
    by : (b : Bool) → (f x == n) ≡ b → nat_lt (cond (not b) (1 + position_or_len (λ m. m == n) (map f xs)) 0) (suc (length (map f xs))) ≡ true → (among n (map f xs) ≡ true → (y : A) × (slice_get xs (position_or_len (λ y. f y == n) xs) ≡ Some y) × (f y ≡ n)) → (y : A) × (slice_get (x ∷ xs) (cond (not b) (1 + position_or_len (λ y. f y == n) xs) 0) ≡ Some y) × (f y ≡ n)
    by true e h go = (x, refl, eqb-true (f x) n e)
    by false e h go =
        let r = go (sym (lt_suc (position_or_len (λ m. m == n) (map f xs)) (length (map f xs))) ∙ h) in
        (r.0, ap (slice_get (x ∷ xs)) (sym (one_more (position_or_len (λ y. f y == n) xs))) ∙ r.1, r.2)
