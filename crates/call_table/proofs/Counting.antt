-- How many records pass a test, where one is changed or put behind the others.
use Rattle.std.proofs.Common.{◌≡◌, ℕ, zero, suc, ◌+◌, ◌<◌, List, [], ◌∷◌, ◌++◌, length, Bool, true, false, cond, Some, filter, slice_get, slice_set, refl, sym, ap, ◌∙◌, arith}
use Rattle.std.specs.Prelude.{not}
use Rattle.std.proofs.lemmas.List.{length-append}
use Rattle.std.proofs.lemmas.List.Elements.{filter-append}
use Rattle.std.proofs.lemmas.Option.{same_Some}
use Rattle.faaslet_meaning.specs.Lists.{is_empty, places_from, passes_at}

abbrev pub count : {A : Type 0} → (A → Bool) → List A → ℕ
count test xs = length (filter test xs)

one : {A : Type 0} (test : A → Bool) (x : A) (xs : List A) (b : Bool) → test x ≡ b → count test (x ∷ xs) ≡ cond b (suc (count test xs)) (count test xs)
one test x xs true e = rw e refl
one test x xs false e = rw e refl

tail_more : {A : Type 0} (test : A → Bool) (x : A) (xs ys : List A) (b : Bool) → test x ≡ b → count test ys ≡ suc (count test xs) → count test (x ∷ ys) ≡ suc (count test (x ∷ xs))
tail_more test x xs ys true e h = one test x ys true e ∙ ap suc h ∙ ap suc (sym (one test x xs true e))
tail_more test x xs ys false e h = one test x ys false e ∙ h ∙ ap suc (sym (one test x xs false e))

tail_same : {A : Type 0} (test : A → Bool) (x : A) (xs ys : List A) (b : Bool) → test x ≡ b → count test ys ≡ count test xs → count test (x ∷ ys) ≡ count test (x ∷ xs)
tail_same test x xs ys true e h = one test x ys true e ∙ ap suc h ∙ sym (one test x xs true e)
tail_same test x xs ys false e h = one test x ys false e ∙ h ∙ sym (one test x xs false e)

heads_same : {A : Type 0} (test : A → Bool) (x y : A) (xs : List A) (b : Bool) → test x ≡ b → test y ≡ b → count test (y ∷ xs) ≡ count test (x ∷ xs)
heads_same test x y xs b e f = one test y xs b f ∙ sym (one test x xs b e)

-- a change that leaves the test
pub count_same : {A : Type 0} (test : A → Bool) (xs : List A) (n : ℕ) (x y : A) → slice_get xs n ≡ Some x → test y ≡ test x → count test (slice_set xs n y) ≡ count test xs
count_same test [] n x y e h = let no : ⊥ = cc in absurd no
count_same test (z ∷ xs) zero x y e h = heads_same test z y xs (test x) (ap test (same_Some z x e)) h
count_same test (z ∷ xs) (suc n) x y e h = tail_same test z xs (slice_set xs n y) (test z) refl (count_same test xs n x y e h)

-- one that passes now, and did not
pub count_more : {A : Type 0} (test : A → Bool) (xs : List A) (n : ℕ) (x y : A) → slice_get xs n ≡ Some x → test x ≡ false → test y ≡ true → count test (slice_set xs n y) ≡ suc (count test xs)
count_more test [] n x y e f t = let no : ⊥ = cc in absurd no
count_more test (z ∷ xs) zero x y e f t = one test y xs true t ∙ ap suc (sym (one test z xs false (ap test (same_Some z x e) ∙ f)))
count_more test (z ∷ xs) (suc n) x y e f t = tail_more test z xs (slice_set xs n y) (test z) refl (count_more test xs n x y e f t)

-- one that passes no more, and did
pub count_less : {A : Type 0} (test : A → Bool) (xs : List A) (n : ℕ) (x y : A) → slice_get xs n ≡ Some x → test x ≡ true → test y ≡ false → count test xs ≡ suc (count test (slice_set xs n y))
count_less test [] n x y e t f = let no : ⊥ = cc in absurd no
count_less test (z ∷ xs) zero x y e t f = one test z xs true (ap test (same_Some z x e) ∙ t) ∙ ap suc (sym (one test y xs false f))
count_less test (z ∷ xs) (suc n) x y e t f = tail_more test z (slice_set xs n y) xs (test z) refl (count_less test xs n x y e t f)

pub count_push : {A : Type 0} (test : A → Bool) (xs : List A) (x : A) (b : Bool) → test x ≡ b → count test (xs ++ x ∷ []) ≡ cond b (suc (count test xs)) (count test xs)
count_push test xs x true e = ap length (filter-append test xs (x ∷ [])) ∙ (rw e (let l = length-append (filter test xs) (x ∷ []) in omega arith))
count_push test xs x false e = ap length (filter-append test xs (x ∷ [])) ∙ (rw e (let l = length-append (filter test xs) [] in omega arith))

-- ---- Where one passes, some are counted.

pub some_counted : {A : Type 0} (test : A → Bool) (xs : List A) (n : ℕ) → passes_at test xs n ≡ true → 0 < count test xs
some_counted test [] n e = let no : ⊥ = cc in absurd no
some_counted test (x ∷ xs) zero e = let o = one test x xs true e in omega arith
some_counted test (x ∷ xs) (suc n) e = by (test x) refl (some_counted test xs n e)
  where
    by : (b : Bool) → test x ≡ b → 0 < count test xs → 0 < count test (x ∷ xs)
    by true f h = let o = one test x xs true f in omega arith
    by false f h = let o = one test x xs false f in omega arith

pub place_counted : {A : Type 0} (test other : A → Bool) (m : ℕ) (xs : List A) → ((x : A) → test x ≡ true → other x ≡ true) → not (is_empty (places_from m test xs)) ≡ true → 0 < count other xs
place_counted test other m [] h e = let no : ⊥ = cc in absurd no
place_counted test other m (x ∷ xs) h e = by (test x) refl (λ k. place_counted test other (m + 1) xs h k) e
  where
    rest : (b : Bool) → other x ≡ b → 0 < count other xs → 0 < count other (x ∷ xs)
    rest true f k = let o = one other x xs true f in omega arith
    rest false f k = let o = one other x xs false f in omega arith

    by : (b : Bool) → test x ≡ b → (not (is_empty (places_from (m + 1) test xs)) ≡ true → 0 < count other xs)
        → not (is_empty (cond b (m ∷ places_from (m + 1) test xs) (places_from (m + 1) test xs))) ≡ true → 0 < count other (x ∷ xs)
    by true f k g = let o = one other x xs true (h x f) in omega arith
    by false f k g = rest (other x) refl (k g)
