-- Sums of the counts of those that pass a test, and what is left of a list behind and before a place.
use Rattle.std.proofs.Common.{◌≡◌, ℕ, zero, suc, ◌+◌, ◌≤◌, ◌⊎◌, inl, inr, Bool, true, false, cond, List, [], ◌∷◌, ◌++◌, Some, refl, sym, ap, ◌∙◌, length, slice_get, filter, take, drop, take_all, length-drop, subst, arith}
use Rattle.std.specs.Prelude.{◌&&◌}
use Rattle.std.proofs.lemmas.List.{drop-append-le, take-append-le}
use Rattle.std.proofs.Math.Seq.{drop-append_seam}
use Rattle.faaslet_meaning.specs.Lists.{total}

abbrev pub pick : Bool → ℕ → ℕ
pick b n = cond b n 0

module _ {A : Type 0} (test : A → Bool) (count : A → ℕ) where
  abbrev pub sum_if : List A → ℕ
  sum_if [] = 0
  sum_if (x ∷ xs) = pick (test x) (count x) + sum_if xs

  pub sum_filter : (xs : List A) → total count (filter test xs) ≡ sum_if xs
  sum_filter [] = refl
  sum_filter (x ∷ xs) = by (test x) (sum_filter xs)
    where
      by : (b : Bool) → total count (filter test xs) ≡ sum_if xs → total count (cond b (x ∷ filter test xs) (filter test xs)) ≡ pick b (count x) + sum_if xs
      by true e = ap (λ n. count x + n) e
      by false e = omega (arith, e)

  -- one more among them
  pub sum_put : (front back : List A) (x : A) → sum_if (front ++ x ∷ back) ≡ pick (test x) (count x) + sum_if (front ++ back)
  sum_put [] back x = refl
  sum_put (y ∷ front) back x = let e = sum_put front back x in omega (arith, e)

  -- those that pass another test too are no more, and one that doesn't is besides
  pub sum_less : (less : A → Bool) (xs : List A) → total count (filter (λ x. test x && less x) xs) ≤ sum_if xs
  sum_less less [] = omega arith
  sum_less less (x ∷ xs) = by (test x) (less x) (sum_less less xs)
    where
      by : (b c : Bool) → total count (filter (λ x. test x && less x) xs) ≤ sum_if xs → total count (cond (b && c) (x ∷ filter (λ x. test x && less x) xs) (filter (λ x. test x && less x) xs)) ≤ pick b (count x) + sum_if xs
      by true true l = omega (arith, l)
      by true false l = omega (arith, l)
      by false c l = omega (arith, l)

  pub sum_besides : (less : A → Bool) (xs : List A) (n : ℕ) (x : A) → slice_get xs n ≡ Some x → test x ≡ true → less x ≡ false → total count (filter (λ x. test x && less x) xs) + count x ≤ sum_if xs
  sum_besides less [] n x at is not = let no : ⊥ = cc in absurd no
  sum_besides less (y ∷ ys) zero x at is not =
      let e : y ≡ x = cc in
      subst (λ z. total count (filter (λ x. test x && less x) (z ∷ ys)) + count x ≤ sum_if (z ∷ ys)) (sym e) (by (test x) (less x) is not (sum_less less ys))
    where
      by : (b c : Bool) → b ≡ true → c ≡ false → total count (filter (λ x. test x && less x) ys) ≤ sum_if ys → total count (cond (b && c) (x ∷ filter (λ x. test x && less x) ys) (filter (λ x. test x && less x) ys)) + count x ≤ pick b (count x) + sum_if ys
      by true false e f l = omega (arith, l)
      by true true e f l = let no : ⊥ = cc in absurd no
      by false c e f l = let no : ⊥ = cc in absurd no
  sum_besides less (y ∷ ys) (suc n) x at is not = by (test y) (less y) (sum_besides less ys n x at is not)
    where
      by : (b c : Bool) → total count (filter (λ x. test x && less x) ys) + count x ≤ sum_if ys → total count (cond (b && c) (y ∷ filter (λ x. test x && less x) ys) (filter (λ x. test x && less x) ys)) + count x ≤ pick b (count y) + sum_if ys
      by true true l = omega (arith, l)
      by true false l = omega (arith, l)
      by false c l = omega (arith, l)

  -- they are as many where the other test fails only for what counts nothing
  pub sum_all : (less : A → Bool) (xs : List A) → ((n : ℕ) (x : A) → slice_get xs n ≡ Some x → test x ≡ true → (less x ≡ true) ⊎ (count x ≡ 0)) → total count (filter (λ x. test x && less x) xs) ≡ sum_if xs
  sum_all less [] h = refl
  sum_all less (x ∷ xs) h = by (test x) (less x) (λ e. h 0 x refl e) (sum_all less xs (λ n y at is. h (suc n) y at is))
    where
      by : (b c : Bool) → (b ≡ true → (c ≡ true) ⊎ (count x ≡ 0)) → total count (filter (λ x. test x && less x) xs) ≡ sum_if xs → total count (cond (b && c) (x ∷ filter (λ x. test x && less x) xs) (filter (λ x. test x && less x) xs)) ≡ pick b (count x) + sum_if xs
      by true true g e = ap (λ n. count x + n) e
      by true false g e = either (g refl) e
        where
          either : (false ≡ true) ⊎ (count x ≡ 0) → total count (filter (λ x. test x && less x) xs) ≡ sum_if xs → total count (filter (λ x. test x && less x) xs) ≡ count x + sum_if xs
          either (inl f) e = let no : ⊥ = cc in absurd no
          either (inr f) e = omega (arith, f, e)
      by false c g e = omega (arith, e)

-- ---- Parts of a list.

pub part_kept : {A : Type 0} (m c : ℕ) (xs ys : List A) → m + c ≤ length xs → take c (drop m (xs ++ ys)) ≡ take c (drop m xs)
part_kept m c xs ys l =
    let h : m ≤ length xs = omega (arith, l) in
    let e = length-drop m xs in
    ap (take c) (drop-append-le m xs ys h) ∙ take-append-le c (drop m xs) ys (omega (arith, l, e))

pub part_behind : {A : Type 0} (m c : ℕ) (xs ys : List A) → m ≡ length xs → c ≡ length ys → take c (drop m (xs ++ ys)) ≡ ys
part_behind m c xs ys e f =
    ap (λ m. take c (drop m (xs ++ ys))) e ∙ ap (take c) (drop-append_seam xs ys) ∙ ap (λ c. take c ys) f ∙ take_all (length ys) ys (omega arith)
