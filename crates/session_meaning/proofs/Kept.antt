-- Lists of which some places are kept and numbered anew.
use Rattle.std.proofs.Common.{◌≡◌, ℕ, zero, suc, ◌≤◌, ◌<◌, Bool, true, false, cond, List, [], ◌∷◌, ◌++◌, Option, Some, None, refl, sym, ap, ◌∙◌, map, length, slice_get, slice_set, min, option_map, arith}
use Rattle.std.specs.Prelude.{◌==◌, ◌&&◌}
use Rattle.std.specs.List.{list_all}
use Rattle.std.proofs.lemmas.Bool.{cases_order, eq-eqb, ne_eqb, and_parts}
use Rattle.std.proofs.Common.{inl, inr, ◌⊎◌}
use Rattle.faaslet_meaning.specs.Lists.{changed}
use Rattle.session_meaning.specs.Cut.{kept, rank}

abbrev Later : (ℕ → Bool) → ℕ → Bool
Later is n = is (suc n)

-- what is kept is found at its new number
pub get_kept : {A : Type 0} (is : ℕ → Bool) (xs : List A) (n : ℕ) → is n ≡ true → slice_get (kept is xs) (rank is n) ≡ slice_get xs n
get_kept is [] n h = refl
get_kept is (x ∷ xs) zero h = ap (λ b. slice_get (cond b (x ∷ kept (Later is) xs) (kept (Later is) xs)) 0) h
get_kept is (x ∷ xs) (suc n) h = by (is 0) (get_kept (Later is) xs n h)
  where
    by : (b : Bool) → slice_get (kept (Later is) xs) (rank (Later is) n) ≡ slice_get xs n → slice_get (cond b (x ∷ kept (Later is) xs) (kept (Later is) xs)) (cond b (suc (rank (Later is) n)) (rank (Later is) n)) ≡ slice_get xs n
    by true e = e
    by false e = e

pub get_map : {A B : Type 0} (f : A → B) (xs : List A) (n : ℕ) → slice_get (map f xs) n ≡ option_map f (slice_get xs n)
get_map f [] n = refl
get_map f (x ∷ xs) zero = refl
get_map f (x ∷ xs) (suc n) = get_map f xs n

-- ---- A change at one place.

changed_cons : {A : Type 0} (x : A) (xs : List A) (n : ℕ) (f : A → A) → changed (x ∷ xs) (suc n) f ≡ x ∷ changed xs n f
changed_cons x xs n f = by (slice_get xs n)
  where
    by : (o : Option _) → elim o [ None ↦ x ∷ xs | Some y ↦ slice_set (x ∷ xs) (suc n) (f y) ] ≡ x ∷ elim o [ None ↦ xs | Some y ↦ slice_set xs n (f y) ]
    by None = refl
    by (Some y) = refl

pub changed_kept : {A : Type 0} (is : ℕ → Bool) (xs : List A) (n : ℕ) (f : A → A) → is n ≡ true → kept is (changed xs n f) ≡ changed (kept is xs) (rank is n) f
changed_kept is [] n f h = refl
changed_kept is (x ∷ xs) zero f h = ap (λ b. cond b (f x ∷ kept (Later is) xs) (kept (Later is) xs)) h ∙ sym (ap (λ b. changed (cond b (x ∷ kept (Later is) xs) (kept (Later is) xs)) 0 f) h)
changed_kept is (x ∷ xs) (suc n) f h = ap (kept is) (changed_cons x xs n f) ∙ by (is 0) (changed_kept (Later is) xs n f h)
  where
    by : (b : Bool) → kept (Later is) (changed xs n f) ≡ changed (kept (Later is) xs) (rank (Later is) n) f → cond b (x ∷ kept (Later is) (changed xs n f)) (kept (Later is) (changed xs n f)) ≡ changed (cond b (x ∷ kept (Later is) xs) (kept (Later is) xs)) (cond b (suc (rank (Later is) n)) (rank (Later is) n)) f
    by true e = ap (λ ys. x ∷ ys) e ∙ sym (changed_cons x (kept (Later is) xs) (rank (Later is) n) f)
    by false e = e

pub changed_left : {A : Type 0} (is : ℕ → Bool) (xs : List A) (n : ℕ) (f : A → A) → is n ≡ false → kept is (changed xs n f) ≡ kept is xs
changed_left is [] n f h = refl
changed_left is (x ∷ xs) zero f h = ap (λ b. cond b (f x ∷ kept (Later is) xs) (kept (Later is) xs)) h ∙ sym (ap (λ b. cond b (x ∷ kept (Later is) xs) (kept (Later is) xs)) h)
changed_left is (x ∷ xs) (suc n) f h = ap (kept is) (changed_cons x xs n f) ∙ by (is 0) (changed_left (Later is) xs n f h)
  where
    by : (b : Bool) → kept (Later is) (changed xs n f) ≡ kept (Later is) xs → cond b (x ∷ kept (Later is) (changed xs n f)) (kept (Later is) (changed xs n f)) ≡ cond b (x ∷ kept (Later is) xs) (kept (Later is) xs)
    by true e = ap (λ ys. x ∷ ys) e
    by false e = e

-- a change under a map
pub changed_map : {A B : Type 0} (g : A → B) (xs : List A) (n : ℕ) (f : A → A) (f' : B → B) → ((x : A) → slice_get xs n ≡ Some x → g (f x) ≡ f' (g x)) → map g (changed xs n f) ≡ changed (map g xs) n f'
changed_map g [] n f f' e = refl
changed_map g (x ∷ xs) zero f f' e = ap (λ y. y ∷ map g xs) (e x refl)
changed_map g (x ∷ xs) (suc n) f f' e = ap (map g) (changed_cons x xs n f) ∙ ap (λ ys. g x ∷ ys) (changed_map g xs n f f' e) ∙ sym (changed_cons (g x) (map g xs) n f')

pub changed_same : {A : Type 0} (xs : List A) (n : ℕ) (f g : A → A) → ((x : A) → slice_get xs n ≡ Some x → f x ≡ g x) → changed xs n f ≡ changed xs n g
changed_same [] n f g e = refl
changed_same (x ∷ xs) zero f g e = ap (λ y. y ∷ xs) (e x refl)
changed_same (x ∷ xs) (suc n) f g e = changed_cons x xs n f ∙ ap (λ ys. x ∷ ys) (changed_same xs n f g e) ∙ sym (changed_cons x xs n g)

pub length_changed : {A : Type 0} (xs : List A) (n : ℕ) (f : A → A) → length (changed xs n f) ≡ length xs
length_changed [] n f = refl
length_changed (x ∷ xs) zero f = refl
length_changed (x ∷ xs) (suc n) f = ap length (changed_cons x xs n f) ∙ ap suc (length_changed xs n f)

pub get_changed_here : {A : Type 0} (xs : List A) (n : ℕ) (f : A → A) → slice_get (changed xs n f) n ≡ option_map f (slice_get xs n)
get_changed_here [] n f = refl
get_changed_here (x ∷ xs) zero f = refl
get_changed_here (x ∷ xs) (suc n) f = ap (λ ys. slice_get ys (suc n)) (changed_cons x xs n f) ∙ get_changed_here xs n f

-- ---- An item more at the end.

pub kept_push : {A : Type 0} (is : ℕ → Bool) (xs : List A) (x : A) → kept is (xs ++ x ∷ []) ≡ kept is xs ++ cond (is (length xs)) (x ∷ []) []
kept_push is [] x = refl
kept_push is (y ∷ xs) x = by (is 0) (kept_push (Later is) xs x)
  where
    by : (b : Bool) → kept (Later is) (xs ++ x ∷ []) ≡ kept (Later is) xs ++ cond (is (suc (length xs))) (x ∷ []) [] → cond b (y ∷ kept (Later is) (xs ++ x ∷ [])) (kept (Later is) (xs ++ x ∷ [])) ≡ cond b (y ∷ kept (Later is) xs) (kept (Later is) xs) ++ cond (is (suc (length xs))) (x ∷ []) []
    by true e = ap (λ ys. y ∷ ys) e
    by false e = e

pub length_kept : {A : Type 0} (is : ℕ → Bool) (xs : List A) → length (kept is xs) ≡ rank is (length xs)
length_kept is [] = refl
length_kept is (x ∷ xs) = by (is 0) (length_kept (Later is) xs)
  where
    by : (b : Bool) → length (kept (Later is) xs) ≡ rank (Later is) (length xs) → length (cond b (x ∷ kept (Later is) xs) (kept (Later is) xs)) ≡ cond b (suc (rank (Later is) (length xs))) (rank (Later is) (length xs))
    by true e = ap suc e
    by false e = e

-- ---- New numbers are in the same order, and differ where they are of kept ones.

pub rank_mono : (is : ℕ → Bool) (m n : ℕ) → m ≤ n → rank is m ≤ rank is n
rank_mono is zero n h = omega arith
rank_mono is (suc m) zero h = let no : ⊥ = omega (arith, h) in absurd no
rank_mono is (suc m) (suc n) h = by (is 0) (rank_mono (Later is) m n (omega (arith, h)))
  where
    by : (b : Bool) → rank (Later is) m ≤ rank (Later is) n → cond b (suc (rank (Later is) m)) (rank (Later is) m) ≤ cond b (suc (rank (Later is) n)) (rank (Later is) n)
    by true f = omega (arith, f)
    by false f = f

pub rank_above : (is : ℕ → Bool) (m n : ℕ) → is m ≡ true → m < n → rank is m < rank is n
rank_above is m zero i h = let no : ⊥ = omega (arith, h) in absurd no
rank_above is zero (suc n) i h = by (is 0) i
  where
    by : (b : Bool) → b ≡ true → 0 < cond b (suc (rank (Later is) n)) (rank (Later is) n)
    by true e = omega arith
    by false e = let no : ⊥ = cc in absurd no
rank_above is (suc m) (suc n) i h = by (is 0) (rank_above (Later is) m n i (omega (arith, h)))
  where
    by : (b : Bool) → rank (Later is) m < rank (Later is) n → cond b (suc (rank (Later is) m)) (rank (Later is) m) < cond b (suc (rank (Later is) n)) (rank (Later is) n)
    by true f = omega (arith, f)
    by false f = f

min_left : (m n : ℕ) → m ≤ n → min m n ≡ m
min_left m n h = omega (arith, h)

min_right : (m n : ℕ) → n ≤ m → min m n ≡ n
min_right m n h = omega (arith, h)

pub rank_eq : (is : ℕ → Bool) (m n : ℕ) → is m ≡ true → is n ≡ true → (rank is m == rank is n) ≡ (m == n)
rank_eq is m n i k = by (cases_order m n)
  where
    by : (m ≡ n) ⊎ ((m < n) ⊎ (n < m)) → (rank is m == rank is n) ≡ (m == n)
    by (inl e) = eq-eqb (rank is m) (rank is n) (ap (rank is) e) ∙ sym (eq-eqb m n e)
    by (inr (inl l)) = let f = rank_above is m n i l in ne_eqb (rank is m) (rank is n) (λ e. omega (arith, e, f)) ∙ sym (ne_eqb m n (λ e. omega (arith, e, l)))
    by (inr (inr l)) = let f = rank_above is n m k l in ne_eqb (rank is m) (rank is n) (λ e. omega (arith, e, f)) ∙ sym (ne_eqb m n (λ e. omega (arith, e, l)))

pub rank_min : (is : ℕ → Bool) (m n : ℕ) → min (rank is m) (rank is n) ≡ rank is (min m n)
rank_min is m n = by (cases_order m n)
  where
    by : (m ≡ n) ⊎ ((m < n) ⊎ (n < m)) → min (rank is m) (rank is n) ≡ rank is (min m n)
    by (inl e) = let l = min_left m n (omega (arith, e)) in let f = rank_mono is m n (omega (arith, e)) in min_left _ _ f ∙ sym (ap (rank is) l)
    by (inr (inl h)) = let l = min_left m n (omega (arith, h)) in let f = rank_mono is m n (omega (arith, h)) in min_left _ _ f ∙ sym (ap (rank is) l)
    by (inr (inr h)) = let l = min_right m n (omega (arith, h)) in let f = rank_mono is n m (omega (arith, h)) in min_right _ _ f ∙ sym (ap (rank is) l)

-- ---- What is true of all kept items.

pub all_changed : {A : Type 0} (test : A → Bool) (xs : List A) (n : ℕ) (f : A → A) → ((x : A) → slice_get xs n ≡ Some x → test x ≡ true → test (f x) ≡ true) → list_all test xs ≡ true → list_all test (changed xs n f) ≡ true
all_changed test [] n f e h = h
all_changed test (x ∷ xs) zero f e h = let p = and_parts (test x) (list_all test xs) h in ap (λ b. b && list_all test xs) (e x refl p.0) ∙ p.1
all_changed test (x ∷ xs) (suc n) f e h =
    let p = and_parts (test x) (list_all test xs) h in
    ap (list_all test) (changed_cons x xs n f) ∙ ap (λ b. b && list_all test (changed xs n f)) p.0 ∙ all_changed test xs n f e p.1

pub all_at : {A : Type 0} (test : A → Bool) (xs : List A) (n : ℕ) (x : A) → list_all test xs ≡ true → slice_get xs n ≡ Some x → test x ≡ true
all_at test [] n x h e = let no : ⊥ = cc in absurd no
all_at test (y ∷ xs) zero x h e = let same : y ≡ x = cc in ap test (sym same) ∙ (and_parts (test y) (list_all test xs) h).0
all_at test (y ∷ xs) (suc n) x h e = all_at test xs n x (and_parts (test y) (list_all test xs) h).1 e

pub all_push : {A : Type 0} (test : A → Bool) (xs : List A) (x : A) → list_all test xs ≡ true → test x ≡ true → list_all test (xs ++ x ∷ []) ≡ true
all_push test [] x h k = ap (λ b. b && true) k
all_push test (y ∷ xs) x h k = let p = and_parts (test y) (list_all test xs) h in ap (λ b. b && list_all test (xs ++ x ∷ [])) p.0 ∙ all_push test xs x p.1 k

pub changed_id : {A : Type 0} (xs : List A) (n : ℕ) → changed xs n (λ x. x) ≡ xs
changed_id [] n = refl
changed_id (x ∷ xs) zero = refl
changed_id (x ∷ xs) (suc n) = changed_cons x xs n (λ y. y) ∙ ap (λ ys. x ∷ ys) (changed_id xs n)
