-- Entries put at the end of lists: no name is there twice, and whatever was there is there still.
use Rattle.std.proofs.Common.{◌≡◌, ◌≢◌, ℕ, zero, suc, ◌+◌, ◌<◌, ◌≤◌, ◌⊎◌, Bool, true, false, cond, not, List, [], ◌∷◌, ◌++◌, length, map, get_or, set, slice_get, slice_set, All, Option, Some, None, is_some, position, ◌==◌, bytes_eq, refl, sym, ap, subst, ◌∙◌, arith, true≢false, length-set, ltb-false, inl, inr}
use Rattle.std.specs.List.{list_any, position_or_len}
use Rattle.std.proofs.lemmas.Bool.{or_parts, eq-eqb}
use Rattle.std.proofs.lemmas.List.Elements.{All-cons, All-set}
use Rattle.std.proofs.lemmas.List.Quantifiers.{all_pairs_push}
use Rattle.std.proofs.lemmas.Option.{slice_get_cases}
use Rattle.std.proofs.lemmas.Slice.Eq.{bytes_eq-Decides}
use Rattle.faaslet_meaning.specs.Lists.{changed}
use Rattle.session_meaning.specs.Names.{is_taken}
use Rattle.session_meaning.specs.WellFormed.{Distinct}

module _ {A : Type 0} (p : A → Bool) where
  past : (xs : List A) → length xs ≤ position_or_len p xs → All (λ x. p x ≡ false) xs
  past [] h = λ k d inside. absurd (omega arith)
  past (x ∷ xs) h = by (p x) refl h (past xs)
    where
      by : (b : Bool) → p x ≡ b → suc (length xs) ≤ cond (not b) (1 + position_or_len p xs) 0 → (length xs ≤ position_or_len p xs → All (λ y. p y ≡ false) xs) → All (λ y. p y ≡ false) (x ∷ xs)
      by true e l rest = absurd (omega arith)
      by false e l rest = All-cons (λ y. p y ≡ false) x xs e (rest (omega arith))

  untaken : (b : Bool) (n : ℕ) → is_some (cond b (Some n) None) ≡ false → b ≡ false
  untaken true n e = absurd (true≢false e)
  untaken false n e = refl

  -- where there is no place, none passes
  pub absent : (xs : List A) → is_some (position p xs) ≡ false → All (λ x. p x ≡ false) xs
  absent xs e = past xs (ltb-false (position_or_len p xs) (length xs) (untaken _ (position_or_len p xs) e))

  pub none : (xs : List A) → list_any p xs ≡ false → All (λ x. p x ≡ false) xs
  none [] e = λ k d inside. absurd (omega arith)
  none (x ∷ xs) e = let parts = or_parts (p x) (list_any p xs) e in All-cons (λ y. p y ≡ false) x xs parts.0 (none xs parts.1)

false_ne : {b : Bool} → b ≡ false → b ≡ true → ⊥
false_ne e f = true≢false (sym f ∙ e)

-- a name that is not taken is put last
pub names_differ : (names : List (List ℕ)) (name : List ℕ) → is_taken name names ≡ false → Distinct names → Distinct (names ++ name ∷ [])
names_differ names name free differ =
    all_pairs_push (λ a b. a ≢ b) names name differ (λ k d inside same. false_ne (absent (bytes_eq name) names free k d inside) ((bytes_eq-Decides name (get_or names k d)).1 (sym same)))

-- a number that is not among them
pub numbers_differ : (ns : List ℕ) (n : ℕ) → list_any (λ m. m == n) ns ≡ false → Distinct ns → Distinct (ns ++ n ∷ [])
numbers_differ ns n free differ = all_pairs_push (λ a b. a ≢ b) ns n differ (λ k d inside same. false_ne (none (λ m. m == n) ns free k d inside) (eq-eqb (get_or ns k d) n same))

-- the same where the numbers stand in a list of other things
pub any_of : {A : Type 0} (of : A → ℕ) (n : ℕ) (xs : List A) → list_any (λ m. m == n) (map of xs) ≡ list_any (λ x. of x == n) xs
any_of of n [] = refl
any_of of n (x ∷ xs) = rw (any_of of n xs) refl

pub none_differ : {A : Type 0} → Distinct {A = A} []
none_differ i j d below inside = absurd (omega arith)

-- what is there stays where it is
pub stays : {A : Type 0} (xs ys : List A) (k : ℕ) (x : A) → slice_get xs k ≡ Some x → slice_get (xs ++ ys) k ≡ Some x
stays [] ys k x e = let no : ⊥ = cc in absurd no
stays (y ∷ xs) ys zero x e = e
stays (y ∷ xs) ys (suc k) x e = stays xs ys k x e

place-len : {A : Type 0} (p : A → Bool) (xs : List A) (b : Bool) (k : ℕ) → cond b (Some (position_or_len p xs)) None ≡ Some k → (b ≡ true) × (position_or_len p xs ≡ k)
place-len p xs true k e = (refl, cc)
place-len p xs false k e = let no : ⊥ = cc in absurd no

-- ---- An item changed.

module _ {A : Type 0} (change : A → A) where
  pub length-changed : (xs : List A) (n : ℕ) → length (changed xs n change) ≡ length xs
  length-changed xs n = by (slice_get xs n)
    where
      by : (o : Option A) → length {A = A} (elim o [ None ↦ xs | Some x ↦ slice_set xs n (change x) ]) ≡ length xs
      by None = refl
      by (Some x) = length-set xs n (change x)

  pub All-changed : (P : A → Type 0) (xs : List A) (n : ℕ) → ((x : A) → slice_get xs n ≡ Some x → P x → P (change x)) → All P xs → All P (changed xs n change)
  All-changed P xs n keeps all = by (slice_get_cases xs n).1
    where
      by : ((x : A) × (n < length xs) × (slice_get xs n ≡ Some x) × (get_or xs n x ≡ x)) ⊎ ((length xs ≤ n) × (slice_get xs n ≡ None)) → All P (changed xs n change)
      by (inl h) = rw (changed, h.2) (All-set P xs n (change h.0) (keeps h.0 h.2 (subst P h.3 (all n h.0 h.1))) all)
      by (inr h) = rw (changed, h.1) all

  pub map-changed : {B : Type 0} (f : A → B) → ((x : A) → f (change x) ≡ f x) → (xs : List A) (n : ℕ) → map f (changed xs n change) ≡ map f xs
  map-changed f same xs n = by (slice_get xs n) refl
    where
      set_same : (ys : List A) (m : ℕ) (y : A) → slice_get ys m ≡ Some y → map f (set ys m (change y)) ≡ map f ys
      set_same [] m y e = refl
      set_same (z ∷ ys) zero y e = let is : z ≡ y = cc in ap (λ w. w ∷ map f ys) (same y ∙ ap f (sym is))
      set_same (z ∷ ys) (suc m) y e = ap (λ l. f z ∷ l) (set_same ys m y e)

      by : (o : Option A) → slice_get xs n ≡ o → map f (elim o [ None ↦ xs | Some x ↦ slice_set xs n (change x) ]) ≡ map f xs
      by None e = refl
      by (Some x) e = set_same xs n x e
