-- Facts about each element of two lists, one behind the other.
use Rattle.std.proofs.Common.{◌≡◌, ℕ, zero, suc, ◌+◌, ◌*◌, ◌-◌, ◌<◌, ◌⊎◌, List, [], ◌∷◌, ◌++◌, length, map, inl, inr, ⊎_elim, refl, sym, ap, ◌∙◌, subst, arith}
use mathlib.Core.Option.{some, some-injective, some-ne-none}
use lib.ListN.{get_elem?}
use Rattle.turn_cell.specs.History.{Each}

pub at_front : {A : Type 0} (xs ys : List A) (k : ℕ) (a : A) → get_elem? xs k ≡ some a → get_elem? (xs ++ ys) k ≡ some a
at_front [] ys k a e = absurd (some-ne-none a (sym e))
at_front (x ∷ xs) ys zero a e = e
at_front (x ∷ xs) ys (suc k) a e = at_front xs ys k a e

pub at_behind : {A : Type 0} (xs ys : List A) (j : ℕ) (a : A) → get_elem? ys j ≡ some a → get_elem? (xs ++ ys) (length xs + j) ≡ some a
at_behind {A = A} [] ys j a e = let s : length {A = A} [] + j ≡ j = omega arith in ap (get_elem? ys) s ∙ e
at_behind (x ∷ xs) ys j a e = let s : length (x ∷ xs) + j ≡ suc (length xs + j) = omega arith in ap (get_elem? (x ∷ xs ++ ys)) s ∙ at_behind xs ys j a e

pub at_where : {A : Type 0} (xs ys : List A) (k : ℕ) (a : A) → get_elem? (xs ++ ys) k ≡ some a → ((k < length xs) × (get_elem? xs k ≡ some a)) ⊎ ((j : ℕ) × (k ≡ length xs + j) × (get_elem? ys j ≡ some a))
at_where [] ys k a e = inr (k, omega arith, e)
at_where (x ∷ xs) ys zero a e = inl (omega arith, e)
at_where (x ∷ xs) ys (suc k) a e = ⊎_elim (λ (l : (k < length xs) × (get_elem? xs k ≡ some a)). let h = l.0 in inl (omega (arith, h), l.1)) (λ (r : (j : ℕ) × (k ≡ length xs + j) × (get_elem? ys j ≡ some a)). let h = r.1 in inr (r.0, omega (arith, h), r.2)) (at_where xs ys k a e)

pub each_of_front : {A : Type 0} (xs ys : List A) (P : ℕ → A → Type 0) → Each (xs ++ ys) P → Each xs P
each_of_front xs ys P p k a e = p k a (at_front xs ys k a e)

pub each_behind : {A : Type 0} (xs ys : List A) (P : ℕ → A → Type 0) → Each (xs ++ ys) P → Each ys (λ j. P (length xs + j))
each_behind xs ys P p j a e = p (length xs + j) a (at_behind xs ys j a e)

pub each_both : {A : Type 0} (xs ys : List A) (P : ℕ → A → Type 0) → Each xs P → Each ys (λ j. P (length xs + j)) → Each (xs ++ ys) P
each_both xs ys P p q k a e = ⊎_elim (λ (l : (k < length xs) × (get_elem? xs k ≡ some a)). p k a l.1) (λ (r : (j : ℕ) × (k ≡ length xs + j) × (get_elem? ys j ≡ some a)). subst (λ n. P n a) (sym r.1) (q r.0 a r.2)) (at_where xs ys k a e)

pub at_map : {A B : Type 0} (f : A → B) (xs : List A) (k : ℕ) (a : A) → get_elem? xs k ≡ some a → get_elem? (map f xs) k ≡ some (f a)
at_map f [] k a e = absurd (some-ne-none a (sym e))
at_map f (x ∷ xs) zero a e = ap (λ z. some (f z)) (some-injective x a e)
at_map f (x ∷ xs) (suc k) a e = at_map f xs k a e

pub of_map : {A B : Type 0} (f : A → B) (xs : List A) (k : ℕ) (b : B) → get_elem? (map f xs) k ≡ some b → (a : A) × (get_elem? xs k ≡ some a) × (f a ≡ b)
of_map f [] k b e = absurd (some-ne-none b (sym e))
of_map f (x ∷ xs) zero b e = (x, refl, some-injective (f x) b e)
of_map f (x ∷ xs) (suc k) b e = of_map f xs k b e

-- what holds of each element's image holds of the element
pub each_map : {A B : Type 0} (f : A → B) (xs : List A) (P : ℕ → B → Type 0) → Each (map f xs) P → Each xs (λ k a. P k (f a))
each_map f xs P p k a e = p k (f a) (at_map f xs k a e)

pub map_each : {A B : Type 0} (f : A → B) (xs : List A) (P : ℕ → B → Type 0) → Each xs (λ k a. P k (f a)) → Each (map f xs) P
map_each f xs P p k b e = let o = of_map f xs k b e in subst (P k) o.2 (p k o.0 o.1)

pub none_long : {A : Type 0} (xs : List A) → length xs ≡ 0 → xs ≡ []
none_long [] h = refl
none_long (x ∷ xs) h = absurd (omega (arith, h))

pub one_host_more : (h m : ℕ) → 0 < h → h * m ≡ (h - 1) * m + m
one_host_more zero m h = absurd (omega (arith, h))
one_host_more (suc k) m h = let e : suc k - 1 ≡ k = omega arith in let f : suc k * m ≡ k * m + m = omega arith in f ∙ ap (λ z. z * m + m) (sym e)
