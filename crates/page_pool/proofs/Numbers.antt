-- Numbers that differ and are below a bound, and those of the pages that are still to be made.
use Rattle.std.proofs.Common.{◌≡◌, ℕ, zero, suc, ◌+◌, ◌<◌, ◌≤◌, List, [], ◌∷◌, ◌++◌, All, length, get_or, false, inl, inr, refl, ap, arith, ◌∙◌, sym, subst}
use Rattle.std.specs.List.{AllPairs}
use Rattle.std.proofs.lemmas.Bool.{eqb-true, cases_eq}
use Rattle.std.proofs.lemmas.Bool.Decides.{eqb_tells}
use Rattle.std.proofs.lemmas.List.{get_or_append_left, get_or_push, length_push, length-append}
use Rattle.std.proofs.lemmas.List.Elements.{All-contains}
use Rattle.std.proofs.lemmas.Map.Keys.{IsDistinct-from_apart}
use Rattle.std.proofs.lemmas.Map.Steps.{length-le_from_distinct_below}
use Rattle.std.proofs.lemmas.Map.Views.{Contains-from_any}
use Rattle.page_pool.specs.PagePool.{numbers_from}
use lib.Dec.{eqb}

pub few : (n : ℕ) (xs : List ℕ) → All (λ x. x < n) xs → AllPairs (λ x y. x ≡ y → ⊥) xs → length xs ≤ n
few n xs h p =
    let apart : (i j d : ℕ) → i < j → j < length xs → eqb (get_or xs i d) (get_or xs j d) ≡ false = λ i j d l m. elim (eqb_tells (get_or xs i d) (get_or xs j d)) [ inl w ↦ absurd (p i j d l m w.1) | inr w ↦ w.0 ] in
    length-le_from_distinct_below xs n (IsDistinct-from_apart eqb xs apart) (λ q e. All-contains (λ x. x < n) xs q h (Contains-from_any eqb-true q xs e))

-- ---- all but the last of a list

pub front : (P : ℕ → Type 0) (xs : List ℕ) (x : ℕ) → All P (xs ++ x ∷ []) → All P xs
front P xs x h k d l = subst P (get_or_append_left xs (x ∷ []) d k l) (h k d (omega (arith, length_push xs x)))

pub last : (P : ℕ → Type 0) (xs : List ℕ) (x : ℕ) → All P (xs ++ x ∷ []) → P x
last P xs x h = subst P (get_or_push xs x x (length xs) refl) (h (length xs) x (omega (arith, length_push xs x)))

pub front_apart : (xs : List ℕ) (x : ℕ) → AllPairs (λ m n. m ≡ n → ⊥) (xs ++ x ∷ []) → AllPairs (λ m n. m ≡ n → ⊥) xs
front_apart xs x h i j d l m e =
    h i j d l (omega (arith, length_push xs x)) (get_or_append_left xs (x ∷ []) d i (omega arith) ∙ e ∙ sym (get_or_append_left xs (x ∷ []) d j m))

pub last_apart : (xs : List ℕ) (x : ℕ) → AllPairs (λ m n. m ≡ n → ⊥) (xs ++ x ∷ []) → All (λ n. n ≡ x → ⊥) xs
last_apart xs x h i d l e =
    h i (length xs) d l (omega (arith, length_push xs x)) (get_or_append_left xs (x ∷ []) d i l ∙ e ∙ sym (get_or_push xs x d (length xs) refl))

-- ---- the numbers from one on

pub length-numbers_from : (made n : ℕ) → length (numbers_from made n) ≡ n
length-numbers_from made zero = refl
length-numbers_from made (suc n) = ap suc (length-numbers_from made n)

pub numbers_below : (made n most : ℕ) → made + n ≤ most → All (λ x. x < most) (numbers_from made n)
numbers_below made zero most h i d l = absurd (omega arith)
numbers_below made (suc n) most h zero d l = omega arith
numbers_below made (suc n) most h (suc i) d l = numbers_below made n most (omega arith) i d (omega arith)

pub numbers_apart : (made n : ℕ) → AllPairs (λ x y. x ≡ y → ⊥) (numbers_from made n)
numbers_apart made zero i j d l m e = absurd (omega arith)
numbers_apart made (suc n) i zero d l m e = absurd (omega arith)
numbers_apart made (suc n) zero (suc j) d l m e = let b : get_or (numbers_from made n) j d < made + n = numbers_below made n (made + n) (omega arith) j d (omega arith) in omega arith
numbers_apart made (suc n) (suc i) (suc j) d l m e = numbers_apart made n i j d (omega arith) (omega arith) e

-- the first of them is the last listed
pub numbers_more : (made n : ℕ) → numbers_from made (suc n) ≡ numbers_from (made + 1) n ++ made ∷ []
numbers_more made zero = let z : made + 0 ≡ made = omega arith in ap (λ (i : ℕ). i ∷ []) z
numbers_more made (suc n) =
    let z : made + suc n ≡ made + 1 + n = omega arith in
    ap (λ (i : ℕ). i ∷ numbers_from made (suc n)) z ∙ ap (λ (r : List ℕ). (made + 1 + n) ∷ r) (numbers_more made n)

-- each of them is listed
pub numbers_have : (made n x : ℕ) → made ≤ x → x < made + n → All (λ y. y ≡ x → ⊥) (numbers_from made n) → ⊥
numbers_have made zero x h l a = omega arith
numbers_have made (suc n) x h l a = elim (cases_eq x (made + n)) [
  | inl e ↦ a zero 0 (omega arith) (sym e)
  | inr e ↦ numbers_have made n x h (omega arith) (λ i d k. a (suc i) d (omega arith))
]

pub front_of_two : (P : ℕ → Type 0) (xs ys : List ℕ) → All P (xs ++ ys) → All P xs
front_of_two P xs ys h k d l = subst P (get_or_append_left xs ys d k l) (h k d (omega (arith, length-append xs ys)))
