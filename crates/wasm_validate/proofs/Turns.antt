-- One more element, of a list whose elements are tested in turn.
use Rattle.std.proofs.Common.{◌≡◌, ℕ, ◌+◌, ◌<◌, Bool, true, false, List, length, get_or, All, sym, ◌∙◌, subst, below_more}
use Rattle.std.proofs.lemmas.List.{get_or_default}

pub all_more : {X : Type 0} (P : X → Type 0) (xs : List X) (i : ℕ) (x : X) → x ≡ get_or xs i x → i < length xs → P x → ((k : ℕ) (d : X) → k < i → P (get_or xs k d)) → (k : ℕ) (d : X) → k < i + 1 → P (get_or xs k d)
all_more {X} P xs i x is within p below k d h =
    below_more (λ n. (d : X) → P (get_or xs n d)) i (λ n l d. below n d l) (λ d. subst P (is ∙ get_or_default xs i x d within) p) k h d

pub not_all : {X : Type 0} (P : X → Type 0) (xs : List X) (i : ℕ) (x : X) → x ≡ get_or xs i x → i < length xs → (P x → ⊥) → All P xs → ⊥
not_all P xs i x is within p all = p (subst P (sym is) (all i x within))

-- a test that was not met
pub refused : (b : Bool) (P : Type 0) → (P → b ≡ true) → b ≡ false → P → ⊥
refused b P has e p = let t : b ≡ true = has p in let never : ⊥ = cc in never
