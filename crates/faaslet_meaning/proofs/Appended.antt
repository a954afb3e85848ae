-- What stands where in two lists, one behind the other.
use Rattle.std.proofs.Common.{◌≡◌, ℕ, zero, suc, ◌+◌, ◌<◌, List, [], ◌∷◌, ◌++◌, length, refl, ap, arith, ◌∙◌}
use Rattle.std.specs.Prelude.{slice_get}

pub get_above : {A : Type 0} (a b : List A) (k : ℕ) → slice_get (a ++ b) (length a + k) ≡ slice_get b k
get_above [] b k = let e : 0 + k ≡ k = omega arith in ap (slice_get b) e
get_above (x ∷ a) b k =
    let e : length (x ∷ a) + k ≡ suc (length a + k) = omega arith in
    ap (slice_get (x ∷ (a ++ b))) e ∙ get_above a b k

pub get_within : {A : Type 0} (a b : List A) (k : ℕ) → k < length a → slice_get (a ++ b) k ≡ slice_get a k
get_within [] b k lt = absurd (omega arith)
get_within (x ∷ a) b zero lt = refl
get_within (x ∷ a) b (suc k) lt = get_within a b k (omega arith)
