-- What stands at a place of a list, and of a tier.
use Rattle.std.proofs.Common.{◌≡◌, ℕ, zero, suc, ◌+◌, ◌<◌, List, [], ◌∷◌, length, set, get_or, Some, None, refl, sym, ap, ◌∙◌, subst, arith}
use Rattle.std.proofs.Common as std
use mathlib.Core.Option.{some, some-injective}
use lib.ListN.{get_elem?}
use Rattle.shared_region.specs.Shared.{Shared}
use Rattle.turn_cell.specs.declared.cell.Turns.{Turns}
use Rattle.turn_cell.proofs.Frames.{there, reads}
use Rattle.region_tier.specs.declared.cells.Tier.{Tier}
use Rattle.region_tier.specs.Opened.{IsOpened}
use Rattle.region_tier.specs.Tiers.{cells_of}

pub same_at : {A : Type 0} (xs : List A) (k : ℕ) (a b : A) → get_elem? xs k ≡ some a → get_elem? xs k ≡ some b → a ≡ b
same_at xs k a b p q = some-injective a b (sym p ∙ q)

pub same_in : {A : Type 0} (xs : List (std.Option A)) (k : ℕ) (a b : A) → get_elem? xs k ≡ some (Some a) → get_elem? xs k ≡ some (Some b) → a ≡ b
same_in xs k a b p q = let e : Some a ≡ Some b = some-injective (Some a) (Some b) (sym p ∙ q) in cc

pub set_twice : {A : Type 0} (xs : List A) (k : ℕ) (a b : A) → set (set xs k a) k b ≡ set xs k b
set_twice [] k a b = refl
set_twice (x ∷ xs) zero a b = refl
set_twice (x ∷ xs) (suc k) a b = ap (λ ys. x ∷ ys) (set_twice xs k a b)

-- what is read at a place that is there
pub read_at : {A : Type 0} (xs : List A) (k : ℕ) (a : A) → k < length xs → a ≡ get_or xs k a → get_elem? xs k ≡ some a
read_at [] k a h e = absurd (omega arith)
read_at (x ∷ xs) zero a h e = ap some (sym e)
read_at (x ∷ xs) (suc k) a h e = read_at xs k a (omega arith) e

-- ---- A tier's cells.

pub opened_at : (tier : Tier) (key : ℕ) (t : Turns Shared) → get_elem? (cells_of tier) key ≡ some t → IsOpened t
opened_at tier key t e = subst (λ (u : Turns Shared). IsOpened u) (reads (cells_of tier) key t t e) (tier.opened key t (there (cells_of tier) key t e)).0
