-- Where a limit is passed.
use Rattle.std.proofs.Common.{◌≡◌, ℕ, Bool, true, false, List, [], ◌∷◌, ◌++◌, Option, Some, None, refl, ap, ◌∙◌}
use Rattle.std.specs.Prelude.{◌||◌, filter_map}
use Rattle.std.specs.Option.{option_map_or}
use Rattle.std.specs.List.{list_any, cons_option}
use Rattle.faaslet_meaning.specs.declared.module.Import.{Import}
use Rattle.faaslet_meaning.specs.declared.module.Limits.{Limits}
use Rattle.faaslet_meaning.specs.declared.module.Module.{Module}
use Rattle.faaslet_meaning.specs.IndexSpaces.{imported_table}
use Rattle.faaslet_meaning.specs.Decoding.{large, some_locals}

one : (o : Option Limits) (front tables : List Limits) (b : Bool) → list_any large (front ++ tables) ≡ b → list_any large (cons_option o front ++ tables) ≡ (option_map_or large o false || b)
one None front tables b e = e
one (Some l) front tables b e = ap (λ c. large l || c) e

or_assoc : (a b c : Bool) → (a || (b || c)) ≡ ((a || b) || c)
or_assoc true b c = refl
or_assoc false b c = refl

-- any of the tables that are imported, or of the others
pub any_table : (imports : List Import) (tables : List Limits) → list_any large (filter_map (λ i. imported_table i.kind) imports ++ tables) ≡ (list_any (λ i. option_map_or large (imported_table i.kind) false) imports || list_any large tables)
any_table [] tables = refl
any_table (i ∷ imports) tables =
    one (imported_table i.kind) (filter_map (λ i. imported_table i.kind) imports) tables _ (any_table imports tables) ∙ or_assoc (option_map_or large (imported_table i.kind) false) _ _

-- without a body no function has locals
pub no_bodies : (m : Module) (functions : List ℕ) → some_locals m functions [] ≡ false
no_bodies m [] = refl
no_bodies m (t ∷ functions) = refl
