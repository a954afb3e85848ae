-- Lists of which the last elements are moved, and the passes of benches as three lists. This project's own.
use Rattle.std.specs.Prelude.{◌≡◌, ℕ, List, ◌++◌, length, map, reverse}
use Rattle.region_tier.specs.declared.cells.Passes.{Passes}
use Rattle.session_objects.specs.declared.columns.BenchPasses.{BenchPasses}
use Rattle.session_objects.specs.Rests.{TablePass}

-- all elements from a place on were moved to the end of another list, the last first
pub record Moves {X : Type 0} (keep : ℕ) (from from_after to to_after : List X) : Type 0 where
  pub moved : List X
  pub whole : from ≡ from_after ++ moved
  pub kept : length from_after ≡ keep
  pub put : to_after ≡ to ++ reverse moved

abbrev pub locals_of : List BenchPasses → List Passes
locals_of ps = map (λ p. p.local) ps

abbrev pub globals_of : List BenchPasses → List Passes
globals_of ps = map (λ p. p.global) ps

abbrev pub tables_of : List BenchPasses → List TablePass
tables_of ps = map (λ p. p.table) ps
