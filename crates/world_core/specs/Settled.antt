-- What is kept while the open calls are told, one by one, how they stand. This project's own.
use Rattle.std.specs.Prelude.{◌≡◌, ◌<◌, ℕ, Some, slice_get}
use Rattle.world_core.specs.Floor.{StandsSo}
use Rattle.world_core.specs.Living.{SameWorld, Settling, world_of}
use Rattle.world_core.specs.declared.floor.Seat.{Seat}
use Rattle.world_core.specs.declared.running.Running.{Running}

-- the first so many stand on the floor as they stand in the world
pub record SettledTo (seats : ℕ) (before r : Running) : Type 0 where
  pub settling : Settling r
  pub same : SameWorld before r
  pub players : r.players ≡ before.players
  pub stands : (n : ℕ) (s : Seat) → n < seats → slice_get r.floor.open.items n ≡ Some s → StandsSo (world_of r) s
