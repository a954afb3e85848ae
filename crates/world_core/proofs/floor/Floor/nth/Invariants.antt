-- The call is at this place of those that are left.
use Rattle.std.proofs.Common.{◌≡◌, drop, filter, slice_get}
use Rattle.world_core.specs.Floor.{has_stand}
use Rattle.world_core.proofs.floor.Floor.nth.Given as goal

abbrev pub invariant-loop-seat : goal.invariant-loop-seat
invariant-loop-seat l = slice_get (filter (has_stand l.stand) l.self.open.items) l.n ≡ slice_get (filter (has_stand l.stand) (drop l.seat-index l.self.open.items)) l.left
