-- The Take is at this place of those that are left.
use Rattle.std.proofs.Common.{◌≡◌, drop, slice_get}
use Rattle.world_core.specs.Floor.{has_worker_on, takes_on}
use Rattle.world_core.proofs.Counting.{takes_of}
use Rattle.world_core.proofs.floor.Floor.take_at.Given as goal

abbrev pub invariant-loop-q : goal.invariant-loop-q
invariant-loop-q l = record {
  left_so : slice_get (takes_on l.self) l.i ≡ slice_get (takes_of l.self.hosts l.free (drop l.q-index l.self.queued.items)) l.left;
  free_so : l.free ≡ has_worker_on l.self;
}
