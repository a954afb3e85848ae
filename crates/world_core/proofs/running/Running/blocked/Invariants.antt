use Rattle.world_core.specs.Living.{world_of}
use Rattle.world_core.specs.Blocked.{BlockedTo}
use Rattle.world_core.proofs.running.Running.blocked.Given as goal

abbrev pub invariant-loop-seat : goal.invariant-loop-seat
invariant-loop-seat l = BlockedTo (world_of l.self) l.self.players.items l.seat l.all.items
