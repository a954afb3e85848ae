use Rattle.world_core.specs.Settled.{SettledTo}
use Rattle.world_core.proofs.running.Running.settle.Given as goal

abbrev pub invariant-loop-seat : goal.invariant-loop-seat
invariant-loop-seat l = SettledTo l.seat l.fn.self l.self
