use Rattle.std.proofs.Common.{◌≡◌}
use Rattle.world_core_tests.proofs.stories.lines_held.Given as goal

abbrev pub invariant-loop-at : goal.invariant-loop-at
invariant-loop-at l = l.world.plan ≡ l.protos
