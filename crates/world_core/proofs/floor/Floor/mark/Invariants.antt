-- The calls before the place of the loop are marked.
use Rattle.std.proofs.Common.{◌≡◌}
use Rattle.world_core.proofs.Marks.{marked}
use Rattle.world_core.proofs.floor.Floor.mark.Given as goal

abbrev pub invariant-loop-q : goal.invariant-loop-q
invariant-loop-q l = l.q-items ≡ marked l.call l.q-index l.initial.q-items
