-- Each turn of the loop marks one call more.
use Rattle.world_core.proofs.Marks.{mark_next, marked_before, marked_now}
use Rattle.world_core.proofs.floor.Floor.mark.Goals as goal
use Rattle.world_core.proofs.floor.Floor.mark.Goals.{then-q, else-q}

pub loop-q-preserved : goal.loop-q-preserved
loop-q-preserved c =
    mark_next c.args.call c.loop-q.q-index c.deref_mut-q-items.result.now c.loop-q.q-items _ c.if-q.q c.loop-q-test.true c.loop-q.invariant
    (elim c.if-q.branch [ then-q w ↦ marked_before _ _ _ w.if-q.true w.q-is | else-q w ↦ marked_now _ _ _ w.if-q.false w.q-is ])
