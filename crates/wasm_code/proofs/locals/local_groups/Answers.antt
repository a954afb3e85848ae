use Rattle.wasm_code.proofs.Loop.{going_on}
use Rattle.wasm_code.proofs.locals.local_groups.Goals as goal

pub loop-preserved : goal.loop-preserved
loop-preserved c = going_on _ _ _ _ _ _ _ _ _ c.loop.invariant c.loop-test.true c.in_ok-group.ensures c.in_ok-push.ensures.items
