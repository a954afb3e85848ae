use Rattle.wasm_code.proofs.Loop.{going_on}
use Rattle.wasm_decode.proofs.vectors.many_at.Goals as goal

pub loop-preserved : goal.loop-preserved
loop-preserved g c = going_on _ _ _ _ _ _ _ _ _ c.loop.invariant c.loop-test.true c.in_ok-item.ensures c.in_ok-push.ensures.items
