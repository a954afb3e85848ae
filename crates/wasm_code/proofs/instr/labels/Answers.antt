use Rattle.wasm_code.proofs.Loop.{going_on}
use Rattle.wasm_code.proofs.instr.labels.Goals as goal

pub loop-preserved : goal.loop-preserved
loop-preserved c = going_on _ _ _ _ _ _ _ _ _ c.loop.invariant c.loop-test.true c.in_ok-item.ensures.exact c.in_ok-push.ensures.items
