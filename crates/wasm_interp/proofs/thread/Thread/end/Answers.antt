-- At an `end` the block is left, or the frame.
use Rattle.wasm_interp.proofs.Opening.{end_closes}
use Rattle.wasm_interp.proofs.thread.Thread.end.Goals as goal

pub returns-else-self-eq0-clause-done : goal.returns-else-self-eq0-clause-done
returns-else-self-eq0-clause-done c memory d s ok = c.leave.ensures.done memory d s (end_closes memory c.args.self.now d c.requires.at s).1
