-- Leaving a block drops its label and keeps its values.
use Rattle.wasm_interp.proofs.Labels.{leave_follows}
use Rattle.wasm_interp.proofs.thread.Thread.leave.Goals as goal

pub returns-clause-done : goal.returns-clause-done
returns-clause-done c memory d s o = leave_follows memory c.args.self.now d c.args.pc c.pop.result c.pop.new.self c.pop.ensures c.requires.deep s o
