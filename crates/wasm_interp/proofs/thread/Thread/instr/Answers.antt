-- The next instruction of the frame is that of what is left of its block.
use Rattle.wasm_interp.proofs.Settling.{instr_is}
use Rattle.wasm_interp.proofs.thread.Thread.instr.Goals as goal

pub returns-clause-at : goal.returns-clause-at
returns-clause-at c =
    let (memory, d, s) = c.requires in
    instr_is memory c.args.self.now d c.index-code-self.result _ s c.index-code-self.is
