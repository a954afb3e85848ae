-- A branch to a label goes to its place and unwinds both stacks.
use Rattle.wasm_interp.proofs.Settling.{jump_is}
use Rattle.wasm_interp.proofs.thread.Thread.jump.Goals as goal

pub returns : goal.returns
returns c =
    let (memory, d, s) = c.requires in
    jump_is memory c.args.self.now d _ s
