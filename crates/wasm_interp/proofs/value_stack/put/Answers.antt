-- A cell that is there is set, and the next is pushed.
use Rattle.std.proofs.Common.{◌≡◌, ◌∙◌, ◌<◌, length, arith}
use Rattle.wasm_interp.proofs.ValueCells.{put_is_set, put_is_push}
use Rattle.wasm_interp.proofs.value_stack.put.Goals as goal

pub returns-then-at-len-clause-items : goal.returns-then-at-len-clause-items
returns-then-at-len-clause-items c =
    let xs = c.args.cells.now.items in
    let lt : c.args.at < length xs = omega (arith, c.args.cells.now.ok.0, c.if-at-len.true, c.len.ensures) in
    put_is_set xs c.args.at c.args.x lt

pub returns-in-Ok-clause-items : goal.returns-in-Ok-clause-items
returns-in-Ok-clause-items c =
    let xs = c.args.cells.now.items in
    let last : c.args.at ≡ length xs = omega (arith, c.args.cells.now.ok.0, c.requires.there, c.if-at-len.false, c.len.ensures) in
    c.in-Ok.ensures.items ∙ put_is_push xs c.args.at c.args.x last
