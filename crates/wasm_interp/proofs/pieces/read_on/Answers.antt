-- A private piece is read, and a shared one is asked for.
use Rattle.std.proofs.Common.{◌+◌, ◌-◌}
use Rattle.wasm_interp.proofs.PieceSteps.{private_first, read_step}
use Rattle.wasm_interp.proofs.pieces.read_on.Goals as goal

pub private_number-part-requires-clause-private : goal.private_number-part-requires-clause-private
private_number-part-requires-clause-private g c = private_first (g.M.Linear.memory c.args.memory.now) (c.args.addr + c.parts.done) (c.args.size - c.parts.done) c.next_piece-piece.result c.next_piece-piece.ensures.first c.in_default.is

pub parts-preserved : goal.parts-preserved
parts-preserved g c =
    let a = c.args in
    let n = c.next_piece-piece in
    read_step (g.M.Linear.memory a.memory.now) a.addr a.size a.from a.so_far c.parts.done c.parts.value c.private_number-part.result c.joined-value.result n.result c.requires.range n.ensures.sound c.parts.invariant c.parts-test.true n.ensures.first c.in_default.is n.ensures.few c.private_number-part.ensures.value c.joined-value.ensures.value c.joined-value.ensures.small
