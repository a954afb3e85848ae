-- The next piece is the first of those that the definition lists.
use Rattle.std.proofs.Common.{◌+◌, ◌-◌}
use Rattle.wasm_interp.proofs.PieceLists.{piece_some, piece_few}
use Rattle.wasm_interp.proofs.pieces.next_piece.Goals as goal

pub returns-clause-some : goal.returns-clause-some
returns-clause-some g c = piece_some (g.M.Linear.memory c.args.memory.now) (c.args.addr + c.args.done) (c.args.size - c.args.done) c.piece_at.result c.piece_at.ensures.first

pub returns-clause-few : goal.returns-clause-few
returns-clause-few g c = piece_few (g.M.Linear.memory c.args.memory.now) (c.args.addr + c.args.done) (c.args.size - c.args.done) c.piece_at.result c.piece_at.ensures.first
