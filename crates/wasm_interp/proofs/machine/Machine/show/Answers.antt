-- What is told at a stop is what the machine stands for there.
use Rattle.std.proofs.Common.{subst}
use Rattle.wasm_interp.specs.declared.machine.Pending.{Pending}
use Rattle.wasm_interp.specs.StandsFor.{PendingStands}
use Rattle.wasm_interp.proofs.Shows.{few_at, piece_shown, same_piece}
use Rattle.wasm_interp.proofs.machine.Machine.show.Goals as goal

pub behind-requires : goal.behind-requires
behind-requires g c =
    let (memory, n, h) = c.requires in
    (few_at memory c.args.self.now.thread c.args.self.now.stage c.in-Piece.q n c.in-Piece.is c.if-q.true h).0

pub put_front-requires : goal.put_front-requires
put_front-requires g c =
    let (memory, n, h) = c.requires in
    (few_at memory c.args.self.now.thread c.args.self.now.stage c.in-Piece.q n c.in-Piece.is c.if-q.true h).1

pub returns-then-q-clause-shown : goal.returns-then-q-clause-shown
returns-then-q-clause-shown g c memory q vs b e p =
    let same = same_piece q c.in-Piece.q c.args.self.now.stage e c.in-Piece.is in
    piece_shown memory c.in-Piece.q vs b c.put_front.new.self c.behind.result c.if-q.true c.behind.ensures c.put_front.ensures (subst (λ (k : Pending). PendingStands memory k vs b) same p)
