use Rattle.std.proofs.Common.{◌-◌, sym, subst}
use Rattle.faaslet_meaning.specs.Memory.{IsFirstPiece, IsPrivate}
use Rattle.wasm_interp.proofs.PieceSteps.{private_first}
use Rattle.host_calls.proofs.Loops.{fetch_step}
use Rattle.host_calls.proofs.buffer.fetch.Goals as goal

pub load_aside-requires-clause-private : goal.load_aside-requires-clause-private
load_aside-requires-clause-private g c =
    let m = g.M.Linear.memory in
    let n = c.next_piece-piece in
    let b = c.pieces.span in
    let here = c.pieces.machine.memory in
    let f = subst (λ a. IsFirstPiece (m here) a (b.len - b.done) n.result) (sym c.address.ensures) n.ensures.first in
    let p = private_first (m here) c.address.result (b.len - b.done) n.result f c.in_default.is in
    subst (λ w. IsPrivate (m w.memory) c.address.result n.result.len) (sym n.ensures.same) p

pub pieces-preserved : goal.pieces-preserved
pieces-preserved g c =
    let n = c.next_piece-piece in
    let i = c.pieces.invariant in
    let r = fetch_step g.M.Linear.memory c.room-room.new.machine c.pieces.machine n.new.machine c.load_aside.new.self c.pieces.span c.args.from n.result c.address.result i.only n.ensures.same c.load_aside.ensures c.address.ensures i.within i.long i.same n.ensures.first n.ensures.sound c.in_default.is n.ensures.few in
    record { only = r.only; at = i.at; within = r.within; same = r.same; long = r.long }
