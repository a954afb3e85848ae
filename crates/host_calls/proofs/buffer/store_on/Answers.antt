use Rattle.std.proofs.Common.{◌-◌, sym, subst}
use Rattle.faaslet_meaning.specs.Memory.{IsFirstPiece, IsPrivate}
use Rattle.wasm_interp.proofs.PieceSteps.{private_first}
use Rattle.host_calls.proofs.Loops.{store_step}
use Rattle.host_calls.proofs.buffer.store_on.Goals as goal

pub store_aside-requires-clause-private : goal.store_aside-requires-clause-private
store_aside-requires-clause-private g c =
    let m = g.M.Linear.memory in
    let n = c.next_piece-piece in
    let b = c.pieces.span in
    let here = c.pieces.machine.memory in
    let f = subst (λ a. IsFirstPiece (m here) a (b.len - b.done) n.result) (sym c.address.ensures) n.ensures.first in
    let p = private_first (m here) c.address.result (b.len - b.done) n.result f c.in_default.is in
    subst (λ w. IsPrivate (m w.memory) c.address.result n.result.len) (sym n.ensures.same) p

pub pieces-preserved : goal.pieces-preserved
pieces-preserved g c =
    let n = c.next_piece-piece in
    let i = c.pieces.invariant in
    let e = c.store_aside.ensures in
    let r = store_step g.M.Linear.memory g.M.Linear.backing c.args.machine.now c.pieces.machine n.new.machine c.store_aside.new.self c.pieces.span c.args.from n.result c.address.result i.only n.ensures.same e.same e.put e.backing i.backing c.address.ensures i.within i.same n.ensures.first c.in_default.is n.ensures.few in
    record { only = r.only; backing = r.backing; at = i.at; within = r.within; same = r.same }
