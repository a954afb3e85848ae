use Rattle.std.proofs.Common.{◌+◌, arith, subst}
use Rattle.faaslet_meaning.specs.Memory.{IsMemory, IsFirstPiece}
use Rattle.wasm_interp.proofs.PieceLists.{piece_some, piece_few}
use Rattle.host_calls.proofs.Buffers.{near_home}
use Rattle.host_calls.proofs.span.next_piece.Goals as goal

pub returns-clause-some : goal.returns-clause-some
returns-clause-some g c = piece_some _ _ _ _ c.piece_at.ensures.first

pub returns-clause-few : goal.returns-clause-few
returns-clause-few g c = omega (arith, piece_few _ _ _ _ c.piece_at.ensures.first)

pub returns-clause-near : goal.returns-clause-near
returns-clause-near g c =
    let m = g.M.Linear.memory in
    let b = c.args.span in
    let p = c.piece_at.result in
    let here = c.args.machine.now.memory in
    let f1 = subst (λ w. IsFirstPiece (m w) c.address.result c.from.result p) c.memory_mut.ensures.same c.piece_at.ensures.first in
    let f2 = subst (λ a. IsFirstPiece (m here) a c.from.result p) c.address.ensures f1 in
    let f3 = subst (λ n. IsFirstPiece (m here) (b.ptr + b.done) n p) c.from.ensures f2 in
    near_home (m here) b p c.requires.within (subst (λ w. IsMemory (m w)) c.memory_mut.ensures.same c.piece_at.ensures.sound) f3
