use Rattle.std.proofs.Common.{◌≡◌, ◌+◌, ◌-◌, arith, sym, subst, ◌∙◌}
use Rattle.faaslet_meaning.specs.Memory.{IsFirstPiece, shared_pieces}
use Rattle.faaslet_meaning.specs.MemoryRules.{all_granted}
use Rattle.host_calls.proofs.Buffers.{within_further}
use Rattle.host_calls.proofs.Loops.{mode_shared, mode_private, mode_end, mode_first}
use Rattle.host_calls.proofs.modes.all_granted.Goals.{in-Shared+else-not-has_mode, in_default}
use Rattle.host_calls.proofs.modes.all_granted.Goals as goal

pub pieces-preserved : goal.pieces-preserved
pieces-preserved g c =
    let m = g.M.Linear.memory c.args.machine.now.memory in
    let b = c.pieces.span in
    let n = c.next_piece-piece in
    let i = c.pieces.invariant in
    let first : IsFirstPiece m (b.ptr + b.done) (b.len - b.done) n.result = subst (λ w. IsFirstPiece (g.M.Linear.memory w.memory) (b.ptr + b.done) (b.len - b.done) n.result) i.same n.ensures.first in
    let step : all_granted c.args.grants.now c.args.needs (shared_pieces m (b.ptr + (b.done + n.result.len)) (b.len - (b.done + n.result.len))) ≡ all_granted c.args.grants.now c.args.needs (shared_pieces m (b.ptr + b.done) (b.len - b.done)) =
    elim c.match-piece.branch [
      | in-Shared+else-not-has_mode w ↦ mode_shared c.args.grants.now c.args.needs m b n.result w.in-Shared.place w.in-Shared.off first w.in-Shared.is (sym w.has_mode.ensures ∙ w.if-not-has_mode.false)
      | in_default w ↦ mode_private c.args.grants.now c.args.needs m b n.result first w.in_default.is
    ] in
    record { same = n.ensures.same ∙ i.same; within = within_further m b n.result.len i.within n.ensures.few; left = step ∙ i.left }

pub returns-clause-all : goal.returns-clause-all
returns-clause-all g c z =
    let m = g.M.Linear.memory c.args.machine.now.memory in
    let b = c.pieces.span in
    let i = c.pieces.invariant in
    sym (sym (mode_first c.args.grants.now c.args.needs m c.args.from z) ∙ sym i.left ∙ mode_end c.args.grants.now c.args.needs m (b.ptr + b.done) (b.len - b.done) (omega (arith, i.within.most)))
