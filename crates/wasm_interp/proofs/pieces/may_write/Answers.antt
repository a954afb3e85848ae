-- A store goes on where each of its shared pieces may be written, by the grants that agree.
use Rattle.std.proofs.Common.{◌≡◌, ◌+◌, ◌-◌, List, ap, ◌∙◌, sym, arith}
use Rattle.faaslet_meaning.specs.declared.grant.Grant.{Grant}
use Rattle.faaslet_meaning.specs.declared.grant.Mode.TheVariants.{Write as write_mode}
use Rattle.faaslet_meaning.specs.Memory.{shared_pieces}
use Rattle.faaslet_meaning.specs.MemoryRules.{all_granted}
use Rattle.wasm_interp.specs.StandsFor.{Agrees}
use Rattle.wasm_interp.proofs.PieceSteps.{shared_first, shared_place, left_behind, may_step, may_not, may_end}
use Rattle.wasm_interp.proofs.pieces.may_write.Goals.{in-Shared+else-writable-place-eq0, in_default}
use Rattle.wasm_interp.proofs.pieces.may_write.Goals as goal

pub overflow_shr-writable : goal.overflow_shr-writable
overflow_shr-writable g c =
    let m = g.M.Linear.memory c.args.memory.now in
    let n = c.next_piece-piece in
    let s = c.in-Shared in
    shared_place m (c.args.addr + c.parts.done) (c.args.size - c.parts.done) s.place s.off n.result.len n.ensures.sound (shared_first m (c.args.addr + c.parts.done) (c.args.size - c.parts.done) n.result s.place s.off n.ensures.first s.is)

pub returns-then-writable-place-eq0 : goal.returns-then-writable-place-eq0
returns-then-writable-place-eq0 g c grants agrees =
    let m = g.M.Linear.memory c.args.memory.now in
    let n = c.next_piece-piece in
    let s = c.in-Shared in
    let at = c.args.addr + c.parts.done in
    let left = c.args.size - c.parts.done in
    sym (sym (c.parts.invariant.same grants agrees) ∙ may_not grants c.args.writable m at left s.place s.off n.result.len agrees n.ensures.sound (shared_first m at left n.result s.place s.off n.ensures.first s.is) c.if-writable-place-eq0.true)

pub parts-preserved : goal.parts-preserved
parts-preserved g c =
    let m = g.M.Linear.memory c.args.memory.now in
    let n = c.next_piece-piece in
    let i = c.parts.invariant in
    let done = c.parts.done in
    let step : (grants : List Grant) → Agrees c.args.writable grants → all_granted grants write_mode (shared_pieces m (c.args.addr + (done + n.result.len)) (c.args.size - (done + n.result.len))) ≡ all_granted grants write_mode (shared_pieces m (c.args.addr + done) (c.args.size - done)) = λ grants agrees.
    elim c.match-piece.branch [
      | in-Shared+else-writable-place-eq0 w ↦ may_step grants c.args.writable m c.args.addr c.args.size done w.in-Shared.place w.in-Shared.off n.result.len agrees n.ensures.sound (shared_first m (c.args.addr + done) (c.args.size - done) n.result w.in-Shared.place w.in-Shared.off n.ensures.first w.in-Shared.is) w.if-writable-place-eq0.false
      | in_default w ↦ ap (all_granted grants write_mode) (left_behind m c.args.addr c.args.size done n.result n.ensures.first w.in_default.is)
    ] in
    record { most = omega (arith, n.ensures.few); same = λ grants agrees. step grants agrees ∙ i.same grants agrees }

pub returns : goal.returns
returns g c grants agrees =
    let m = g.M.Linear.memory c.args.memory.now in
    sym (sym (c.parts.invariant.same grants agrees) ∙ may_end grants m (c.args.addr + c.parts.done) (c.args.size - c.parts.done) (omega arith))
