use Rattle.std.proofs.Common.{◌≡◌, Bool, true, false, not, refl, arith}
use Rattle.wasm_validate.proofs.Distinct.{seen_none, seen_more, repeated, all_apart}
use Rattle.wasm_validate.proofs.names.differ.Goals as goal

was_there : (old new : Bool) → new ≡ not old → new ≡ false → old ≡ true
was_there true new e f = refl
was_there false new e f = absurd cc

was_absent : (old new : Bool) → new ≡ not old → new ≡ true → old ≡ false
was_absent true new e f = absurd cc
was_absent false new e f = refl

pub loop-export-init : goal.loop-export-init
loop-export-init c = seen_none c.args.exports.now c.new-names.result c.new-names.ensures.empty

pub returns-then-not-branch : goal.returns-then-not-branch
returns-then-not-branch c =
    let l = c.loop-export in
    (λ never. absurd (cc), λ all. absurd (repeated c.args.exports.now l.export-index l.names c.export-item.result c.as_slice.result l.invariant c.loop-export-test.true c.export-item.is c.as_slice.ensures (was_there _ _ c.in_ok-insert.ensures.added c.if-not-branch.true) all))

pub loop-export-preserved : goal.loop-export-preserved
loop-export-preserved c =
    let l = c.loop-export in
    seen_more c.args.exports.now l.export-index l.names c.insert.new.self c.export-item.result c.as_slice.result l.invariant c.loop-export-test.true c.export-item.is c.as_slice.ensures (was_absent _ _ c.in_ok-insert.ensures.added c.if-not-branch.false) c.in_ok-insert.ensures.updates.0

pub returns : goal.returns
returns c = (λ _. all_apart c.args.exports.now c.loop-export.export-index c.loop-export.names c.loop-export.invariant (omega arith), λ _. refl)
