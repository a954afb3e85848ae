use Rattle.std.proofs.Common.{List, length, get_or, ap, ◌∙◌, arith}
use Rattle.faaslet_meaning.specs.declared.module.Body.{Body}
use Rattle.wasm_validate.proofs.Passing.{passed_more, all_passed}
use Rattle.wasm_validate.proofs.bodies.check_bodies.Goals as goal

pub loop-i-preserved : goal.loop-i-preserved
loop-i-preserved c =
    let bodies = c.as_slice-body-items.ensures in
    let b = c.body-item.result in
    passed_more c.args.module.now c.args.spaces.now c.requires.spaces_are c.loop-i.i b (omega (arith, ap length bodies)) (c.body-item.is ∙ ap (λ (l : List Body). get_or l c.loop-i.i b) bodies) c.in-Ok.ensures.typed c.loop-i.invariant

pub returns : goal.returns
returns c =
    let bodies = c.as_slice-body-items.ensures in
    record { rules = c.requires.rules; bodies_typed = all_passed c.args.module.now c.args.spaces.now c.requires.spaces_are c.loop-i.i (omega (arith, ap length bodies)) c.loop-i.invariant }
