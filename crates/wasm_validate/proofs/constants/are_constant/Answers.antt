use Rattle.faaslet_meaning.specs.declared.module.GlobalDef.{GlobalDef}
use Rattle.faaslet_meaning.specs.Valid.{IsConstant}
use Rattle.wasm_validate.proofs.Turns.{all_more, not_all, refused}
use Rattle.wasm_validate.proofs.constants.are_constant.Goals as goal

pub returns-then-not-begins_constant : goal.returns-then-not-begins_constant
returns-then-not-begins_constant c =
    let l = c.loop-global in
    let P : GlobalDef → Type 0 = λ d. IsConstant c.args.imported.now d.kind.value d.init in
    (λ never. absurd (cc), λ all. absurd (not_all P c.args.globals.now l.global-index c.global-item.result c.global-item.is c.loop-global-test.true (refused c.begins_constant.result (P c.global-item.result) c.begins_constant.ensures.1 c.if-not-begins_constant.true) all))

pub loop-global-preserved : goal.loop-global-preserved
loop-global-preserved c =
    let l = c.loop-global in
    let P : GlobalDef → Type 0 = λ d. IsConstant c.args.imported.now d.kind.value d.init in
    all_more P c.args.globals.now l.global-index c.global-item.result c.global-item.is c.loop-global-test.true (c.begins_constant.ensures.0 c.if-not-begins_constant.false) l.invariant
