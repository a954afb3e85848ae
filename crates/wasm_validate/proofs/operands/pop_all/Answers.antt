use Rattle.std.proofs.Common.{◌∙◌, refl, sym, subst, arith}
use Rattle.faaslet_meaning.specs.declared.instr.ValType.TheVariants.{I32}
use Rattle.wasm_validate.specs.Gives.{Fails}
use Rattle.wasm_validate.proofs.Pops.{last_first, popped_more, all_unknown, fails_more}
use Rattle.wasm_validate.proofs.operands.pop_all.Goals as goal

pub types-preserved : goal.types-preserved
types-preserved c =
    let first = last_first c.args.types.now c.types.left I32 (omega arith) c.types.invariant.within in
    record { within = omega arith; same = popped_more _ _ _ c.types.blocks c.pop.new.blocks first c.in-Ok.ensures ∙ c.types.invariant.same }

pub returns-in-Err : goal.returns-in-Err
returns-in-Err c =
    let first = last_first c.args.types.now c.types.left I32 (omega arith) c.types.invariant.within in
    subst (λ o. Fails c.in-Err.fault o) c.types.invariant.same (fails_more c.in-Err.fault _ _ _ c.types.blocks first c.in-Err.ensures)

pub returns-then-is_bare : goal.returns-then-is_bare
returns-then-is_bare c = sym c.types.invariant.same ∙ all_unknown _ c.types.blocks (c.if-is_bare.ensures refl)
