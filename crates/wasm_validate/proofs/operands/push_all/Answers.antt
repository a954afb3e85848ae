use Rattle.std.proofs.Common.{◌∙◌, arith}
use Rattle.faaslet_meaning.specs.declared.instr.ValType.TheVariants.{I32}
use Rattle.wasm_validate.proofs.Pops.{pushed_more}
use Rattle.wasm_validate.proofs.operands.push_all.Goals as goal

pub types-preserved : goal.types-preserved
types-preserved c = record {
  within = omega arith;
  same = pushed_more c.args.types.now c.types.left I32 c.types.blocks c.push.new.self (omega arith) c.types.invariant.within c.in-Ok.ensures ∙ c.types.invariant.same;
}
