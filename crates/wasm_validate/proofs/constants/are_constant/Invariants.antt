use Rattle.std.proofs.Common.{ℕ, ◌<◌, get_or}
use Rattle.faaslet_meaning.specs.declared.module.GlobalDef.{GlobalDef}
use Rattle.faaslet_meaning.specs.Valid.{IsConstant}
use Rattle.wasm_validate.proofs.constants.are_constant.Given as goal

abbrev pub invariant-loop-global : goal.invariant-loop-global
invariant-loop-global l = (k : ℕ) (d : GlobalDef) → k < l.global-index → IsConstant l.imported (get_or l.globals k d).kind.value (get_or l.globals k d).init
