use Rattle.std.proofs.Common.{length}
use Rattle.wasm_decode.specs.Built.{Built}
use Rattle.wasm_decode.proofs.sections.read_module.Given as goal

abbrev pub invariant-loop-rest : goal.invariant-loop-rest
invariant-loop-rest l = Built l.initial.rest l.rest l.so_far

abbrev pub decreases-loop-rest : goal.decreases-loop-rest
decreases-loop-rest l = length l.rest
