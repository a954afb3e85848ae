use Rattle.std.proofs.Common.{◌≡◌, length}
use Rattle.faaslet_meaning.specs.Decoding.{some_locals}
use Rattle.wasm_decode.proofs.limits.some_locals.Given as goal

abbrev pub invariant-loop-index : goal.invariant-loop-index
invariant-loop-index l = some_locals l.module l.functions l.bodies ≡ some_locals l.module l.module.functions l.module.bodies

abbrev pub decreases-loop-index : goal.decreases-loop-index
decreases-loop-index l = length l.functions
