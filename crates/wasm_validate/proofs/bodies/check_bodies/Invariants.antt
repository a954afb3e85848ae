use Rattle.std.proofs.Common.{◌+◌}
use Rattle.wasm_validate.proofs.Passing.{TypedBefore}
use Rattle.wasm_validate.proofs.bodies.check_bodies.Given as goal

abbrev pub invariant-loop-i : goal.invariant-loop-i
invariant-loop-i l = TypedBefore l.module (l.spaces.imported_functions + l.i)
