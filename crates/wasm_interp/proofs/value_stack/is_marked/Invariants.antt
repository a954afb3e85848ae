-- So far no mark is set unless one was seen.
use Rattle.std.proofs.Common.{◌≡◌, ◌*◌, false}
use Rattle.wasm_interp.specs.ValueCells.{AreUnmarked}
use Rattle.wasm_interp.proofs.value_stack.is_marked.Given as goal

abbrev pub invariant-loop-k : goal.invariant-loop-k
invariant-loop-k l = record {
  none : l.any ≡ false → AreUnmarked l.marks (l.group * 32) l.k;
}
