-- So far the cells below this one are zero.
use Rattle.std.proofs.Common.{◌≡◌, ◌-◌, ◌≤◌}
use Rattle.wasm_interp.specs.ValueCells.{cleared}
use Rattle.wasm_interp.proofs.value_stack.clear.Given as goal

abbrev pub invariant-loop-k : goal.invariant-loop-k
invariant-loop-k l = record {
  low : l.from ≤ l.k;
  near : l.k - l.from ≤ l.to - l.from;
  cells : l.cells ≡ cleared l.initial.cells l.from (l.k - l.from);
}
