-- So far so many zeros stand behind the cells.
use Rattle.std.proofs.Common.{◌≡◌, ◌-◌, ◌≤◌, ◌++◌}
use Rattle.std.specs.Prelude.{replicate, vec_capacity}
use Rattle.wasm_interp.proofs.value_stack.grow.Given as goal

abbrev pub invariant-loop-k : goal.invariant-loop-k
invariant-loop-k l = record {
  low : l.held ≤ l._k;
  near : l._k - l.held ≤ l.count - l.held;
  cells : l.cells.items ≡ l.initial.cells.items ++ replicate (l._k - l.held) 0;
  room : vec_capacity l.initial.cells ≤ vec_capacity l.cells;
}
