-- So far the runs below this one are cleaned.
use Rattle.std.proofs.Common.{◌≡◌, ◌*◌, length}
use Rattle.wasm_interp.specs.ValueCells.{Cleaned}
use Rattle.wasm_interp.proofs.value_stack.clean.Given as goal

abbrev pub invariant-loop-run : goal.invariant-loop-run
invariant-loop-run l = record {
  cleaned : Cleaned l.initial.cells l.cells l.marks (l.first * 64) (l.run * 64);
  marks : length l.marks ≡ length l.initial.marks;
}
