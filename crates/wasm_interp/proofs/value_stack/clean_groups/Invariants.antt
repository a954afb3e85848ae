-- So far the runs of the groups below this one are cleaned.
use Rattle.std.proofs.Common.{◌≡◌, length}
use Rattle.wasm_interp.proofs.ValueCells.{GroupsCleaned}
use Rattle.wasm_interp.proofs.value_stack.clean_groups.Given as goal

abbrev pub invariant-loop-group : goal.invariant-loop-group
invariant-loop-group l = record {
  cleaned : GroupsCleaned l.initial.cells l.cells l.marks l.first l.last l.group;
  marks : length l.marks ≡ length l.initial.marks;
}
