-- So far the items below this one are copied.
use Rattle.std.proofs.Common.{◌≡◌, ◌≤◌, take}
use Rattle.std.specs.Prelude.{vec_capacity}
use Rattle.wasm_interp.proofs.cells.Cells.fill.Given as goal

abbrev pub invariant-loop-x : goal.invariant-loop-x
invariant-loop-x g l = record {
  room : l.self-inside.room ≡ l.initial.self-inside.room;
  fits : l.self-inside.room ≤ vec_capacity l.self-inside.items;
  items : l.self-inside.items.items ≡ take l.x-index l.items;
}
