-- The passes of the last benches are taken apart.
use Rattle.std.proofs.Common.{◌≡◌, ◌+◌, length}
use Rattle.std.specs.Vec.{vec_capacity}
use Rattle.session_objects.proofs.Moving.{Unzipped}
use Rattle.session_objects.proofs.columns.Columns.unzip.Given as goal

abbrev pub invariant-loop-bench : goal.invariant-loop-bench
invariant-loop-bench l = record {
  apart : Unzipped l.fn.benches.items l.benches.items l.fn.self.locals.items l.self.locals.items l.fn.self.globals.items l.self.globals.items l.fn.self.table.items l.self.table.items;
  locals : length l.self.locals.items + length l.benches.items ≡ length l.fn.self.locals.items + length l.fn.benches.items;
  globals : length l.self.globals.items + length l.benches.items ≡ length l.fn.self.globals.items + length l.fn.benches.items;
  tables : length l.self.table.items + length l.benches.items ≡ length l.fn.self.table.items + length l.fn.benches.items;
  local_room : vec_capacity l.self.locals ≡ vec_capacity l.fn.self.locals;
  global_room : vec_capacity l.self.globals ≡ vec_capacity l.fn.self.globals;
  table_room : vec_capacity l.self.table ≡ vec_capacity l.fn.self.table;
}

abbrev pub decreases-loop-bench : goal.decreases-loop-bench
decreases-loop-bench l = goal.left-loop-bench l
