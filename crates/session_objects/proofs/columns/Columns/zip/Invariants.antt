-- The passes behind those that are left are put together.
use Rattle.std.proofs.Common.{◌≡◌, ◌+◌, ◌++◌, length, reverse}
use Rattle.std.specs.Vec.{vec_capacity}
use Rattle.session_objects.specs.Lists.{globals_of, locals_of, tables_of}
use Rattle.session_objects.proofs.columns.Columns.zip.Given as goal

abbrev pub invariant-loop-local : goal.invariant-loop-local
invariant-loop-local l = record {
  locals : l.fn.self.locals.items ≡ l.self.locals.items ++ locals_of (reverse l.benches.items);
  globals : l.fn.self.globals.items ≡ l.self.globals.items ++ globals_of (reverse l.benches.items);
  tables : l.fn.self.table.items ≡ l.self.table.items ++ tables_of (reverse l.benches.items);
  same_globals : length l.self.globals.items ≡ length l.self.locals.items;
  same_table : length l.self.table.items ≡ length l.self.locals.items;
  count : length l.benches.items + length l.self.locals.items ≡ length l.fn.self.locals.items;
  room : vec_capacity l.benches ≡ vec_capacity l.fn.benches;
  local_room : vec_capacity l.self.locals ≡ vec_capacity l.fn.self.locals;
  global_room : vec_capacity l.self.globals ≡ vec_capacity l.fn.self.globals;
  table_room : vec_capacity l.self.table ≡ vec_capacity l.fn.self.table;
}

abbrev pub decreases-loop-local : goal.decreases-loop-local
decreases-loop-local l = length l.self.locals.items
