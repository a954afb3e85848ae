-- What a run never changes of a thread: how many globals and elements there is room for. This project's own.
use Rattle.std.specs.Prelude.{◌≡◌}
use Rattle.wasm_interp.specs.declared.thread.Thread.{Thread}

pub record SameRooms (t new : Thread) : Type 0 where
  pub globals : new.globals.room ≡ t.globals.room
  pub table : new.table.room ≡ t.table.room
