-- A region as its fields. This project's own.
use Rattle.std.specs.Prelude.{◌≤◌, length}
use Rattle.shared_region.specs.Shared.{Shared}
use Rattle.shared_region.specs.declared.region.Region.TheInside.{Inside}

abbrev pub shared_in : Inside → Shared
shared_in s = record {
  region = record {
    bytes = s.bytes.items;
    size = s.size;
    used = s.used;
    present = s.present;
    writer = s.locks.writer;
    readers = s.locks.readers;
  };
  room = s.locks.room;
}

-- what is used lies in the size, and the size in the bytes
pub record IsShared (s : Inside) : Type 0 where
  pub within : s.used ≤ s.size
  pub whole : s.size ≤ length s.bytes.items
