-- The model of `SegmentedMemory`. This project's own.
use Rattle.std.specs.Prelude.{◌≤◌, vec_capacity}
use Rattle.faaslet_meaning.specs.Memory.{mapping_limit}
use Rattle.region_map.specs.Segments.{Segmented, AreSegments, memory_of, all_segments}
use Rattle.region_map.specs.declared.segmented.SegmentedMemory.TheInside.{Inside}

abbrev pub memory_in : Inside → Segmented
memory_in s = record { memory = memory_of (all_segments s.first s.mappings.items) s.bytes.content.bytes s.bytes.quota; room = s.bytes.room; last = s.bytes.last; dirty = s.bytes.dirty; work = s.bytes.work }

pub record IsSegmented (s : Inside) : Type 0 where
  pub are : AreSegments s.first s.pages s.mappings.items s.bytes
  pub capacity : mapping_limit ≤ vec_capacity s.mappings
