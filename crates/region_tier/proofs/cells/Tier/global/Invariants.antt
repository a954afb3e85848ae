-- So many keys have a cell, and each maker a pass of each.
use Rattle.std.proofs.Common.{◌≡◌, length}
use Rattle.region_tier.specs.Tiers.{AreGlobals, AreFreshRows, HaveRoom, IsRoomOf, cells_of, numbers_in, room_of}
use Rattle.region_tier.proofs.cells.Tier.global.Given as goal

abbrev pub invariant-loop-value : goal.invariant-loop-value
invariant-loop-value l = record {
  numbered : numbers_in l.tier ≡ l.fn.numbers;
  room : room_of l.tier ≡ length l.values;
  rooms : HaveRoom (length l.values) l.passes.items;
  closing : IsRoomOf l.room l.tier;
  fresh : AreFreshRows (cells_of l.tier) l.fn.numbers l.passes.items;
  count : length (cells_of l.tier) ≡ l.value-index;
  cells : AreGlobals l.values l.fn.numbers (cells_of l.tier);
}
