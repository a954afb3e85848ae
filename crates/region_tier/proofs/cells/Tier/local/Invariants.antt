-- So many keys have a cell, and each maker a pass of each.
use Rattle.std.proofs.Common.{◌≡◌, length}
use Rattle.region_tier.specs.Tiers.{AreReplicas, AreFreshRows, HaveRoom, IsRoomOf, cells_of, numbers_in, room_of}
use Rattle.region_tier.proofs.cells.Tier.local.Given as goal

abbrev pub invariant-loop-size : goal.invariant-loop-size
invariant-loop-size l = record {
  numbered : numbers_in l.tier ≡ l.fn.numbers;
  room : room_of l.tier ≡ length l.sizes;
  rooms : HaveRoom (length l.sizes) l.passes.items;
  closing : IsRoomOf l.room l.tier;
  fresh : AreFreshRows (cells_of l.tier) l.fn.numbers l.passes.items;
  count : length (cells_of l.tier) ≡ l.size-index;
  cells : AreReplicas l.sizes l.fn.numbers (cells_of l.tier);
}
