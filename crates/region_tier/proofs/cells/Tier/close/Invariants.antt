-- The cells behind those that are left have ended, the last first.
use Rattle.std.proofs.Common.{◌≡◌, ◌+◌, [], length}
use Rattle.std.specs.List.{All}
use Rattle.std.specs.Vec.{vec_capacity}
use mathlib.Core.List.{IsPrefix}
use Rattle.turn_cell.specs.History.{Each}
use Rattle.region_tier.proofs.Ending.{RowLeft, ClosedFrom}
use Rattle.region_tier.proofs.cells.Tier.close.Given as goal

abbrev pub invariant-loop-turns : goal.invariant-loop-turns
invariant-loop-turns l = record {
  cells : IsPrefix l.cells.items l.fn.self.cells.items;
  same : length l.homes.items ≡ length l.cells.items;
  homed : All (λ h. (h.items ≡ []) × (vec_capacity h ≡ l.fn.self.numbers)) l.homes.items;
  ends : length l.ends.items + length l.cells.items ≡ length l.fn.self.cells.items;
  room : vec_capacity l.ends ≡ vec_capacity l.fn.self.cells;
  long : length l.passes.items ≡ length l.fn.passes.items;
  rows : Each l.fn.passes.items (RowLeft l.passes.items (length l.cells.items));
  closed : ClosedFrom l.fn.self.cells.items l.fn.passes.items l.ends.items (length l.cells.items);
}

abbrev pub decreases-loop-turns : goal.decreases-loop-turns
decreases-loop-turns l = length l.cells.items
