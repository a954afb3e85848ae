-- The makers from the length of the column on have their passes.
use Rattle.std.proofs.Common.{◌≡◌, length}
use Rattle.std.specs.Vec.{vec_capacity}
use mathlib.Core.List.{IsPrefix}
use Rattle.turn_cell.specs.History.{Each}
use Rattle.region_tier.proofs.Dealing.{DealtFrom}
use Rattle.region_tier.proofs.rows.deal.Given as goal

abbrev pub invariant-loop-pass : goal.invariant-loop-pass
invariant-loop-pass l = record {
  left : IsPrefix l.column.items l.fn.column.items;
  room : vec_capacity l.column ≡ vec_capacity l.fn.column;
  long : length l.rows.items ≡ length l.fn.rows.items;
  dealt : Each l.fn.rows.items (DealtFrom l.fn.column.items l.rows.items (length l.column.items));
}

abbrev pub decreases-loop-pass : goal.decreases-loop-pass
decreases-loop-pass l = goal.left-loop-pass l
