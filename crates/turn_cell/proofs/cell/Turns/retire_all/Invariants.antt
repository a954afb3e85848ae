-- What the keeper has taken back, and which passes are left.
use Rattle.std.proofs.Common.{◌≡◌, ◌≤◌, [], length, Some}
use mathlib.Core.List.{IsPrefix}
use mathlib.Core.Option.{some}
use lib.ListN.{get_elem?}
use Rattle.turn_cell.specs.declared.view.Role.TheVariants.{Noted}
use Rattle.turn_cell.specs.History.{Each, Lists}
use Rattle.turn_cell.specs.Views.{view_full}
use Rattle.turn_cell.proofs.cell.Turns.retire_all.Given as goal

abbrev pub invariant-loop-pass : goal.invariant-loop-pass
invariant-loop-pass g l = record {
  keeper : (l.keeper.table_id ≡ l.fn.keeper.table_id) × (l.keeper.me ≡ (view_full (Some l.self.table.shared.key) l.fn.keeper.me.0.seen Noted [] l.keeper.me.0.retired, []));
  left : IsPrefix l.passes.items l.fn.passes.items;
  old : Each l.fn.keeper.me.0.retired (λ i r. get_elem? l.keeper.me.0.retired i ≡ some r);
  lists : Each l.fn.passes.items (λ k p. length l.passes.items ≤ k → Lists l.keeper.me.0.retired k p.seat.me.0.seen);
}

abbrev pub decreases-loop-pass : goal.decreases-loop-pass
decreases-loop-pass g l = length l.passes.items
