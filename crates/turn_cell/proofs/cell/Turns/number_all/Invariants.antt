-- What the first seat keeps while it makes the passes, and how many are to come.
use Rattle.std.proofs.Common.{◌-◌, ◌≡◌, ◌≤◌, [], length, Some}
use Rattle.std.specs.Vec.{vec_capacity}
use Rattle.turn_cell.specs.declared.view.Role.TheVariants.{Begins}
use Rattle.turn_cell.specs.Views.{view_of}
use Rattle.turn_cell.specs.Cell.{AreFresh}
use Rattle.turn_cell.proofs.cell.Turns.number_all.Given as goal

abbrev pub invariant-loop-number : goal.invariant-loop-number
invariant-loop-number g l = record {
  seat : (l.seat.table_id ≡ l.self.table.shared.table_id) × (l.seat.me ≡ (view_of (Some l.self.table.shared.key) [] (Begins l.numbers), []));
  count : (length l.passes.items ≡ l.number) × (l.number ≤ l.numbers) × (vec_capacity l.passes ≡ l.numbers);
  each : AreFresh l.passes.items l.self;
}

abbrev pub decreases-loop-number : goal.decreases-loop-number
decreases-loop-number g l = l.numbers - l.number
