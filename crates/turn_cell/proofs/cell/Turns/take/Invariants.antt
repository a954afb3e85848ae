-- While it waits, the seat keeps its list and its ticket.
use Rattle.std.proofs.Common.{◌≡◌, ℕ, ◌%◌, ◌^◌, []}
use Rattle.turn_cell.specs.declared.view.Role.TheVariants.{Waits}
use Rattle.turn_cell.specs.Views.{view_of}
use Rattle.turn_cell.proofs.cell.Turns.take.Given as goal

abbrev pub invariant-loop : goal.invariant-loop
invariant-loop g l = (l.seat.table_id ≡ l.fn.pass.seat.table_id)
    × ((t : ℕ) × (l.seat.me ≡ (view_of l.fn.pass.seat.me.0.key l.fn.pass.seat.me.0.seen (Waits l.fn.pass.number t), [])) × (t % 2 ^ 64 ≡ l.ticket))
