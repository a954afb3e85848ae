-- Between two turns the list has grown by entries of others.
use Rattle.std.proofs.Common.{◌≡◌}
use Rattle.turn_cell.specs.Cell.{IsPassOf, pass_list, pass_number}
use Rattle.turn_cell.specs.History.{Extends}
use Rattle.call_service.proofs.asking.take_running.Given as goal

abbrev pub invariant-loop : goal.invariant-loop
invariant-loop g l = record {
  cell : IsPassOf l.pass l.table × (pass_number l.pass ≡ pass_number l.fn.pass);
  list : Extends (pass_number l.fn.pass) (pass_list l.fn.pass) (pass_list l.pass);
}
