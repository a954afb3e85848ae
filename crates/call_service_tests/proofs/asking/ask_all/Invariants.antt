-- Between two asks the pass is the first of the cell, both children are there, and there is room for what is told.
use Rattle.std.proofs.Common.{◌≡◌, ◌≤◌, length, vec_len, vec_capacity}
use Rattle.turn_cell.specs.Cell.{IsPassOf, pass_list, pass_number, start_of}
use Rattle.call_service_tests.specs.Parents.{HasTwo}
use Rattle.call_service_tests.proofs.asking.ask_all.Given as goal

abbrev pub invariant-loop-asked : goal.invariant-loop-asked
invariant-loop-asked g l = record {
  cell : IsPassOf l.pass l.turns;
  number : pass_number l.pass ≡ 0;
  two : HasTwo (start_of l.turns) (pass_list l.pass);
  few : vec_len l.told ≤ l.asked-index;
  room : length l.asks ≤ vec_capacity l.told;
}
