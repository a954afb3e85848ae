-- After each turn the pass has one entry more.
use Rattle.std.proofs.Common.{◌≡◌, ◌-◌, ◌≤◌, ◌++◌, ◌∷◌, [], replicate}
use Rattle.turn_cell.specs.History.{own, entry}
use Rattle.turn_cell.specs.Cell.{IsPassOf, pass_list, pass_number}
use Rattle.turn_counter.proofs.adding.add_times.Given as goal

abbrev pub invariant-loop-done : goal.invariant-loop-done
invariant-loop-done g l = record {
  cell : IsPassOf l.pass l.turns × (pass_number l.pass ≡ pass_number l.fn.pass);
  count : l.done ≤ l.times;
  own : own (pass_number l.fn.pass) (pass_list l.pass) ≡ own (pass_number l.fn.pass) (pass_list l.fn.pass) ++ replicate l.done (entry (pass_number l.fn.pass) (l.amount ∷ []));
}

abbrev pub decreases-loop-done : goal.decreases-loop-done
decreases-loop-done g l = l.times - l.done
