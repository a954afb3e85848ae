-- The passes of the hosts from this one on are dealt out.
use Rattle.std.proofs.Common.{◌≡◌, ◌+◌, ◌*◌, ◌≤◌, length, reverse}
use Rattle.std.specs.Vec.{vec_capacity}
use Rattle.turn_cell.specs.History.{Each}
use Rattle.session_objects.specs.Rests.{AreDealt, IsDealt}
use Rattle.session_objects.proofs.hosts.deal_hosts.Given as goal

abbrev pub invariant-loop-host : goal.invariant-loop-host
invariant-loop-host l = record {
  low : l.host ≤ length l.tiers;
  rests : AreDealt l.tiers l.many l.host l.rests.items;
  count : length l.locals.items + l.host * l.many ≡ l.numbers;
  dealt : Each (reverse l.locals.items) (λ j row. IsDealt l.tiers l.many (l.host * l.many + j) row);
  room : vec_capacity l.locals ≡ vec_capacity l.fn.locals;
}

abbrev pub decreases-loop-host : goal.decreases-loop-host
decreases-loop-host l = l.host
