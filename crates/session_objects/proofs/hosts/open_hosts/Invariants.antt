-- So many hosts are open.
use Rattle.std.proofs.Common.{◌≡◌, length}
use Rattle.std.specs.Vec.{vec_capacity}
use Rattle.turn_cell.specs.History.{Each}
use Rattle.session_objects.specs.Rests.{AreWhole, IsLocal}
use Rattle.session_objects.proofs.hosts.open_hosts.Given as goal

abbrev pub invariant-loop : goal.invariant-loop
invariant-loop l = record {
  count : length l.tiers.items ≡ l.counter;
  tier_room : vec_capacity l.tiers ≡ l.hosts;
  rest_room : vec_capacity l.rests ≡ l.hosts;
  locals : Each l.tiers.items (λ h tier. IsLocal l.sizes l.numbers tier);
  rests : AreWhole l.tiers.items l.rests.items;
}
