-- The makers below this one have given their passes.
use Rattle.std.proofs.Common.{◌≡◌, length}
use Rattle.std.specs.Vec.{vec_capacity}
use Rattle.turn_cell.specs.History.{Each}
use Rattle.region_tier.proofs.Dealing.{GivenTo}
use Rattle.region_tier.proofs.rows.gather.Given as goal

abbrev pub invariant-loop-maker : goal.invariant-loop-maker
invariant-loop-maker l = record {
  count : length l.home.items ≡ l.maker;
  room : vec_capacity l.home ≡ vec_capacity l.fn.home;
  long : length l.rows.items ≡ length l.fn.rows.items;
  given : Each l.fn.rows.items (GivenTo l.home.items l.rows.items l.maker);
}
