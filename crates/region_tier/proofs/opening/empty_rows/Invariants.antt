-- So many rows without passes.
use Rattle.std.proofs.Common.{◌≡◌, [], length}
use Rattle.std.specs.Vec.{vec_capacity}
use Rattle.turn_cell.specs.History.{Each}
use Rattle.region_tier.specs.Tiers.{slots_of}
use Rattle.region_tier.proofs.opening.empty_rows.Given as goal

abbrev pub invariant-loop : goal.invariant-loop
invariant-loop l = record {
  count : length l.passes.items ≡ l.counter;
  room : vec_capacity l.passes ≡ l.numbers;
  rows : Each l.passes.items (λ i r. (slots_of r ≡ []) × (vec_capacity r.slots ≡ l.keys));
}
