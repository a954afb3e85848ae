-- Between two asks the maker's passes are there, and there is room for what is told.
use Rattle.std.proofs.Common.{◌≤◌, length, vec_len, vec_capacity}
use Rattle.region_tier.specs.Tiers.{cells_of, slots_of}
use Rattle.state_service_tests.specs.Makers.{Keeps}
use Rattle.state_service_tests.proofs.each.serve_each.Given as goal

abbrev pub invariant-loop-asked : goal.invariant-loop-asked
invariant-loop-asked g l = record {
  here : Keeps (cells_of l.locals) (slots_of l.first.local) 0;
  there : Keeps (cells_of l.globals) (slots_of l.first.global) 0;
  few : vec_len l.told ≤ l.asked-index;
  room : length l.asks ≤ vec_capacity l.told;
}
