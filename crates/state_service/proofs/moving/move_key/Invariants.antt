-- Between two turns nothing was made.
use Rattle.region_tier.specs.Tiers.{cells_of, slots_of}
use Rattle.state_service.specs.Moving.{Waited}
use Rattle.state_service.proofs.moving.move_key.Given as goal

abbrev pub invariant-loop : goal.invariant-loop
invariant-loop g l = record {
  local : Waited (cells_of l.locals) (slots_of l.fn.passes.local) (slots_of l.passes.local) l.key;
  global : Waited (cells_of l.globals) (slots_of l.fn.passes.global) (slots_of l.passes.global) l.key;
}
