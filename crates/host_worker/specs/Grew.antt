-- The lists that the passes of a bench have seen only grow. This project's own.
use Rattle.std.specs.Prelude.{◌≡◌, ℕ, Some}
use mathlib.Core.List.{IsPrefix}
use mathlib.Core.Option.{some}
use lib.ListN.{get_elem?}
use Rattle.region_tier.specs.Tiers.{RegionPass, slots_of}
use Rattle.state_service.specs.May.{Slots}
use Rattle.turn_cell.specs.Cell.{pass_list}
use Rattle.host_worker.specs.declared.bench.Bench.{Bench}

-- the pass of a key is there still, and has seen what it had seen, and maybe more
abbrev pub Longer : Slots → Slots → ℕ → Type 0
Longer old new key = (p : RegionPass) → get_elem? old key ≡ some (Some p) → (q : RegionPass) × (get_elem? new key ≡ some (Some q)) × IsPrefix (pass_list p) (pass_list q)

pub record Grew (old new : Bench) : Type 0 where
  pub locals : (key : ℕ) → Longer (slots_of old.passes.state.local) (slots_of new.passes.state.local) key
  pub globals : (key : ℕ) → Longer (slots_of old.passes.state.global) (slots_of new.passes.state.global) key
  pub table : IsPrefix (pass_list old.passes.table) (pass_list new.passes.table)
