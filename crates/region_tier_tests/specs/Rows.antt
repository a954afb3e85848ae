-- What the callers of a tier know of its rows. This project's own.
use Rattle.std.specs.Prelude.{◌≡◌, ℕ, List, [], ◌∷◌, Some}
use Rattle.std.specs.Prelude as std
use mathlib.Core.List.{IsPrefix}
use mathlib.Core.Option.{some}
use lib.ListN.{get_elem?}
use Rattle.faaslet_meaning.specs.Region.{global_value}
use Rattle.shared_region.specs.Shared.{Shared}
use Rattle.turn_cell.specs.declared.cell.Turns.{Turns}
use Rattle.turn_cell.specs.declared.view.Entry.{Entry}
use Rattle.turn_cell.specs.Cell.{pass_list, start_of, numbers_of}
use Rattle.region_tier.specs.declared.cells.Passes.{Passes}
use Rattle.region_tier.specs.Tiers.{RegionPass}

-- the pass of a key has seen these entries first
abbrev pub BeginsWith : List (std.Option RegionPass) → ℕ → List Entry → Type 0
BeginsWith slots key entries = (p : RegionPass) × (get_elem? slots key ≡ some (Some p)) × IsPrefix entries (pass_list p)

-- the passes of the first maker are such
abbrev pub FirstOf : List Passes → (Passes → Type 0) → Type 0
FirstOf rows P = (r : Passes) × (get_elem? rows 0 ≡ some r) × P r

-- the first cell is that of a global value of one byte without initial bytes, for two makers
abbrev pub IsOneByte : List (Turns Shared) → Type 0
IsOneByte cells = (t : Turns Shared) × (get_elem? cells 0 ≡ some t) × (start_of t ≡ record { region = global_value 1 []; room = 2 }) × (numbers_of t ≡ 2)
