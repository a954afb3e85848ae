-- What is kept of a host until its tier closes, and fresh passes. This project's own.
use Rattle.std.specs.Prelude.{◌≡◌, ℕ, ◌+◌, ◌*◌, ◌<◌, ◌≤◌, List, [], Some, length, reverse}
use Rattle.std.specs.List.{All}
use Rattle.std.specs.Vec.{vec_capacity}
use mathlib.Core.Option.{some}
use lib.ListN.{get_elem?}
use Rattle.call_table.specs.Session.{SessionTable}
use Rattle.call_table.specs.contracts.kept.CallTableKept.TheImpl.{ghosts}
use Rattle.region_tier.specs.declared.cells.Passes.{Passes}
use Rattle.region_tier.specs.declared.cells.Tier.{Tier}
use Rattle.region_tier.specs.Tiers.{AreReplicas, IsFreshRow, IsRoomOf, IsRow, RegionPass, cells_of, numbers_in, slots_of}
use Rattle.shared_region.specs.Entries.{MakesShared}
use Rattle.shared_region.specs.Shared.{Shared}
use Rattle.turn_cell.specs.declared.cell.Seen.{Seen}
use Rattle.turn_cell.specs.declared.cell.Pass.{Pass}
use Rattle.turn_cell.specs.declared.cell.Turns.{Turns}
use Rattle.turn_cell.specs.Cell.{IsPassOf, pass_list, pass_number, start_of, whole_list}
use Rattle.turn_cell.specs.History.{Each, Extends, Stands}
use Rattle.session_objects.specs.declared.hosts.HostRest.{HostRest}

abbrev pub TablePass : Type 0
TablePass = Pass SessionTable ghosts

-- a pass of this number that has seen nothing
abbrev pub IsFreshPass : Turns SessionTable → ℕ → TablePass → Type 0
IsFreshPass turns number p = (pass_number p ≡ number) × IsPassOf p turns × (pass_list p ≡ [])

abbrev pub FreshFor : Tier → ℕ → Passes → Type 0
FreshFor tier number row = IsFreshRow (cells_of tier) (slots_of row) number

-- a tier of replicas of these sizes, for so many makers
pub record IsLocal (sizes : List ℕ) (numbers : ℕ) (tier : Tier) : Type 0 where
  pub keys : length (cells_of tier) ≡ length sizes
  pub replicas : AreReplicas sizes numbers (cells_of tier)
  pub numbered : numbers_in tier ≡ numbers

-- the passes of the makers before one number and from another on have seen nothing, and there is room for all
pub record Keeps (tier : Tier) (before from : ℕ) (rest : HostRest) : Type 0 where
  pub room : IsRoomOf rest.room tier
  pub front_count : length rest.front.items ≡ before
  pub front : Each rest.front.items (FreshFor tier)
  pub front_room : numbers_in tier ≤ vec_capacity rest.front
  pub rows_behind : List Passes
  pub behind_so : rest.behind.items ≡ reverse rows_behind
  pub behind_count : from + length rows_behind ≡ numbers_in tier
  pub behind : Each rows_behind (λ j row. FreshFor tier (from + j) row)
  pub behind_room : numbers_in tier ≤ vec_capacity rest.behind

-- all passes of each host
pub record AreWhole (tiers : List Tier) (rests : List HostRest) : Type 0 where
  pub count : length rests ≡ length tiers
  pub each : Each tiers (λ h tier. (rest : HostRest) × (get_elem? rests h ≡ some rest) × Keeps tier (numbers_in tier) (numbers_in tier) rest)

-- of each host from this one on the passes of its own benches are out
pub record AreDealt (tiers : List Tier) (many from : ℕ) (rests : List HostRest) : Type 0 where
  pub count : length rests ≡ length tiers
  pub below : Each tiers (λ h tier. h < from → (rest : HostRest) × (get_elem? rests h ≡ some rest) × Keeps tier (numbers_in tier) (numbers_in tier) rest)
  pub above : Each tiers (λ h tier. from ≤ h → (rest : HostRest) × (get_elem? rests h ≡ some rest) × Keeps tier (h * many) (h * many + many) rest)

-- the passes of a bench to the replicas of its host
pub record IsDealt (tiers : List Tier) (many bench : ℕ) (row : Passes) : Type 0 where
  pub host : ℕ
  pub tier : Tier
  pub at_host : get_elem? tiers host ≡ some tier
  pub low : host * many ≤ bench
  pub high : bench < host * many + many
  pub fresh : FreshFor tier bench row

-- ---- As it closes.

abbrev pub IsRowOf : Tier → ℕ → Passes → Type 0
IsRowOf tier number row = IsRow (cells_of tier) (slots_of row) number

-- a replica has ended: all entries are those of the makers of these passes, which have the numbers from one on, and the list
-- of each is a front of the whole list, with no entry of that maker behind
pub record IsEndOf (from : ℕ) (own : List Passes) (key : ℕ) (cell : Turns Shared) (end : Shared × Seen Shared) : Type 0 where
  pub stands : Stands MakesShared (start_of cell) (whole_list end.1) end.0
  pub makers : All (λ e. (from ≤ e.maker) × (e.maker < from + length own)) (whole_list end.1)
  pub lists : Each own (λ j row. (q : RegionPass) → get_elem? (slots_of row) key ≡ some (Some q) → Extends (from + j) (pass_list q) (whole_list end.1))

abbrev pub EndsOf : Tier → ℕ → List Passes → List (Shared × Seen Shared) → Type 0
EndsOf tier from own ends = (length ends ≡ length (cells_of tier)) × Each (cells_of tier) (λ k cell. (e : Shared × Seen Shared) × (get_elem? ends k ≡ some e) × IsEndOf from own k cell e)

-- the passes of one host's benches stand among those of all
pub record HasEnded (many : ℕ) (locals : List Passes) (host : ℕ) (tier : Tier) (ends : List (Shared × Seen Shared)) : Type 0 where
  pub own : List Passes
  pub count : length own ≡ many
  pub stand : Each own (λ j row. get_elem? locals (host * many + j) ≡ some row)
  pub ended : EndsOf tier (host * many) own ends

abbrev pub EndHosts : List Tier → ℕ → List Passes → List (List (Shared × Seen Shared)) → Type 0
EndHosts tiers many locals ends = (length ends ≡ length tiers)
    × Each tiers (λ h tier. (e : List (Shared × Seen Shared)) × (get_elem? ends h ≡ some e) × HasEnded many locals h tier e)
