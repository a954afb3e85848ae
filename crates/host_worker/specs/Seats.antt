-- A bench at the objects of a session: its passes, and what they were told. This project's own.
use Rattle.std.specs.Prelude.{◌≡◌, ℕ, List, Some, length, slice_get}
use mathlib.Core.Option.{some}
use lib.ListN.{get_elem?}
use Rattle.faaslet_meaning.specs.Channels.{Operation, Reply}
use Rattle.faaslet_meaning.specs.Table.{TableOperation}
use Rattle.turn_cell.specs.declared.cell.Turns.{Turns}
use Rattle.turn_cell.specs.declared.view.Entry.{Entry}
use Rattle.turn_cell.specs.Cell.{IsPassOf, pass_list, pass_number, start_of}
use Rattle.turn_cell.specs.History.{Stands}
use Rattle.shared_region.specs.Shared.{Shared}
use Rattle.region_tier.specs.Tiers.{HasPass, RegionPass, cells_of, slots_of}
use Rattle.state_service.specs.Heard as on_region
use Rattle.state_service.specs.May.{Cells, Slots}
use Rattle.call_service.specs.Heard as on_table
use Rattle.call_table.specs.Makers.{MakesTable}
use Rattle.call_table.specs.Session.{SessionTable}
use Rattle.told_asks.specs.Counts.{CountsChildren}
use Rattle.granted_asks.specs.LiesIn.{replica_size}
use Rattle.session_meaning.specs.Plan.{Key, Plan}
use Rattle.host_worker.specs.Hearing.{Hearing}
use Rattle.host_worker.specs.declared.bench.Bench.{Bench}
use Rattle.host_worker.specs.declared.bench.Tiers.{Tiers}

-- ---- Its passes.

-- the cell of a replica began with the size of its key, and in whole pages
pub record IsReplicaOf (k : Key) (t : Turns Shared) : Type 0 where
  pub size : (start_of t).region.size ≡ k.size
  pub bytes : length (start_of t).region.bytes ≡ replica_size k

-- the cell of a global value began with the size of its key
abbrev pub IsValueOf : Key → Turns Shared → Type 0
IsValueOf k t = (start_of t).region.size ≡ k.size

-- On each key of a plan a bench has a pass of the replica of its host and one of the global value, and it has a pass of the
-- table. All have its number.
pub record Seats (plan : Plan) (tiers : Tiers) (b : Bench) : Type 0 where
  pub locals : (key : ℕ) (k : Key) → slice_get plan.keys key ≡ Some k → HasPass (cells_of tiers.local.now) (slots_of b.passes.state.local) key (λ t p. IsReplicaOf k t × (pass_number p ≡ b.number))
  pub globals : (key : ℕ) (k : Key) → slice_get plan.keys key ≡ Some k → HasPass (cells_of tiers.global.now) (slots_of b.passes.state.global) key (λ t p. IsValueOf k t × (pass_number p ≡ b.number))
  pub table : IsPassOf b.passes.table tiers.table.now
  pub number : pass_number b.passes.table ≡ b.number

-- the table began with the functions of a plan, and counts children as they stand
pub record IsTableOf (plan : Plan) (start : SessionTable) : Type 0 where
  pub functions : length start.table.functions ≡ length plan.functions
  pub counts : CountsChildren start.table.records

-- ---- What they were told.

-- by its list the pass of a key was told this
abbrev pub HeardAt : Cells → Slots → ℕ → List (Operation × Reply) → Type 0
HeardAt cells slots key told = (t : Turns Shared) (p : RegionPass) → get_elem? cells key ≡ some t → get_elem? slots key ≡ some (Some p) → on_region.Heard (start_of t).region (pass_number p) (pass_list p) told

-- so was a maker by a list of the table that leads somewhere
abbrev pub HeardBy : SessionTable → ℕ → List Entry → List (TableOperation × Reply) → Type 0
HeardBy start number list told = (t : SessionTable) → Stands MakesTable start list t → on_table.Heard start.table number list told

pub record Heards (tiers : Tiers) (b : Bench) (h : Hearing) : Type 0 where
  pub local : (key : ℕ) → HeardAt (cells_of tiers.local.now) (slots_of b.passes.state.local) key (h.local key)
  pub global : (key : ℕ) → HeardAt (cells_of tiers.global.now) (slots_of b.passes.state.global) key (h.global key)
  pub table : HeardBy (start_of tiers.table.now) b.number (pass_list b.passes.table) h.table
