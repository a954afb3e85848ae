-- The objects of a session at its end, with their whole lists. This project's own.
use Rattle.std.specs.Prelude.{◌≡◌, ℕ, ◌+◌, ◌<◌, List, Some, length, map}
use Rattle.std.specs.List.{All}
use mathlib.Core.Option.{some}
use lib.ListN.{get_elem?}
use Rattle.call_table.specs.Makers.{MakesTable}
use Rattle.call_table.specs.Session.{SessionTable}
use Rattle.region_tier.specs.Tiers.{RegionPass, cells_of, slots_of}
use Rattle.session_meaning.specs.Draft.{Draft}
use Rattle.shared_region.specs.Entries.{MakesShared}
use Rattle.shared_region.specs.Shared.{Shared}
use Rattle.turn_cell.specs.declared.cell.Seen.{Seen}
use Rattle.turn_cell.specs.declared.cell.Turns.{Turns}
use Rattle.turn_cell.specs.Cell.{pass_list, start_of, whole_list}
use Rattle.turn_cell.specs.History.{Each, Extends, MakersBelow, Stands}
use Rattle.session_objects.specs.declared.columns.BenchPasses.{BenchPasses}
use Rattle.session_objects.specs.declared.objects.Closed.{Closed}
use Rattle.session_objects.specs.declared.objects.Objects.{Objects}
use Rattle.session_objects.specs.declared.objects.SessionPasses.{SessionPasses}
use Rattle.session_objects.specs.Shape.{benches, host_of, makers, workers}

-- A replica stands for its start by its whole list. All entries are those of benches of its host, and the list of each such
-- bench is a front of it, with no entry of that bench behind.
pub record IsReplicaEnd (d : Draft) (benches_back : List BenchPasses) (host key : ℕ) (cell : Turns Shared) (end : Shared × Seen Shared) : Type 0 where
  pub stands : Stands MakesShared (start_of cell) (whole_list end.1) end.0
  pub makers_so : All (λ e. (e.maker < benches d) × (host_of d e.maker ≡ host)) (whole_list end.1)
  pub lists : Each benches_back (λ b p. host_of d b ≡ host → (q : RegionPass) → get_elem? (slots_of p.local) key ≡ some (Some q) → Extends b (pass_list q) (whole_list end.1))

-- a global value stands for its start by its whole list, of which the list of each bench is a front, with no entry of that
-- bench behind
pub record IsGlobalEnd (d : Draft) (benches_back : List BenchPasses) (key : ℕ) (cell : Turns Shared) (end : Shared × Seen Shared) : Type 0 where
  pub stands : Stands MakesShared (start_of cell) (whole_list end.1) end.0
  pub makers_so : MakersBelow (benches d) (whole_list end.1)
  pub lists : Each benches_back (λ b p. (q : RegionPass) → get_elem? (slots_of p.global) key ≡ some (Some q) → Extends b (pass_list q) (whole_list end.1))

-- and so does the table, with the lists of the benches, the workers and the session
pub record IsTableEnd (d : Draft) (o : Objects) (p : SessionPasses) (end : SessionTable × Seen SessionTable) : Type 0 where
  pub stands : Stands MakesTable (start_of o.table) (whole_list end.1) end.0
  pub makers_so : MakersBelow (makers d) (whole_list end.1)
  pub bench_lists : Each p.benches.items (λ b x. Extends b (pass_list x.table) (whole_list end.1))
  pub worker_lists : Each p.workers.items (λ w x. Extends (benches d + w) (pass_list x) (whole_list end.1))
  pub session_list : Extends (benches d + workers d) (pass_list p.session) (whole_list end.1)

-- each cell of a tier has ended, in order
abbrev pub EndAll : List (Turns Shared) → List (Shared × Seen Shared) → (ℕ → Turns Shared → Shared × Seen Shared → Type 0) → Type 0
EndAll cells ends P = (length ends ≡ length cells) × Each cells (λ k cell. (e : Shared × Seen Shared) × (get_elem? ends k ≡ some e) × P k cell e)

pub record AreEnded (d : Draft) (o : Objects) (p : SessionPasses) (c : Closed) : Type 0 where
  pub hosts : length c.locals.items ≡ d.hosts
  pub locals : Each o.locals.items (λ h tier. (ends : List (Shared × Seen Shared)) × (get_elem? (map (λ v. v.items) c.locals.items) h ≡ some ends) × EndAll (cells_of tier) ends (IsReplicaEnd d p.benches.items h))
  pub globals : EndAll (cells_of o.globals) c.globals.items (IsGlobalEnd d p.benches.items)
  pub table : IsTableEnd d o p c.table
