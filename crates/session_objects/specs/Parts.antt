-- The objects that a session opens, with all passes. This project's own.
use Rattle.std.specs.Prelude.{◌≡◌, ℕ, ◌+◌, ◌≤◌, List, [], length}
use Rattle.std.specs.Vec.{vec_capacity}
use mathlib.Core.Option.{some}
use lib.ListN.{get_elem?}
use Rattle.call_table.specs.Session.{empty_session}
use Rattle.region_tier.specs.declared.cells.Tier.{Tier}
use Rattle.region_tier.specs.Tiers.{AreFreshRows, AreGlobals, IsRoomOf, IsRow, cells_of, numbers_in, slots_of}
use Rattle.session_meaning.specs.Draft.{Draft}
use Rattle.turn_cell.specs.Cell.{IsPassOf, pass_number, numbers_of, start_of}
use Rattle.turn_cell.specs.History.{Each}
use Rattle.session_objects.specs.declared.columns.BenchPasses.{BenchPasses}
use Rattle.session_objects.specs.declared.objects.Closing.{Closing}
use Rattle.session_objects.specs.declared.objects.Objects.{Objects}
use Rattle.session_objects.specs.declared.objects.Opened.{Opened}
use Rattle.session_objects.specs.declared.objects.SessionPasses.{SessionPasses}
use Rattle.session_objects.specs.declared.opening.Whole.{Whole}
use Rattle.session_objects.specs.Rests.{AreDealt, AreWhole, FreshFor, IsFreshPass, IsLocal}
use Rattle.session_objects.specs.Shape.{benches, callables_in, each, host_of, makers, sizes, values, workers}

-- a tier of the global values of these sizes and initial bytes, for so many makers
pub record IsGlobal (values : List (ℕ × List ℕ)) (numbers : ℕ) (tier : Tier) : Type 0 where
  pub keys : length (cells_of tier) ≡ length values
  pub globals : AreGlobals values numbers (cells_of tier)
  pub numbered : numbers_in tier ≡ numbers

-- for each host a tier of replicas, the tier of the global values, and the table without records
pub record AreFor (d : Draft) (o : Objects) : Type 0 where
  pub hosts : length o.locals.items ≡ d.hosts
  pub locals : Each o.locals.items (λ h tier. IsLocal (sizes d) (benches d) tier)
  pub globals : IsGlobal (values d) (benches d) o.globals
  pub table : start_of o.table ≡ empty_session d.hosts (callables_in d) d.workers (length d.requests)
  pub numbered : numbers_of o.table ≡ makers d

-- the passes of a bench, which have seen nothing
pub record IsFresh (d : Draft) (o : Objects) (bench : ℕ) (p : BenchPasses) : Type 0 where
  pub tier : Tier
  pub at_host : get_elem? o.locals.items (host_of d bench) ≡ some tier
  pub local : FreshFor tier bench p.local
  pub global : FreshFor o.globals bench p.global
  pub table : IsFreshPass o.table bench p.table

-- the passes of all benches and workers in the order of their numbers, and the session's
pub record AreFresh (d : Draft) (o : Objects) (p : SessionPasses) : Type 0 where
  pub bench_count : length p.benches.items ≡ benches d
  pub benches_so : Each p.benches.items (IsFresh d o)
  pub worker_count : length p.workers.items ≡ workers d
  pub workers_so : Each p.workers.items (λ w x. IsFreshPass o.table (benches d + w) x)
  pub session : IsFreshPass o.table (benches d + workers d) p.session

-- the memory with which these objects close, and of each replica the passes of the benches of other hosts, unused
pub record Closes (d : Draft) (o : Objects) (c : Closing) : Type 0 where
  pub rests : AreDealt o.locals.items (each d) 0 c.rests.items
  pub globals : IsRoomOf c.globals o.globals
  pub emptied : (c.columns.locals.items ≡ []) × (c.columns.globals.items ≡ []) × (c.columns.table.items ≡ []) × (c.ends.items ≡ [])
  pub local_room : benches d ≤ vec_capacity c.columns.locals
  pub global_room : benches d ≤ vec_capacity c.columns.globals
  pub table_room : makers d ≤ vec_capacity c.columns.table
  pub end_room : d.hosts ≤ vec_capacity c.ends

pub record IsOpened (d : Draft) (o : Opened) : Type 0 where
  pub objects : AreFor d o.objects
  pub passes : AreFresh d o.objects o.passes
  pub closing : Closes d o.objects o.closing

-- all that is opened, with the passes as they came
pub record IsWhole (d : Draft) (w : Whole) : Type 0 where
  pub objects : AreFor d w.objects
  pub rests : AreWhole w.objects.locals.items w.rests.items
  pub globals : IsRoomOf w.globals w.objects.globals
  pub rows : AreFreshRows (cells_of w.objects.globals) (benches d) w.rows.items
  pub rows_room : benches d ≤ vec_capacity w.rows
  pub column_count : length w.column.items ≡ makers d
  pub column_room : makers d ≤ vec_capacity w.column
  pub column : Each w.column.items (IsFreshPass w.objects.table)

-- the passes of a bench, whatever they have seen
pub record IsBench (d : Draft) (o : Objects) (bench : ℕ) (p : BenchPasses) : Type 0 where
  pub tier : Tier
  pub at_host : get_elem? o.locals.items (host_of d bench) ≡ some tier
  pub local : IsRow (cells_of tier) (slots_of p.local) bench
  pub global : IsRow (cells_of o.globals) (slots_of p.global) bench
  pub table : (pass_number p.table ≡ bench) × IsPassOf p.table o.table

-- all passes are back, in the order of their numbers
pub record AreBack (d : Draft) (o : Objects) (p : SessionPasses) : Type 0 where
  pub bench_count : length p.benches.items ≡ benches d
  pub benches_so : Each p.benches.items (IsBench d o)
  pub worker_count : length p.workers.items ≡ workers d
  pub workers_so : Each p.workers.items (λ w x. (pass_number x ≡ benches d + w) × IsPassOf x o.table)
  pub session : (pass_number p.session ≡ benches d + workers d) × IsPassOf p.session o.table
