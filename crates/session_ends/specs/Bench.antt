-- What is known of a bench at the end, by the lists of its own passes: behind each of them in the whole list there are entries of
-- others alone. This project's own.
use Rattle.std.specs.Prelude.{◌≡◌, ℕ, List, [], None, Some, map, filter_map, slice_get, unwrap_or}
use Rattle.faaslet_meaning.specs.declared.grant.Channel.TheVariants.{Local, Global, Table as OnTable}
use Rattle.faaslet_meaning.specs.Channels.{Operation, Reply}
use Rattle.faaslet_meaning.specs.Region.{Region, replica, global_value}
use Rattle.faaslet_meaning.specs.Table.{TableOperation}
use Rattle.session_meaning.specs.Answered.{Answered, of_table}
use Rattle.session_meaning.specs.Own.{host_of_bench}
use Rattle.session_meaning.specs.Plan.{Key, Plan}
use Rattle.turn_cell.specs.declared.view.Entry.{Entry}
use Rattle.turn_cell.specs.History.{Stands, Extends}
use Rattle.call_table.specs.Makers.{MakesTable, keeper}
use Rattle.call_table.specs.Session.{SessionTable}
use Rattle.state_service.specs.Heard as state
use Rattle.call_service.specs.Heard as call
use Rattle.bench_parts.specs.AnsweredBy.{answered}
use Rattle.bench_parts.specs.Parts.{Heard}
use Rattle.bench_parts.specs.Ran.{BenchRan}
use Rattle.session_ends.specs.Opened.{first_session}

-- the list of a key, which has no entries where there is no such key
abbrev pub list_of : List (List Entry) → ℕ → List Entry
list_of lists key = unwrap_or (slice_get lists key) []

abbrev pub local_list : List (List (List Entry)) → ℕ → ℕ → List Entry
local_list locals host key = list_of (unwrap_or (slice_get locals host) []) key

-- what a bench was told of a region, by its pass's list
pub record HeardOn (start : Region) (bench : ℕ) (whole : List Entry) (heard : List Answered) : Type 0 where
  pub own : List Entry
  pub others : Extends bench own whole
  pub told : List (Operation × Reply)
  pub told_so : state.Heard start bench own told
  pub heard_so : heard ≡ map (answered None) told

-- and of the table
pub record HeardOnTable (plan : Plan) (bench : ℕ) (whole : List Entry) (heard : List Answered) : Type 0 where
  pub own : List Entry
  pub others : Extends bench own whole
  pub told : List (TableOperation × Reply)
  pub told_so : call.Heard (first_session plan).table bench own told
  pub heard_so : heard ≡ filter_map of_table told

-- All calls of the bench ran on what it was told. Its records are those of the table to which its worker's list leads.
pub record EndedBench (plan : Plan) (locals : List (List (List Entry))) (globals : List (List Entry)) (table : List Entry) (bench : ℕ) : Type 0 where
  pub heard : Heard
  pub on_local : (key : ℕ) (k : Key) → slice_get plan.keys key ≡ Some k → HeardOn (replica k.size) bench (local_list locals (host_of_bench plan bench) key) (heard (Local key))
  pub on_global : (key : ℕ) (k : Key) → slice_get plan.keys key ≡ Some k → HeardOn (global_value k.size k.init) bench (list_of globals key) (heard (Global key))
  pub on_table : HeardOnTable plan bench table (heard OnTable)
  pub worker : List Entry
  pub by_worker : Extends (keeper (first_session plan) bench) worker table
  pub ran : (t : SessionTable) → Stands MakesTable (first_session plan) worker t → BenchRan plan t.table.records bench heard
