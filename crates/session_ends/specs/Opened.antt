-- How the objects of a session begin. This project's own.
use Rattle.std.specs.Prelude.{List, length, map}
use Rattle.faaslet_meaning.specs.Region.{replica, global_value}
use Rattle.faaslet_meaning.specs.Spelling.{spelled_on_table}
use Rattle.faaslet_meaning.specs.Table.{submit_request}
use Rattle.session_meaning.specs.Plan.{Key, Plan, callables}
use Rattle.session_meaning.specs.Own.{benches}
use Rattle.shared_region.specs.Shared.{Shared}
use Rattle.turn_cell.specs.declared.view.Entry.{Entry}
use Rattle.turn_cell.specs.History.{entry}
use Rattle.call_table.specs.Makers.{session}
use Rattle.call_table.specs.Session.{SessionTable, empty_session}

-- the table has no records yet
abbrev pub first_session : Plan → SessionTable
first_session plan = empty_session plan.hosts (callables plan) plan.workers (length plan.requests)

-- a replica of a key, and its global value, with room for as many lock holders as there are benches
abbrev pub first_replica : Plan → Key → Shared
first_replica plan k = record { region = replica k.size; room = benches plan }

abbrev pub first_value : Plan → Key → Shared
first_value plan k = record { region = global_value k.size k.init; room = benches plan }

-- what the session enters on the table: the requests of the plan, in order
abbrev pub request_entries : Plan → List Entry
request_entries plan = map (λ r. entry (session (first_session plan)) (spelled_on_table (submit_request r.function r.host r.input))) plan.requests
