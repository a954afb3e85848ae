-- How many requests came, by a list of entries. This project's own.
use Rattle.std.specs.Prelude.{◌≡◌, ℕ, ◌<◌, List, All}
use Rattle.faaslet_meaning.specs.declared.call.CallRecord.{CallRecord}
use Rattle.turn_cell.specs.declared.view.Entry.{Entry}
use Rattle.turn_cell.specs.History.{Stands}
use Rattle.call_table.specs.Makers.{MakesTable}
use Rattle.call_table.specs.Session.{SessionTable, came}

-- each call has a depth
abbrev pub AreDeep : List CallRecord → Type 0
AreDeep records = All (λ r. 0 < r.depth) records

abbrev pub CameBy : SessionTable → List Entry → ℕ → Type 0
CameBy start list n = (t : SessionTable) → Stands MakesTable start list t → came t.table.records ≡ n

-- some are still to come
abbrev pub SomeToCome : SessionTable → List Entry → Type 0
SomeToCome start list = (t : SessionTable) → Stands MakesTable start list t → came t.table.records < start.requests
