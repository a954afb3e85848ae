-- What contracts see of a call table: the table of the definition, and what it knows of its session. This project's own.
use Rattle.std.specs.Prelude.{ℕ, ◌+◌, ◌-◌, not, List, length, filter, ◌==◌}
use Rattle.faaslet_meaning.specs.declared.call.Callable.{Callable}
use Rattle.faaslet_meaning.specs.declared.call.CallRecord.{CallRecord}
use Rattle.faaslet_meaning.specs.Records.{is_finished}
use Rattle.faaslet_meaning.specs.Table.{Table, empty_table}

-- beside the table how many workers each host has, and how many requests there will be
pub record SessionTable : Type 0 where
  pub table : Table
  pub workers : ℕ
  pub requests : ℕ

abbrev pub empty_session : ℕ → List Callable → ℕ → ℕ → SessionTable
empty_session hosts functions workers requests = record { table = empty_table hosts functions; workers = workers; requests = requests }

-- how many requests stand
abbrev pub came : List CallRecord → ℕ
came records = length (filter (λ r. r.depth == 1) records)

-- how many requests are still to come
abbrev pub to_come : SessionTable → ℕ
to_come s = s.requests - came s.table.records

-- how many records are not finished
abbrev pub open_or_queued : List CallRecord → ℕ
open_or_queued records = length (filter (λ r. not (is_finished r.state)) records)

-- how many calls are not finished, with those of requests that are still to come
abbrev pub unfinished : SessionTable → ℕ
unfinished s = open_or_queued s.table.records + to_come s
