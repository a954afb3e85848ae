-- What is known of a session when all its threads have ended. This project's own.
use Rattle.std.specs.Prelude.{◌≡◌, ℕ, ◌<◌, List, Some, length, map, slice_get}
use Rattle.session_meaning.specs.Own.{benches}
use Rattle.session_meaning.specs.Plan.{Plan}
use Rattle.session_meaning.specs.Seen.{Entries, Seen}
use Rattle.turn_cell.specs.declared.view.Entry.{Entry}
use Rattle.call_table.specs.Session.{SessionTable}
use Rattle.session_ends.specs.Bench.{EndedBench}
use Rattle.session_ends.specs.Ended.{EndedHost, EndedTable, EndedValues}

-- the makers and the numbers of entries
abbrev pub pairs : List Entry → Entries
pairs list = map (λ e. (e.maker, e.numbers)) list

-- the records, and the whole lists of the replicas by host and key, of the global values, and of the table
abbrev pub seen_of : SessionTable → List (List (List Entry)) → List (List Entry) → List Entry → Seen
seen_of end locals globals table = record { records = end.table.records; locals = map (map pairs) locals; globals = map pairs globals; table = pairs table }

-- Each object has ended with its whole list, and `finals` are the global values. Each bench has ended with all its calls.
pub record EndedSession (plan : Plan) (seen : Seen) (finals : List (List ℕ)) : Type 0 where
  pub locals : List (List (List Entry))
  pub globals : List (List Entry)
  pub table : List Entry
  pub end : SessionTable
  pub seen_so : seen ≡ seen_of end locals globals table
  pub hosts : length locals ≡ plan.hosts
  pub replicas : (host : ℕ) (lists : List (List Entry)) → slice_get locals host ≡ Some lists → EndedHost plan host lists
  pub values : EndedValues plan globals finals
  pub on_table : EndedTable plan table end
  pub each_bench : (bench : ℕ) → bench < benches plan → EndedBench plan locals globals table bench
