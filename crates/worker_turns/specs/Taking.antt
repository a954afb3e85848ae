-- What a turn leaves in which a worker takes a call for one of its benches. This project's own.
use Rattle.std.specs.Prelude.{◌≡◌, ℕ, ◌<◌, ◌≤◌, false, List, [], Option, Some, None, length}
use Rattle.faaslet_meaning.specs.Channels.{Reply}
use Rattle.faaslet_meaning.specs.Lists.{passes_at}
use Rattle.faaslet_meaning.specs.Records.{is_queued, queued_calls}
use Rattle.faaslet_meaning.specs.Table as table
use Rattle.faaslet_meaning.specs.Table.{TableOperation}
use Rattle.turn_cell.specs.declared.view.Entry.{Entry}
use Rattle.call_table.specs.Handed.{Handed}
use Rattle.call_table.specs.Held.{piece_limit}
use Rattle.call_table.specs.Session.{SessionTable, unfinished}
use Rattle.call_table.specs.declared.jobs.Job.{Job}
use Rattle.call_table.specs.declared.jobs.Next.{Next}
use Rattle.call_table.specs.declared.jobs.Next.TheVariants as next
use Rattle.held_calls.specs.Places.{SameOn, TookAt}
use Rattle.worker_turns.specs.Turned.{AtItsTurn, Entered}

-- The operation took the job's call for the bench, and left all other benches. The job is the call's, its function is one
-- that the table knows, and its input and its room are within the limit.
pub record TookJob (start : SessionTable) (maker host bench : ℕ) (operation : TableOperation) (old new : List Entry) (job : Job) (before after : List ℕ) : Type 0 where
  pub entered : Entered start maker old new (operation, Reply.number job.call)
  pub handed : Handed entered.before.table.records job.call job before after
  pub took : TookAt host bench job.call entered.before.table.records entered.after.table.records
  pub others : (b : ℕ) → (b ≡ bench → ⊥) → SameOn b entered.before.table.records entered.after.table.records
  pub function : job.function < length start.table.functions
  pub len : job.len ≤ piece_limit
  pub room : job.room ≤ piece_limit

-- At a turn nothing was queued, and this many calls were not finished. Nothing was made.
pub record NothingQueued (start : SessionTable) (maker : ℕ) (old new : List Entry) (count : ℕ) : Type 0 where
  pub table : SessionTable
  pub turn : AtItsTurn start maker old new table
  pub none : queued_calls table.table.records ≡ []
  pub count_so : count ≡ unfinished table

-- At a turn the call was not queued. Nothing was made.
pub record NotQueued (start : SessionTable) (maker call : ℕ) (old new : List Entry) : Type 0 where
  pub table : SessionTable
  pub turn : AtItsTurn start maker old new table
  pub no : passes_at (λ r. is_queued r.state) table.table.records call ≡ false

abbrev pub TookNext : SessionTable → ℕ → ℕ → ℕ → List Entry → List Entry → Next → List ℕ → List ℕ → Type 0
TookNext start maker host bench old new (next.Call job) before after = TookJob start maker host bench (table.take_next host bench) old new job before after
TookNext start maker host bench old new (next.None count) before after = NothingQueued start maker old new count × (after ≡ before)

abbrev pub TookThis : SessionTable → ℕ → ℕ → ℕ → ℕ → List Entry → List Entry → Option Job → List ℕ → List ℕ → Type 0
TookThis start maker call host bench old new (Some job) before after = TookJob start maker host bench (table.take_this call host bench) old new job before after × (job.call ≡ call)
TookThis start maker call host bench old new None before after = NotQueued start maker call old new × (after ≡ before)
