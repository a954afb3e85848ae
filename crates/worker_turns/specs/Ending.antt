-- When a worker may finish a call, and what that leaves. This project's own.
use Rattle.std.specs.Prelude.{◌≡◌, ℕ, List, IsTrue, nat_le, ◌==◌}
use Rattle.faaslet_meaning.specs.declared.outcome.Outcome.{Outcome}
use Rattle.faaslet_meaning.specs.Channels.{Reply}
use Rattle.faaslet_meaning.specs.Lists.{passes_at}
use Rattle.faaslet_meaning.specs.Table.{Table, finish, callable}
use Rattle.turn_cell.specs.declared.view.Entry.{Entry}
use Rattle.turn_cell.specs.History.{Stands}
use Rattle.call_table.specs.Makers.{MakesTable, RunsOn, keeper}
use Rattle.call_table.specs.Session.{SessionTable}
use Rattle.held_calls.specs.Places.{EndedAt, SameOn}
use Rattle.worker_turns.specs.Turned.{Entered}

-- the call runs on the bench, and may end with an output and counts of these lengths
pub record MayEnd (t : Table) (call bench output counts : ℕ) : Type 0 where
  pub runs : RunsOn t call bench
  pub output_fits : IsTrue (passes_at (λ r. nat_le output r.room) t.records call)
  pub counts_fit : IsTrue (passes_at (λ r. counts == (callable t r.function).channels) t.records call)

-- by a list
abbrev pub RunsBy : SessionTable → List Entry → ℕ → ℕ → Type 0
RunsBy start list call bench = (t : SessionTable) → Stands MakesTable start list t → RunsOn t.table call bench

abbrev pub MayEndBy : SessionTable → List Entry → ℕ → ℕ → ℕ → ℕ → Type 0
MayEndBy start list call bench output counts = (t : SessionTable) → Stands MakesTable start list t → MayEnd t.table call bench output counts

-- by a worker's list the call may end on one of its benches
pub record MayFinish (start : SessionTable) (maker : ℕ) (list : List Entry) (call output counts : ℕ) : Type 0 where
  pub bench : ℕ
  pub maker_so : maker ≡ keeper start bench
  pub may_end : MayEndBy start list call bench output counts

-- the call has ended so on the bench, and all other benches were left
pub record Finishes (start : SessionTable) (maker bench call : ℕ) (outcome : Outcome) (used : ℕ) (output counts : List ℕ) (old new : List Entry) : Type 0 where
  pub entered : Entered start maker old new (finish call outcome used output counts, Reply.done)
  pub ended : EndedAt bench call outcome used output counts entered.before.table.records entered.after.table.records
  pub others : (b : ℕ) → (b ≡ bench → ⊥) → SameOn b entered.before.table.records entered.after.table.records
