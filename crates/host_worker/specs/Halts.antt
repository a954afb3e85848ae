-- Where a call stands that its bench has run as far as it goes. This project's own.
use Rattle.std.specs.Prelude.{◌≡◌, ℕ, ◌+◌, ◌≤◌, false, Some, length}
use Rattle.faaslet_meaning.specs.declared.grant.Channel.{Channel}
use Rattle.faaslet_meaning.specs.declared.grant.Channel.TheVariants.{Table}
use Rattle.faaslet_meaning.specs.declared.outcome.Outcome.{Outcome}
use Rattle.faaslet_meaning.specs.CallState.{State, asks, over}
use Rattle.faaslet_meaning.specs.Channels.{Operation, ask, Transcript, counts, told_by}
use Rattle.faaslet_meaning.specs.Lists.{passes_at}
use Rattle.faaslet_meaning.specs.Records.{child_of, is_finished}
use Rattle.faaslet_meaning.specs.Runs.{Runs}
use Rattle.faaslet_run.specs.Counted.{counted}
use Rattle.faaslet_run.specs.Places.{StandsAt}
use Rattle.turn_cell.specs.Cell.{pass_list, start_of}
use Rattle.turn_cell.specs.History.{Stands}
use Rattle.call_table.specs.Makers.{MakesTable, RunsOn}
use Rattle.call_table.specs.Session.{SessionTable}
use Rattle.told_asks.specs.Leaves.{leaves_lock}
use Rattle.host_worker.specs.Busy.{Errand, first_of, function_of, invocation_of}
use Rattle.host_worker.specs.Hearing.{LeavesNone, with_call}
use Rattle.host_worker.specs.declared.bench.Bench.{Bench}
use Rattle.host_worker.specs.declared.bench.Halt.{Halt}
use Rattle.host_worker.specs.declared.bench.Halt.TheVariants as halt
use Rattle.host_worker.specs.declared.bench.Tiers.{Tiers}

-- The call looks at a child, which is the call with this number, and which isn't finished in the table to which the bench's list
-- leads.
pub record AwaitsChild (tiers : Tiers) (b : Bench) (e : Errand) (t : Transcript) (n : ℕ) : Type 0 where
  pub child : ℕ
  pub state : State
  pub at : StandsAt b.faaslet (invocation_of e) (first_of e) t (asks state (ask Table (Operation.look child)))
  pub table : SessionTable
  pub leads : Stands MakesTable (start_of tiers.table.now) (pass_list b.passes.table) table
  pub runs : RunsOn table.table b.call b.number
  pub is_child : child_of table.table.records b.call child ≡ Some n
  pub unfinished : passes_at (λ r. is_finished r.state) table.table.records n ≡ false

-- The call is over. By what it was told it is a run of its function to this outcome, with this output and used fuel.
pub record HasEnded (b : Bench) (e : Errand) (t : Transcript) (o : Outcome) : Type 0 where
  pub last : State
  pub at : StandsAt b.faaslet (invocation_of e) (first_of e) t (over last o)
  pub used : ℕ
  pub used_so : used + last.config.fuel ≡ (function_of e).fuel
  pub fuel_so : (first_of e).config.fuel ≡ (function_of e).fuel
  pub runs : Runs (function_of e) e.input (told_by t) o last.output used
  pub in_room : length last.output ≤ (function_of e).room
  pub counts_so : counted (function_of e).grants t ≡ counts (function_of e).grants (told_by t)
  pub unlocked : (channel : Channel) → leaves_lock false (told_by t channel) ≡ false
  pub free : LeavesNone (with_call e.before b.call t)

abbrev pub Halts : Tiers → Bench → Errand → Transcript → Halt → Type 0
Halts tiers b e t (halt.Awaits n) = AwaitsChild tiers b e t n
Halts tiers b e t (halt.Ended o) = HasEnded b e t o
