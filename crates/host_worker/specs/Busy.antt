-- A bench on which a call runs, after these questions and replies of the call. This project's own.
use Rattle.std.specs.Prelude.{◌≡◌, ℕ, List, [], ◌++◌, Some, slice_get}
use Rattle.faaslet_meaning.specs.CallState.{Invocation, State, fresh_state}
use Rattle.faaslet_meaning.specs.Channels.{Transcript}
use Rattle.faaslet_meaning.specs.Configuration.{Configuration}
use Rattle.faaslet_meaning.specs.Fresh.{Function, fresh, makes}
use Rattle.faaslet_meaning.specs.Runs.{invocation}
use Rattle.faaslet_run.specs.Turns.{GoesOn, SameRoom}
use Rattle.turn_cell.specs.Cell.{pass_list, start_of}
use Rattle.told_asks.specs.Knows.{KnowsBy}
use Rattle.told_asks.specs.Seen.{seen_by}
use Rattle.session_meaning.specs.Plan.{NamedFunction, Plan}
use Rattle.session_meaning.specs.WellFormed.{WellFormed}
use Rattle.host_worker.specs.Hearing.{Hearing, LeavesNone, with_call}
use Rattle.host_worker.specs.Seats.{Heards, IsTableOf, Seats}
use Rattle.host_worker.specs.declared.bench.Bench.{Bench}
use Rattle.host_worker.specs.declared.bench.Tiers.{Tiers}

-- A call to run: the function at a place of a plan, the input, and what the function begins with; and what the bench was told
-- before it.
pub record Errand : Type 0 where
  pub plan : Plan
  pub place : ℕ
  pub named : NamedFunction
  pub input : List ℕ
  pub config : Configuration
  pub before : Hearing

abbrev pub function_of : Errand → Function
function_of e = e.named.function

abbrev pub invocation_of : Errand → Invocation
invocation_of e = invocation (function_of e) e.input

abbrev pub first_of : Errand → State
first_of e = fresh_state e.config

-- the plan is well formed, the function is its, and the bench was left no lock
pub record IsErrand (e : Errand) : Type 0 where
  pub formed : WellFormed e.plan
  pub there : slice_get e.plan.functions e.place ≡ Some e.named
  pub begins : fresh (function_of e) ≡ makes e.config
  pub free : LeavesNone e.before

-- the call runs on the bench, and came so far by this transcript; what the bench was told is this, behind what it was told before
pub record Busy (tiers : Tiers) (b : Bench) (e : Errand) (t : Transcript) : Type 0 where
  pub errand : IsErrand e
  pub seats : Seats e.plan tiers b
  pub table : IsTableOf e.plan (start_of tiers.table.now)
  pub callees : b.callees.now ≡ (function_of e).callees
  pub goes : GoesOn b.faaslet (invocation_of e) (first_of e) t
  pub heards : Heards tiers b (with_call e.before b.call t)
  pub knows : KnowsBy (start_of tiers.table.now) (pass_list b.passes.table) b.call (seen_by [] t)

-- the same bench, with the same call
pub record SameBench (old new : Bench) : Type 0 where
  pub number : new.number ≡ old.number
  pub call : new.call ≡ old.call
  pub callees : new.callees ≡ old.callees
  pub rooms : SameRoom old.faaslet new.faaslet

-- it went on by more questions and replies
pub record Went (tiers : Tiers) (new : Bench) (e : Errand) (t : Transcript) : Type 0 where
  pub trail : Transcript
  pub busy : Busy tiers new e (t ++ trail)
