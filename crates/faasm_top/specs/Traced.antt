-- What a session comes to under the schedule of a seed, and what some of its functions and keys have in that. This project's own.
use Rattle.std.specs.Prelude.{◌≡◌, ℕ, ◌<◌, ◌⊎◌, Bool, false, List, Option, Some, None, IsTrue, length, slice_get}
use Rattle.fa_outside.specs.Appended.{Appends, AppendsPart}
use Rattle.faaslet_meaning.specs.declared.call.CallRecord.{CallRecord}
use Rattle.session_meaning.specs.declared.event.Event.{Event}
use Rattle.session_meaning.specs.Cut.{events_cut, plan_cut}
use Rattle.session_meaning.specs.CutReport.{all_lines, joined, lines_of}
use Rattle.session_meaning.specs.Draft.{Draft, plan_of}
use Rattle.session_meaning.specs.Events.{Worlds, world}
use Rattle.session_meaning.specs.Plan.{Closed, Names, Plan}
use Rattle.session_meaning.specs.Schedule.{Schedule, is_stuck}
use Rattle.session_meaning.specs.SessionReport.{is_done, outcome_of, world_report}
use Rattle.session_meaning.specs.World.{World}

-- ---- How a session ends.

-- the call of a request is done
abbrev pub is_done_at : List CallRecord → ℕ → Bool
is_done_at records n = elim (slice_get records n) [ None ↦ false | Some r ↦ elim (outcome_of r.state) [ None ↦ false | Some o ↦ is_done o ] ]

abbrev pub EachDone : Plan → List CallRecord → Type 0
EachDone plan records = (n : ℕ) → n < length plan.requests → IsTrue (is_done_at records n)

pub record EndsWell (plan : Plan) (records : List CallRecord) (stuck : Bool) : Type 0 where
  pub each_done : EachDone plan records
  pub not_stuck : stuck ≡ false

-- the status is 0 where it ends well, and else 1
abbrev pub IsEndStatus : ℕ → Plan → List CallRecord → Bool → Type 0
IsEndStatus status plan records stuck = ((status ≡ 0) × EndsWell plan records stuck) ⊎ ((status ≡ 1) × (EndsWell plan records stuck → ⊥))

-- ---- A trace.

-- The session of a draft comes to this text and this status under the schedule of a seed: the report of the world behind the
-- last event.
pub record TracesTo (draft : Draft) (seed status : ℕ) (text : List ℕ) : Type 0 where
  pub plan : Plan
  pub is_plan : plan_of draft ≡ Some plan
  pub events : List Event
  pub schedule : Schedule plan seed events
  pub is_text : text ≡ world_report plan (world plan events)
  pub is_status : IsEndStatus status plan (world plan events).table.records (is_stuck plan (world plan events))

-- this text was written whole
pub record WritesTrace (draft : Draft) (seed status : ℕ) (old new : Option (List ℕ)) : Type 0 where
  pub text : List ℕ
  pub traces : TracesTo draft seed status text
  pub appends : Appends old new text

-- a front of it was written, and not all
pub record WritesTracePart (draft : Draft) (seed : ℕ) (old new : Option (List ℕ)) : Type 0 where
  pub status : ℕ
  pub text : List ℕ
  pub traces : TracesTo draft seed status text
  pub appends : AppendsPart old new text

-- ---- What some functions and some keys have in it.

-- their lines are those of the world that they come to by themselves, under their own events
pub record HasPart (plan : Plan) (events : List Event) (functions keys : Names) : Type 0 where
  pub small : World
  pub made : Worlds (plan_cut plan functions keys) (events_cut plan functions (world plan events) events) small
  pub lines : all_lines (plan_cut plan functions keys) small ≡ lines_of plan functions keys (world plan events)
  pub report_so : world_report (plan_cut plan functions keys) small ≡ joined (lines_of plan functions keys (world plan events))

-- the text is its lines, and each closed set of functions and keys has its part in them
pub record HasParts (plan : Plan) (events : List Event) (text : List ℕ) : Type 0 where
  pub lines : text ≡ joined (all_lines plan (world plan events))
  pub parts : (functions keys : Names) → Closed plan functions keys → HasPart plan events functions keys
