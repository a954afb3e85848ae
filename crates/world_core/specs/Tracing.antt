-- An event that a generator picks, and a trace up to some event. This project's own.
use Rattle.std.specs.Prelude.{◌≡◌, ℕ, List, [], ◌∷◌, ◌++◌, Some, length, slice_get}
use Rattle.session_meaning.specs.declared.event.Event.{Event}
use Rattle.session_meaning.specs.Plan.{Plan}
use Rattle.session_meaning.specs.Schedule.{Picks, Schedule, next_of, offered, pick}
use Rattle.world_core.specs.Whole.{Session, world_after}

-- the event that a generator at this number picks of those that are offered comes behind those before
pub record Picked (before : Session) (x : ℕ) (new : Session) : Type 0 where
  pub event : Event
  pub is_picked : slice_get (offered before.plan (world_after before)) (pick (next_of x) (length (offered before.plan (world_after before)))) ≡ Some event
  pub comes : new ≡ record before { events = before.events ++ event ∷ [] }

-- with what is picked from here on, the events so far are the schedule of the seed
pub record Traces (plan : Plan) (seed : ℕ) (s : Session) (x : ℕ) : Type 0 where
  pub plan_so : s.plan ≡ plan
  pub schedule : (rest : List Event) → Picks plan (world_after s) x rest → Schedule plan seed (s.events ++ rest)
