-- What contracts see of a session over events: its plan, and its events so far. This project's own.
use Rattle.std.specs.Prelude.{◌≡◌, Some, None, List}
use Rattle.session_meaning.specs.declared.event.Event.{Event}
use Rattle.session_meaning.specs.Events.{why, world}
use Rattle.session_meaning.specs.Plan.{Plan}
use Rattle.session_meaning.specs.World.{World}
use Rattle.world_core.specs.declared.running.Running.{Running}
use Rattle.world_core.specs.declared.running.StepFault.{StepFault}
use Rattle.world_core.specs.declared.running.StepFault.TheVariants as fault

pub record Session : Type 0 where
  pub plan : Plan
  pub events : List Event

abbrev pub session_in : Running → Session
session_in c = record { plan = c.protos.now; events = c.events.items }

-- the world is the fold of its events
abbrev pub world_after : Session → World
world_after s = world s.plan s.events

-- An event is refused exactly where it may not stand, with the first reason. There was no memory only for one that may stand.
abbrev pub Refuses : World → Event → StepFault → Type 0
Refuses w e (fault.NotEnabled reason) = why w e ≡ Some reason
Refuses w e fault.Want = why w e ≡ None
