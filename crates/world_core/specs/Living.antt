-- What is kept of the world that the events so far make, and what an event leaves. This project's own.
use Rattle.std.specs.Prelude.{◌≡◌, ◌<◌, [], ◌∷◌, ◌++◌, All, None, Some, Result, Ok, Err, map, vec_len, vec_capacity}
use Rattle.session_meaning.specs.declared.event.Event.{Event}
use Rattle.session_meaning.specs.Events.{Stand, why, world}
use Rattle.session_meaning.specs.Plan.{Plan}
use Rattle.session_meaning.specs.WellFormed.{WellFormed}
use Rattle.session_meaning.specs.World.{World, first_world}
use Rattle.world_core.specs.Floor.{FloorHas, StandsSo}
use Rattle.world_core.specs.Played.{Plays}
use Rattle.world_core.specs.Seating.{HasPlace, HasSeat}
use Rattle.world_core.specs.declared.running.Running.{Running}
use Rattle.world_core.specs.declared.running.StepFault.{StepFault}
use Rattle.world_core.specs.declared.running.StepFault.TheVariants as fault
use Rattle.world_objects.specs.Kept.{objects_of}

-- the world of the events so far
abbrev pub world_of : Running → World
world_of c = world c.protos.now c.events.items

-- this is kept of a world, all but how the open calls stand on the floor
pub record KeepsWorld (plan : Plan) (w : World) (c : Running) : Type 0 where
  pub table : c.table.table ≡ w.table
  pub objects : c.objects ≡ objects_of w
  pub floor : FloorHas plan w c.floor
  pub numbers : map (λ p. p.call) c.players.items ≡ map (λ s. s.call) c.floor.open.items
  pub players : All (Plays w) c.players.items

-- of the world that the events so far make, each of which may stand where it comes
pub record Settling (c : Running) : Type 0 where
  pub formed : WellFormed c.protos.now
  pub stand : Stand c.protos.now (first_world c.protos.now) c.events.items
  pub keeps : KeepsWorld c.protos.now (world_of c) c

-- and each open call stands on the floor as it stands in that world
pub record Lives (c : Running) : Type 0 where
  pub settling : Settling c
  pub stands : All (StandsSo (world_of c)) c.floor.open.items

-- the world is the same
pub record SameWorld (c new : Running) : Type 0 where
  pub protos : new.protos ≡ c.protos
  pub events : new.events.items ≡ c.events.items

-- there is room for one more of each
pub record HasRooms (c : Running) : Type 0 where
  pub seat : HasSeat c.floor
  pub place : HasPlace c.floor
  pub player : vec_len c.players < vec_capacity c.players
  pub event : vec_len c.events < vec_capacity c.events

-- an event came behind those before, and its world is kept
pub record Entered (e : Event) (c new : Running) : Type 0 where
  pub protos : new.protos ≡ c.protos
  pub events : new.events.items ≡ c.events.items ++ e ∷ []
  pub settling : Settling new

-- nothing is another but how much room there is
pub record KeepsCore (c new : Running) : Type 0 where
  pub same : SameWorld c new
  pub table : new.table ≡ c.table
  pub objects : new.objects ≡ c.objects
  pub queued : new.floor.queued.items ≡ c.floor.queued.items
  pub open_so : new.floor.open.items ≡ c.floor.open.items
  pub players : new.players.items ≡ c.players.items

-- What an event that may stand leaves, before each open call stands on the floor as it stands in the new world. One that may
-- not stand leaves all as it was, and tells the first reason; for want of memory the world is the same.
abbrev pub Stepped : Event → Result (Unit {0}) StepFault → Running → Running → Type 0
Stepped e (Ok x) c new = (why (world_of c) e ≡ None) × Entered e c new
Stepped e (Err (fault.NotEnabled reason)) c new = (why (world_of c) e ≡ Some reason) × (new ≡ c)
Stepped e (Err fault.Want) c new = (why (world_of c) e ≡ None) × SameWorld c new × Lives new
