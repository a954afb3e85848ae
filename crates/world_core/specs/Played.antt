-- An open call as it is kept of a world: its Faaslet, and where that stands. This project's own.
use Rattle.std.specs.Prelude.{◌≡◌, ◌≤◌, Option, Some, None}
use Rattle.call_table.specs.declared.jobs.Job.{Job}
use Rattle.faaslet_meaning.specs.declared.ask.Ask.{Ask}
use Rattle.faaslet_meaning.specs.Fresh.{Function}
use Rattle.faaslet_run.specs.declared.faaslet.Faaslet.{Faaslet}
use Rattle.faaslet_run.specs.declared.faaslet.Turn.TheVariants as turns
use Rattle.proto_faaslet.specs.Entries.{HasRoom}
use Rattle.session_meaning.specs.Events.{open_at}
use Rattle.session_meaning.specs.OpenCall.{Open, is_broken}
use Rattle.session_meaning.specs.World.{World}
use Rattle.world_core.specs.Opened.{AtTurn}
use Rattle.world_core.specs.declared.player.Place.{Place}
use Rattle.world_core.specs.declared.player.Place.TheVariants as place
use Rattle.world_core.specs.declared.player.Player.{Player}

-- there is room for calls of the function
pub record FitsFor (f : Faaslet) (g : Function) : Type 0 where
  pub room : HasRoom f.machine g.code
  pub pages : g.quota ≤ f.machine.memory.room

-- what was handed out is a call of the function
pub record IsJobOf (job : Job) (g : Function) : Type 0 where
  pub fuel : job.fuel ≡ g.fuel
  pub room : job.room ≡ g.room
  pub few : job.len ≤ 65536

-- A call stands where its Faaslet told that it is. One of a broken function is through from the first on.
abbrev pub IsAt : Open → Faaslet → Place → Type 0
IsAt o f (place.Told turn) = AtTurn o f turn
IsAt o f (place.Broken kind) = o.machine ≡ is_broken kind

-- the question that a call stands at
abbrev pub question_told : Place → Option Ask
question_told (place.Told (turns.Asks a)) = Some a
question_told _ = None

-- it is an open call of the world, at its host, and stands where it stands there
pub record Plays (w : World) (p : Player) : Type 0 where
  pub o : Open
  pub open_so : open_at w p.call ≡ Some o
  pub host : p.host ≡ o.host
  pub stands : IsAt o p.faaslet p.place
