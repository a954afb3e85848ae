-- The world of a plan while its requests are submitted, as it is kept. This project's own.
use Rattle.std.specs.Prelude.{◌≡◌, ℕ, [], All, false, fold, length, take}
use Rattle.faaslet_meaning.specs.declared.call.Callable.{Callable}
use Rattle.faaslet_meaning.specs.Channels.{channels}
use Rattle.session_meaning.specs.Draft.{DraftFunction}
use Rattle.session_meaning.specs.Plan.{Plan}
use Rattle.session_meaning.specs.WellFormed.{WellFormed}
use Rattle.session_meaning.specs.World.{World, requested, start}
use Rattle.world_core.specs.Living.{KeepsWorld}
use Rattle.world_core.specs.declared.running.Running.{Running}

-- what the call table knows of a function
abbrev pub callable_in : DraftFunction → Callable
callable_in f = record { fuel = f.fuel; room = f.room; channels = length (channels f.grants) }

-- the world with the first so many requests
abbrev pub requested_world : Plan → ℕ → World
requested_world plan n = fold requested (start plan) (take n plan.requests)

pub record Requested (plan : Plan) (n : ℕ) (c : Running) : Type 0 where
  pub protos : c.protos.now ≡ plan
  pub formed : WellFormed plan
  pub events : c.events.items ≡ []
  pub keeps : KeepsWorld plan (requested_world plan n) c
  pub none_open : c.floor.open.items ≡ []
  pub no_players : c.players.items ≡ []
  pub none_awaited : All (λ q. q.awaited ≡ false) c.floor.queued.items
