-- Which calls are through, and what is left where one is finished on the table. This project's own.
use Rattle.std.specs.Prelude.{◌≡◌, ℕ, Bool, true, false, Some}
use Rattle.faaslet_meaning.specs.declared.outcome.Broken.{Broken}
use Rattle.faaslet_run.specs.declared.faaslet.Turn.TheVariants as turns
use Rattle.session_meaning.specs.Events.{finished, open_at}
use Rattle.session_meaning.specs.OpenCall.{Ended, Open, ended, is_broken}
use Rattle.session_meaning.specs.World.{World}
use Rattle.world_core.specs.Living.{world_of}
use Rattle.world_core.specs.declared.player.Place.{Place}
use Rattle.world_core.specs.declared.player.Place.TheVariants as place
use Rattle.world_core.specs.declared.running.Running.{Running}

-- its Faaslet told its end, or it never ran
abbrev pub is_through : Place → Bool
is_through (place.Told (turns.Ended outcome)) = true
is_through (place.Told (turns.Asks ask)) = false
is_through (place.Broken kind) = true

-- The call is open in the world, and has ended there so. The table is that of the world behind its End; all else is as it was.
pub record IsFinished (c : Running) (call : ℕ) (new : Running) : Type 0 where
  pub o : Open
  pub e : Ended
  pub open_so : open_at (world_of c) call ≡ Some o
  pub ended_so : ended o ≡ Some e
  pub table : new.table.table ≡ (finished (world_of c) call o e).table
  pub rest : new ≡ record c { table = new.table }

-- the call is open in a world, and its function is broken
pub record IsBroken (w : World) (call : ℕ) (kind : Broken) : Type 0 where
  pub o : Open
  pub open_so : open_at w call ≡ Some o
  pub machine : o.machine ≡ is_broken kind
