-- A Faaslet before a call, and one that is about to run it. This project's own.
use Rattle.std.specs.Prelude.{◌≡◌, ℕ, ◌≤◌, List, [], length, take}
use Rattle.faaslet_meaning.specs.declared.module.Module.{Module}
use Rattle.faaslet_meaning.specs.CallState.{runs, fresh_state}
use Rattle.faaslet_meaning.specs.Configuration.{Configuration}
use Rattle.faaslet_meaning.specs.Fresh.{fresh, makes}
use Rattle.faaslet_meaning.specs.Runs.{invocation}
use Rattle.faaslet_meaning.specs.Words.{call_function}
use Rattle.faaslet_run.specs.Places.{StandsAt}
use Rattle.faaslet_run.specs.declared.faaslet.Faaslet.{Faaslet}
use Rattle.proto_faaslet.specs.Entries.{HasRoom}

-- it has room for a call of the module, and the input at the front of its bytes
pub record CanRun (f : Faaslet) (code : Module) (input : List ℕ) : Type 0 where
  pub room : HasRoom f.machine code
  pub pages : 64 ≤ f.machine.memory.room
  pub front : take (length input) f.input ≡ input

-- it stands where a call of the module with this fuel and this input begins, by no reply so far
pub record IsFreshCall (f : Faaslet) (code : Module) (fuel : ℕ) (input : List ℕ) : Type 0 where
  pub config : Configuration
  pub is_fresh : fresh (call_function code fuel) ≡ makes config
  pub stands : StandsAt f (invocation (call_function code fuel) input) (fresh_state config) [] (runs (fresh_state config))
