-- A Faaslet in a call that knows these children. This project's own.
use Rattle.std.specs.Prelude.{◌≡◌, ℕ, List, [], Option, Some}
use Rattle.faaslet_meaning.specs.declared.ask.Ask.{Ask}
use Rattle.faaslet_meaning.specs.Asks.{question_of_ask}
use Rattle.faaslet_meaning.specs.CallState.{State, asks, fresh_state}
use Rattle.faaslet_meaning.specs.Channels.{Question, Transcript}
use Rattle.faaslet_meaning.specs.Configuration.{Configuration}
use Rattle.faaslet_meaning.specs.Fresh.{Function, fresh, makes}
use Rattle.faaslet_meaning.specs.Runs.{invocation}
use Rattle.faaslet_run.specs.Places.{IsAsking, StandsAt}
use Rattle.faaslet_run.specs.Turns.{GoesOn}
use Rattle.faaslet_run.specs.declared.faaslet.Faaslet.{Faaslet}
use Rattle.faaslet_run_tests.specs.Children.{known_by}

-- somewhere in a call of some function from its fresh state
pub record IsAt (f : Faaslet) (kids : List (Option ℕ)) : Type 0 where
  pub function : Function
  pub input : List ℕ
  pub config : Configuration
  pub is_fresh : fresh function ≡ makes config
  pub transcript : Transcript
  pub knows : kids ≡ known_by [] transcript
  pub at : GoesOn f (invocation function input) (fresh_state config) transcript

-- at this question, which was told, whatever is in the scratch now
pub record IsAsked (f : Faaslet) (a : Ask) (kids : List (Option ℕ)) : Type 0 where
  pub function : Function
  pub input : List ℕ
  pub config : Configuration
  pub is_fresh : fresh function ≡ makes config
  pub transcript : Transcript
  pub knows : kids ≡ known_by [] transcript
  pub state : State
  pub question : Question
  pub at : StandsAt f (invocation function input) (fresh_state config) transcript (asks state question)
  pub waits : IsAsking f.stage
  pub bytes : List ℕ
  pub is : question_of_ask (invocation function input) a bytes ≡ Some question
