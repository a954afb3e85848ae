use Rattle.std.specs.Prelude.{◌≡◌, Some}
use Rattle.faaslet_meaning.specs.CallState.{Invocation, State, Progress}
use Rattle.faaslet_meaning.specs.Channels.{Transcript}
use Rattle.faaslet_run.specs.Places.{StandsAt}
use Rattle.faaslet_run.specs.Turns.{GoesOn, IsReady, SameRoom, runs_left, turn_of}
use Rattle.faaslet_run.specs.declared.faaslet.Turn.{Turn}
use Rattle.faaslet_run.proofs.faaslet.Faaslet.next.Given as goal

abbrev pub invariant-turns : goal.invariant-turns
invariant-turns l = record {
  some : (j : Invocation) × (start : State) × (transcript : Transcript) × (p : Progress) × StandsAt l.self j start transcript p;
  goes : (j : Invocation) (start : State) (transcript : Transcript) (p : Progress) → StandsAt l.initial.self j start transcript p → IsReady l.initial.self j p → GoesOn l.self j start transcript;
  again : (turn : Turn) → turn_of l.initial.self.stage ≡ Some turn → l.self ≡ l.initial.self;
  rooms : SameRoom l.initial.self l.self;
}

abbrev pub decreases-turns : goal.decreases-turns
decreases-turns l = runs_left l.self
