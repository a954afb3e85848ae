-- A Faaslet that runs as an open call of a world. This project's own.
use Rattle.std.specs.Prelude.{◌≡◌}
use Rattle.faaslet_meaning.specs.declared.ask.Ask.{Ask}
use Rattle.faaslet_meaning.specs.declared.outcome.Outcome.{Outcome}
use Rattle.faaslet_meaning.specs.CallState.{State, asks, over}
use Rattle.faaslet_meaning.specs.Channels.{Transcript, counts, told_by}
use Rattle.faaslet_run.specs.declared.faaslet.Faaslet.{Faaslet}
use Rattle.faaslet_run.specs.declared.faaslet.Turn.{Turn}
use Rattle.faaslet_run.specs.declared.faaslet.Turn.TheVariants as turns
use Rattle.faaslet_run.specs.Turns.{AsksThis, EndsThus}
use Rattle.session_meaning.specs.OpenCall.{Open, stands}

-- the fuel that a call began with is its function's, and its counts are those of what it was told
pub record Tallies (o : Open) (start : State) (transcript : Transcript) : Type 0 where
  pub fuel : start.config.fuel ≡ o.fuel
  pub counts_so : o.counts ≡ counts o.invocation.program.grants (told_by transcript)

-- it stands at this question
pub record AtAsk (o : Open) (f : Faaslet) (a : Ask) : Type 0 where
  pub start : State
  pub transcript : Transcript
  pub asked : AsksThis f o.invocation start transcript a
  pub machine : o.machine ≡ stands (asks asked.state asked.question)
  pub tallies : Tallies o start transcript

-- it is through
pub record AtEnd (o : Open) (f : Faaslet) (end : Outcome) : Type 0 where
  pub start : State
  pub transcript : Transcript
  pub ended : EndsThus f o.invocation start transcript end
  pub machine : o.machine ≡ stands (over ended.state end)
  pub tallies : Tallies o start transcript

abbrev pub AtTurn : Open → Faaslet → Turn → Type 0
AtTurn o f (turns.Asks a) = AtAsk o f a
AtTurn o f (turns.Ended end) = AtEnd o f end
