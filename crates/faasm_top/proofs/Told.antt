-- What a Faaslet tells next where a call of the program begins: its end.
use Rattle.std.proofs.Common.{◌≡◌, ℕ, ◌+◌, List, [], refl, subst}
use Rattle.faaslet_meaning.specs.declared.module.Module.{Module}
use Rattle.faaslet_meaning.specs.declared.outcome.Outcome.{Outcome}
use Rattle.faaslet_meaning.specs.declared.outcome.Outcome.TheVariants as outcome
use Rattle.faaslet_meaning.specs.CallState.{Invocation, State, fresh_state}
use Rattle.faaslet_meaning.specs.Channels.{told_nothing}
use Rattle.faaslet_meaning.specs.Runs.{invocation, Runs}
use Rattle.faaslet_meaning.specs.Words.{call_function}
use Rattle.faaslet_run.specs.Turns.{EndsThus, Tells}
use Rattle.faaslet_run.specs.declared.faaslet.Faaslet.{Faaslet}
use Rattle.faaslet_run.specs.declared.faaslet.Turn.{Turn}
use Rattle.faaslet_run.specs.declared.faaslet.Turn.TheVariants as turns
use Rattle.faasm_top.specs.FreshCall.{IsFreshCall}
use Rattle.faasm_top.proofs.Calls.{ends_so, no_question, no_want}

module _ (code : Module) (fuel : ℕ) (input : List ℕ) (f new : Faaslet) (begun : IsFreshCall f code fuel input) where
  abbrev here : Invocation
  here = invocation (call_function code fuel) input

  abbrev start : State
  start = fresh_state begun.config

  pub no_other : (turn : Turn) → Tells turn new here start [] → ((o : Outcome) → turn ≡ turns.Ended o → ⊥) → ⊥
  no_other (turns.Ended o) tells not = not o refl
  no_other (turns.Asks a) tells not = no_question code fuel input begun.config tells.state tells.question begun.is_fresh tells.at.way

  pub ends_at : (turn : Turn) (o : Outcome) → turn ≡ turns.Ended o → Tells turn new here start [] → EndsThus new here start [] o
  ends_at (turns.Ended p) o e tells = let same : p ≡ o = cc in subst (EndsThus new here start []) same tells
  ends_at (turns.Asks a) o e tells = absurd (cc)

  module _ (o : Outcome) (end : EndsThus new here start [] o) where
    pub told_runs : (output : List ℕ) (used : ℕ) → output ≡ end.state.output → used + end.state.config.fuel ≡ begun.config.fuel → Runs (call_function code fuel) input told_nothing o output used
    told_runs output used out spent = ends_so code fuel input begun.config end.state o output used begun.is_fresh end.at.way out spent

    pub told_no_want : o ≡ outcome.Want → ⊥
    told_no_want want = no_want code fuel input begun.config end.state o begun.is_fresh end.at.way want
