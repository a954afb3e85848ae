-- Whole runs of a call, and what they come to. This project's own.
use Rattle.std.specs.Prelude.{◌≡◌, ℕ, ◌+◌, List, [], ◌∷◌, IsTrue}
use Rattle.faaslet_meaning.specs.declared.outcome.Outcome.{Outcome}
use Rattle.faaslet_meaning.specs.declared.outcome.Outcome.TheVariants as outcome
use Rattle.faaslet_meaning.specs.declared.grant.Channel.{Channel}
use Rattle.faaslet_meaning.specs.Channels.{Reply, Question, Transcript, Told, told_by}
use Rattle.faaslet_meaning.specs.Configuration.{Configuration}
use Rattle.faaslet_meaning.specs.CallState.{Invocation, State, Progress, runs, asks, over, fresh_state}
use Rattle.faaslet_meaning.specs.Call.{call_step, replied, fits}
use Rattle.faaslet_meaning.specs.Fresh.{Function, Made, makes, breaks, nothing, fresh, program}

-- A run from where a call is to its end, with its questions and their replies in order
pub data Run (j : Invocation) : Progress → Transcript → State → Outcome → Type 0 where
  ended : {s : State} {o : Outcome} → Run j (over s o) [] s o
  went_on : {s t : State} {transcript : Transcript} {o : Outcome} → Run j (call_step j s) transcript t o → Run j (runs s) transcript t o
  asked : {s t : State} {q : Question} {r : Reply} {transcript : Transcript} {o : Outcome} → IsTrue (fits s q r) → Run j (replied j s r) transcript t o → Run j (asks s q) ((q, r) ∷ transcript) t o

abbrev pub invocation : Function → List ℕ → Invocation
invocation f input = record { program = program f; callees = f.callees; input = input; room = f.room }

-- a run of f from this configuration, with what it was told, its output and the fuel that it used
pub record RunOf (f : Function) (c : Configuration) (input : List ℕ) (told : Told) (outcome : Outcome) (output : List ℕ) (used : ℕ) : Type 0 where
  pub transcript : Transcript
  pub last : State
  pub run : Run (invocation f input) (runs (fresh_state c)) transcript last outcome
  pub told_so : (ch : Channel) → told ch ≡ told_by transcript ch
  pub output_so : output ≡ last.output
  pub used_so : used + last.config.fuel ≡ f.fuel

-- with a state from instantiation there is such a run; else the outcome is how f is broken, nothing was told or put out, and
-- no fuel was used
abbrev pub runs_by : Function → Made Configuration → List ℕ → Told → Outcome → List ℕ → ℕ → Type 0
runs_by f (makes c) input told o output used = RunOf f c input told o output used
runs_by f (breaks k) input told o output used = (o ≡ outcome.Broken k) × ((ch : Channel) → told ch ≡ []) × (output ≡ []) × (used ≡ 0)
runs_by f nothing input told o output used = ⊥

-- A call of f with this input that was told this comes to this outcome, output and used fuel.
abbrev pub Runs : Function → List ℕ → Told → Outcome → List ℕ → ℕ → Type 0
Runs f input told o output used = runs_by f (fresh f) input told o output used
