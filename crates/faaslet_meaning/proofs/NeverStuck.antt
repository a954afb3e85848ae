-- Runs of a valid module lack nothing.
use Rattle.std.proofs.Common.{◌≡◌, ◌≢◌, ℕ, List, subst}
use Rattle.faaslet_meaning.specs.Configuration.{Configuration, stuck}
use Rattle.faaslet_meaning.specs.CallState.{Invocation, State, Progress, runs, lost, fresh_state}
use Rattle.faaslet_meaning.specs.Fine.{Ground, ground_of, ConfigOk, ProgramOk, NextOk}
use Rattle.faaslet_meaning.specs.Fresh.{Function, makes, nothing, program, fresh}
use Rattle.faaslet_meaning.specs.Reach.{Reaches, here, stepped, answered}
use Rattle.faaslet_meaning.specs.Runnable.{Runnable}
use Rattle.faaslet_meaning.specs.Runs.{invocation}
use Rattle.faaslet_meaning.specs.Step.{step}
use Rattle.faaslet_meaning.specs.Valid.{Valid}
use Rattle.faaslet_meaning.proofs.SoundSteps.{step_ok}
use Rattle.faaslet_meaning.proofs.SoundServe.{ProgressOk, call_ok, replied_ok}
use Rattle.faaslet_meaning.proofs.SoundModules.{program_ok}
use Rattle.faaslet_meaning.proofs.SoundFresh.{MadeOk}
use Rattle.faaslet_meaning.proofs.SoundEntry.{fresh_ok}

reached_ok : (j : Invocation) (g : Ground) → ProgramOk j.program g → {x y : Progress} → Reaches j x y → ProgressOk j g x → ProgressOk j g y
reached_ok j g ok here h = h
reached_ok j g ok (stepped {s = s} r) h = reached_ok j g ok r (call_ok j g ok s h)
reached_ok j g ok (answered {s = s} {q = q} a fit r) h = reached_ok j g ok r (replied_ok j g s q a h fit)

comes_ok : (f : Function) (input : List ℕ) (c : Configuration) (x : Progress) → Valid f.code → Runnable f.code → fresh f ≡ makes c → Reaches (invocation f input) (runs (fresh_state c)) x → ProgressOk (invocation f input) (ground_of f.code) x
comes_ok f input c x v r e reach =
    let config : ConfigOk (ground_of f.code) c = subst (MadeOk (ConfigOk (ground_of f.code))) e (fresh_ok f v r) in
    reached_ok (invocation f input) (ground_of f.code) (program_ok f.code v r.imports f.grants) reach config

pub valid_is_made : (f : Function) → Valid f.code → Runnable f.code → fresh f ≢ nothing
valid_is_made f v r e = subst (MadeOk (ConfigOk (ground_of f.code))) e (fresh_ok f v r)

pub never_lost : (f : Function) (input : List ℕ) (c : Configuration) (x : Progress) → Valid f.code → Runnable f.code → fresh f ≡ makes c → Reaches (invocation f input) (runs (fresh_state c)) x → x ≢ lost
never_lost f input c x v r e reach gone = subst (ProgressOk (invocation f input) (ground_of f.code)) gone (comes_ok f input c x v r e reach)

pub never_stuck : (f : Function) (input : List ℕ) (c : Configuration) (s : State) → Valid f.code → Runnable f.code → fresh f ≡ makes c → Reaches (invocation f input) (runs (fresh_state c)) (runs s) → step (program f) s.config ≢ stuck
never_stuck f input c s v r e reach gone =
    subst (NextOk (ground_of f.code)) gone (step_ok (ground_of f.code) (program f) (program_ok f.code v r.imports f.grants) s.config (comes_ok f input c (runs s) v r e reach))
