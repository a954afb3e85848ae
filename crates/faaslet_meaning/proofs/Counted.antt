-- A call makes at most as many steps as its configuration weighs at first, and asks at most as often as its bound says.
use Rattle.std.proofs.Common.{refl, ◌≡◌, ℕ, zero, suc, ◌+◌, ◌*◌, ◌<◌, ◌≤◌, List, length, Option, Some, None, arith, ap}
use Rattle.std.specs.Prelude.{codes}
use Rattle.faaslet_meaning.specs.declared.outcome.Outcome.{Outcome}
use Rattle.faaslet_meaning.specs.Configuration.{Configuration, Func, hosted, defined}
use Rattle.faaslet_meaning.specs.Channels.{Question, Reply, Transcript}
use Rattle.faaslet_meaning.specs.Call.{call_step, replied}
use Rattle.faaslet_meaning.specs.CallState.{Invocation, State, Stage, running, touching, calling, releasing, Progress, runs, asks, over, lost, fresh_state}
use Rattle.faaslet_meaning.specs.Fresh.{Function, Store, Made, makes, breaks, nothing, then_make, instantiated, through, entry_by, fresh}
use Rattle.faaslet_meaning.specs.Program.{export_of}
use Rattle.faaslet_meaning.specs.Runs.{Run, ended, went_on, asked, invocation}
use Rattle.faaslet_meaning.specs.Bounds.{weight, stage_steps, steps_left, bound, steps_of}
use Rattle.faaslet_meaning.proofs.Measures.{ProgressWeighs, StageWeighs}
use Rattle.faaslet_meaning.proofs.Steps.{call_weighs, replied_weighs}
use Rattle.faaslet_meaning.proofs.Bounded.{step_bound, reply_bound}

pub few_steps : {j : Invocation} {p : Progress} {transcript : Transcript} {t : State} {o : Outcome} (n : ℕ) (run : Run j p transcript t o) → ProgressWeighs n p → steps_of run ≤ n
few_steps n ended h = omega arith
few_steps zero (went_on run) h = omega arith
few_steps {j} (suc n) (went_on {s = s} run) h = let less = few_steps n run (call_weighs n j s (omega arith)) in omega arith
few_steps {j} n (asked {s = s} {r = r} fit run) h = few_steps n run (replied_weighs n j s s.stage r h)

pub few_questions : {j : Invocation} {p : Progress} {transcript : Transcript} {t : State} {o : Outcome} → Run j p transcript t o → length transcript ≤ bound j p
few_questions ended = omega arith
few_questions {j} (went_on {s = s} run) = let less = few_questions run in let fewer = step_bound j s in omega arith
few_questions {j} (asked {s = s} {q = q} {r = r} fit run) = let less = few_questions run in let fewer = reply_bound j s q r in omega arith

one_made : {A : Type 0} {a b : A} → makes a ≡ makes b → a ≡ b
one_made e = cc

-- ---- The configuration about to run `main` has the whole fuel and one label, that of its frame.

abbrev Starts : ℕ → Made Configuration → Type 0
Starts fuel m = (c : Configuration) → m ≡ makes c → weight c ≡ 2 * fuel + 1

entered_starts : (f : Function) (s : Store) (g : Option Func) → Starts f.fuel (entry_by f s g)
entered_starts f s (Some (defined t locals body)) c e = let same = one_made e in omega (arith, ap (λ d. weight d) same)
entered_starts f s (Some (hosted n t)) c e = let no : ⊥ = cc in absurd no
entered_starts f s None c e = let no : ⊥ = cc in absurd no

then_starts : {A : Type 0} (fuel : ℕ) (m : Made A) (go : A → Made Configuration) → ((a : A) → Starts fuel (go a)) → Starts fuel (then_make m go)
then_starts fuel (makes a) go all c e = all a c e
then_starts fuel (breaks k) go all c e = let no : ⊥ = cc in absurd no
then_starts fuel nothing go all c e = let no : ⊥ = cc in absurd no

pub fresh_starts : (f : Function) → Starts f.fuel (fresh f)
fresh_starts f = then_starts f.fuel (instantiated f) _ λ s. then_starts f.fuel (through f f.code.start s) _ λ t. then_starts f.fuel (through f (export_of f.code (codes "init")) t) _ λ u. entered_starts f u _

pub few_from_fresh : (f : Function) (input : List ℕ) (c : Configuration) → fresh f ≡ makes c → (transcript : Transcript) (last : State) (o : Outcome) (run : Run (invocation f input) (runs (fresh_state c)) transcript last o) → steps_of run ≤ 2 * f.fuel + 1
few_from_fresh f input c made transcript last o run = let start = fresh_starts f c made in few_steps (2 * f.fuel + 1) run (omega arith)

-- ---- The same, step by step.

stage_few : (n : ℕ) (s : State) (st : Stage) → StageWeighs n s st → stage_steps s st ≤ n
stage_few n s running h = h
stage_few n s (touching b) h = h
stage_few n s (calling w) h = h
stage_few n s (releasing ls o) h = omega arith

few : (n : ℕ) (p : Progress) → ProgressWeighs n p → steps_left p ≤ n
few n (runs s) h = h
few n (asks s q) h = stage_few n s s.stage h
few n (over s o) h = omega arith
few n lost h = omega arith

few_stage : (s : State) (st : Stage) → StageWeighs (stage_steps s st) s st
few_stage s running = omega arith
few_stage s (touching b) = omega arith
few_stage s (calling w) = omega arith
few_stage s (releasing ls o) = tt

pub each_step_leaves_less : (j : Invocation) (s : State) → steps_left (call_step j s) < steps_left (runs s)
each_step_leaves_less j s = by (weight s.config) refl
  where
    by : (n : ℕ) → weight s.config ≡ n → steps_left (call_step j s) < weight s.config
    by zero e = let no : ⊥ = omega (arith, e) in absurd no
    by (suc n) e = let less = few n (call_step j s) (call_weighs n j s (omega (arith, e))) in omega (arith, e, less)

pub no_reply_leaves_more : (j : Invocation) (s : State) (q : Question) (r : Reply) → steps_left (replied j s r) ≤ steps_left (asks s q)
no_reply_leaves_more j s q r = few (stage_steps s s.stage) (replied j s r) (replied_weighs (stage_steps s s.stage) j s s.stage r (few_stage s s.stage))

pub steps_at_first : (f : Function) (c : Configuration) → fresh f ≡ makes c → steps_left (runs (fresh_state c)) ≡ 2 * f.fuel + 1
steps_at_first f c made = fresh_starts f c made
