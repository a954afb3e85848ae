-- The steps of a machine, from where it is to run on, are steps of its call. A host call at which they stop was paid for, and they
-- leave what is mapped.
use Rattle.std.proofs.Common.{◌≡◌, ℕ, zero, suc, ◌<◌, ◌≤◌, List, [], refl, sym, subst, arith, Option, Some, None}
use Rattle.std.proofs.lemmas.List.{append-nil}
use Rattle.faaslet_meaning.specs.LoadStore.{load_size}
use Rattle.faaslet_meaning.specs.Memory.{reading, writing}
use Rattle.faaslet_meaning.specs.HostCalls.{HostCall, Buffer, buffer_of}
use Rattle.faaslet_meaning.specs.Configuration.{Program, Configuration, Begun, Next, goes, ends, touches, calls, stuck}
use Rattle.faaslet_meaning.specs.CallState.{Invocation, State, Progress, running, runs}
use Rattle.faaslet_meaning.specs.Channels.{Transcript}
use Rattle.faaslet_meaning.specs.Call.{settled, progress}
use Rattle.faaslet_meaning.specs.Goes.{Goes, here, stepped}
use Rattle.faaslet_meaning.specs.Formed.{IsTied}
use Rattle.faaslet_meaning.specs.Fresh.{steps, then_go}
use Rattle.faaslet_meaning.specs.Step.{step}
use Rattle.faaslet_meaning.proofs.StepWalk.{View, Good, Rules, IsShort, load_holds, store_holds, steps_hold}
use Rattle.faaslet_meaning.proofs.CallMemory.{NextFits, step_fits}
use Rattle.faaslet_meaning.proofs.Ways.{joined}
use Rattle.host_calls.specs.CallHosts.{HasShort}
use Rattle.host_calls.specs.CallHosts as hosts
use Rattle.wasm_interp.specs.StandsFor.{Comes}
use Rattle.faaslet_run.specs.Places.{IsPlain}

-- ---- A way that goes on without a reply.

pub went : {j : Invocation} {p q r : Progress} {transcript : Transcript} → Goes j p transcript q → Goes j q [] r → Goes j p transcript r
went {j} {p = p} {r = r} {transcript = t} g h = subst (λ x. Goes j p x r) (append-nil t) (joined g h)

-- ---- The machine's steps are the call's.

-- what comes next is no step
abbrev pub Stops : Next → Type 0
Stops (goes c) = ⊥
Stops (ends c o) = Unit {0}
Stops (touches c b) = Unit {0}
Stops (calls c h) = Unit {0}
Stops stuck = Unit {0}

-- where the machine is, what comes next depends on the state beside it alone
abbrev pub run_at : State → Configuration → State
run_at s c = record s { config = c; stage = running }

same_at : (j : Invocation) (s : State) (c d : Configuration) (n : Next) → Stops n → progress j (run_at s c) n ≡ progress j (run_at s d) n
same_at j s c d (goes e) h = absurd h
same_at j s c d (ends e o) h = refl
same_at j s c d (touches e b) h = refl
same_at j s c d (calls e k) h = refl
same_at j s c d stuck h = refl

pub steps_go : (j : Invocation) (s : State) (k : ℕ) (c : Configuration) (next : Next) → steps j.program k c ≡ next → Stops next → Goes j (runs (run_at s c)) [] (progress j (run_at s c) next)
steps_go j s zero c next e h = absurd (subst Stops (sym e) h)
steps_go j s (suc k) c next e h = stepped (by (step j.program c) (λ d f. steps_go j s k d next f h) e)
  where
    by : (x : Next) → ((d : Configuration) → steps j.program k d ≡ next → Goes j (runs (run_at s d)) [] (progress j (run_at s d) next)) → then_go x (steps j.program k) ≡ next → Goes j (progress j (run_at s c) x) [] (progress j (run_at s c) next)
    by (goes d) go f = subst (Goes j (runs (run_at s d)) []) (same_at j s d c next h) (go d f)
    by (ends d o) go f = subst (λ (n : Next). Goes j (progress j (run_at s c) (ends d o)) [] (progress j (run_at s c) n)) f here
    by (touches d b) go f = subst (λ (n : Next). Goes j (progress j (run_at s c) (touches d b)) [] (progress j (run_at s c) n)) f here
    by (calls d b) go f = subst (λ (n : Next). Goes j (progress j (run_at s c) (calls d b)) [] (progress j (run_at s c) n)) f here
    by stuck go f = subst (λ (n : Next). Goes j (progress j (run_at s c) stuck) [] (progress j (run_at s c) n)) f here

-- from where the machine is to run on
pub runs_go : (j : Invocation) (s : State) (from next : Next) → IsPlain from → Comes j.program from next → Stops next → Goes j (settled j s from) [] (progress j (run_at s s.config) next)
runs_go j s (goes c) next plain comes h =
    subst (Goes j (runs (run_at s c)) []) (same_at j s c s.config next h) (steps_go j s comes.count c next comes.by h)
runs_go j s (ends c o) next plain comes h = subst (λ (n : Next). Goes j (settled j s (ends c o)) [] (progress j (run_at s s.config) n)) comes.by here
runs_go j s (touches c b) next plain comes h = subst (λ (n : Next). Goes j (settled j s (touches c b)) [] (progress j (run_at s s.config) n)) comes.by here
runs_go j s (calls c b) next plain comes h = absurd plain
runs_go j s stuck next plain comes h = absurd plain

-- ---- What was paid.

module _ (n : ℕ) where
  abbrev Kept : View → Type 0
  Kept v = v.fuel ≤ n

  abbrev Paid : View → Type 0
  Paid v = v.fuel < n

  abbrev Touched : Configuration → Begun → Type 0
  Touched c b = Unit {0}

  abbrev Called : Configuration → HostCall → Type 0
  Called c h = (c.fuel < n) × IsShort (buffer_of h)

  rules : (p : Program) → Rules Kept Kept Touched Called Kept Paid p
  rules p = record {
    pays = λ v k h. omega arith;
    leaves = λ v k less h. h;
    stays = λ v k most h. omega arith;
    grows = λ v k may h. omega arith;
    ends_before = λ v h. h;
    ends_paid = λ v h. omega arith;
    loads = λ c l at in_ h. load_holds Kept Kept Touched Called c l (reading c.memory at (load_size l)) (omega arith) (λ b. tt {0});
    stores = λ c at bs few in_ h. let w = writing c.memory at bs in store_holds Kept Kept Touched Called (record c { memory = w.memory }) w.access (omega arith) (λ b. tt {0});
    asks = λ c h k less short hosted w. (omega arith, short);
  }

  steps_paid : (p : Program) (k : ℕ) (c : Configuration) → c.fuel ≤ n → Good Kept Kept Touched Called (steps p k c)
  steps_paid p k c h = steps_hold Kept Kept Touched Called p (rules p) (λ v h. h) k c h

short_is : (h : HostCall) → IsShort (buffer_of h) → HasShort h
short_is h s = by (buffer_of h) s
  where
    by : (b : Option Buffer) → IsShort b → hosts.IsShort b
    by None k = k
    by (Some b) k = k

-- a host call costs fuel, and its buffer is short enough
pub stops_paid : (p : Program) (k : ℕ) (c d : Configuration) (h : HostCall) → steps p k c ≡ calls d h → (d.fuel < c.fuel) × HasShort h
stops_paid p k c d h e =
    let r : (d.fuel < c.fuel) × IsShort (buffer_of h) = subst (Good (Kept c.fuel) (Kept c.fuel) (Touched c.fuel) (Called c.fuel)) e (steps_paid c.fuel p k c (omega arith)) in
    (r.0, short_is h r.1)

-- ---- What is mapped.

steps_fit : (ms : List (ℕ × ℕ)) (p : Program) (k : ℕ) (c : Configuration) → IsTied c.memory.segments ms → NextFits ms (steps p k c)
steps_fit ms p zero c h = h
steps_fit ms p (suc k) c h = by (step p c) (step_fits ms p c h) (λ d f. steps_fit ms p k d f)
  where
    by : (x : Next) → NextFits ms x → ((d : Configuration) → IsTied d.memory.segments ms → NextFits ms (steps p k d)) → NextFits ms (then_go x (steps p k))
    by (goes d) f go = go d f
    by (ends d o) f go = f
    by (touches d b) f go = f
    by (calls d i) f go = f
    by stuck f go = f

-- at a host call it is as it was
pub steps_tied : (ms : List (ℕ × ℕ)) (p : Program) (k : ℕ) (c d : Configuration) (h : HostCall) → IsTied c.memory.segments ms → steps p k c ≡ calls d h → IsTied d.memory.segments ms
steps_tied ms p k c d h t e = let f = subst (NextFits ms) e (steps_fit ms p k c t) in f.0
