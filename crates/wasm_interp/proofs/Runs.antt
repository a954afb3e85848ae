-- Whole runs: each step leads to what the definition's step gives, and leaves less.
use Rattle.std.proofs.Common.{◌≡◌, ℕ, zero, suc, ◌+◌, ◌*◌, ◌<◌, List, length, refl, sym, ap, ◌∙◌, subst, arith, true, Some}
use Rattle.std.specs.Prelude.{◌≢◌}
use Rattle.faaslet_meaning.specs.declared.grant.Grant.{Grant}
use Rattle.faaslet_meaning.specs.declared.module.Module.{Module}
use Rattle.faaslet_meaning.specs.declared.outcome.Outcome.{Outcome}
use Rattle.faaslet_meaning.specs.Bounds.{weight}
use Rattle.faaslet_meaning.specs.Configuration.{Program, Configuration, Begun, Next, goes, ends, touches, calls, stuck}
use Rattle.faaslet_meaning.specs.Fine.{ground_of, NextOk}
use Rattle.faaslet_meaning.specs.Fresh.{steps, then_go}
use Rattle.faaslet_meaning.specs.Memory.{Memory, Backing}
use Rattle.faaslet_meaning.specs.Program.{program_of}
use Rattle.faaslet_meaning.specs.Step.{step}
use Rattle.faaslet_meaning.proofs.Measures.{Weighs}
use Rattle.faaslet_meaning.proofs.SoundModules.{program_ok}
use Rattle.faaslet_meaning.proofs.SoundSteps.{step_ok}
use Rattle.faaslet_meaning.proofs.Weight.{step_weighs}
use Rattle.wasm_interp.specs.declared.thread.Thread.{Thread}
use Rattle.wasm_interp.specs.declared.machine.Event.{Event}
use Rattle.wasm_interp.specs.declared.machine.Machine.{Machine}
use Rattle.wasm_interp.specs.declared.machine.Pending.{Pending}
use Rattle.wasm_interp.specs.declared.machine.Stage.{Stage}
use Rattle.wasm_interp.specs.declared.machine.Stage.TheVariants as stage
use Rattle.wasm_interp.specs.declared.machine.Event.TheVariants as event
use Rattle.wasm_interp.specs.Goes.{Loaded, SameRun, Able, Done, Shown, does_run, event_of}
use Rattle.wasm_interp.specs.Stands.{Stands}
use Rattle.wasm_interp.specs.StandsFor.{StageStands, EndsRun, OfRun, StandsFor, Ran, Comes, EventIs, PendingStands}
use Rattle.wasm_interp.proofs.Fuel.{step_within}
use Rattle.wasm_interp.proofs.Labels.{labels_are}
use Rattle.wasm_interp.proofs.Settling.{still_code, still_agrees}

-- what is left to do, read off the machine
abbrev pub left_of : Stage → ℕ → ℕ
left_of stage.Runs n = n + 1
left_of _ n = 0

abbrev pub left : Thread → ℕ
left t = 2 * t.fuel + (length t.labels + length t.frames)

weight_is : (memory : Memory) (t : Thread) (c : Configuration) → Stands memory t c → weight c ≡ left t + 1
weight_is memory t c s = omega (arith, labels_are memory t c s, s.kept.fuel_is)

-- where the machine runs, it stands for a configuration
pub record Running (memory : Memory) (t : Thread) (n : Next) : Type 0 where
  pub config : Configuration
  pub is : n ≡ goes config
  pub stands : Stands memory t config

running : (memory : Memory) (t : Thread) (n : Next) → StageStands memory t stage.Runs n → Running memory t n
running memory t (goes c) h = record { config = c; is = refl; stands = h }
running memory t (ends c o) h = absurd h
running memory t (touches c b) h = absurd h
running memory t (calls c b) h = absurd h
running memory t stuck h = absurd h

pub runs_at : (memory : Memory) (t : Thread) (s : Stage) (n : Next) → s ≡ stage.Runs → StageStands memory t s n → Running memory t n
runs_at memory t s n e h = running memory t n (subst (λ x. StageStands memory t x n) e h)

pub runs_so : (s : Stage) → does_run s ≡ true → s ≡ stage.Runs
runs_so stage.Runs h = refl
runs_so (stage.Piece q) h = cc
runs_so (stage.Host ask) h = cc
runs_so (stage.Over o) h = cc

-- what is typed is not stuck
fine_not_stuck : (code : Module) (n : Next) → NextOk (ground_of code) n → n ≢ stuck
fine_not_stuck code n h e = subst (NextOk (ground_of code)) e h

module _ {M : Type 0} (shape : M → Memory) (m : Machine M) (code : Module) (grants : List Grant) (given : ℕ) (n : Next) (r : m.stage ≡ stage.Runs) (s : StandsFor shape m code grants given n) where
  pub at : Running (shape m.memory) m.thread n
  at = runs_at (shape m.memory) m.thread m.stage n r s.stage

  pub loaded : Loaded m (program_of code grants)
  loaded = record { code = code; grants = grants; is_loaded = s.loaded; valid = s.valid; imports = s.imports; agrees = s.agrees; program_is = refl }

  typed : NextOk (ground_of code) (step (program_of code grants) at.config)
  typed = step_ok (ground_of code) (program_of code grants) (program_ok code s.valid s.imports grants) at.config (subst (NextOk (ground_of code)) at.is s.typed)

  pub not_stuck : step (program_of code grants) at.config ≢ stuck
  not_stuck = fine_not_stuck code (step (program_of code grants) at.config) typed

  pub able : Able shape m step
  able = record { runs = r; program = program_of code grants; loaded = loaded; config = at.config; stands = at.stands; not_stuck = not_stuck }

  pub stepped : {behind : M → Backing} (new : Machine M) → Done shape m new step → SameRun behind m new → StandsFor shape new code grants given (step (program_of code grants) at.config)
  stepped new done same =
      record {
        loaded = still_code m new code same s.loaded;
        valid = s.valid;
        imports = s.imports;
        agrees = still_agrees m new grants same s.agrees;
        given_is = same.given ∙ s.given_is;
        typed = typed;
        within = step_within given (program_of code grants) at.config (subst (OfRun given) at.is s.within);
        stage = done (program_of code grants) at.config loaded at.stands not_stuck;
      }

  smaller : (memory : Memory) (t : Thread) (x : Next) (k : Stage) → Weighs (left m.thread) x → StageStands memory t k x → left_of k (left t) < left m.thread + 1
  smaller memory t (goes d) stage.Runs w h = omega (arith, w, weight_is memory t d h)
  smaller memory t (goes d) (stage.Piece q) w h = absurd h
  smaller memory t (goes d) (stage.Host q) w h = absurd h
  smaller memory t (goes d) (stage.Over q) w h = absurd h
  smaller memory t (ends d o) stage.Runs w h = absurd h
  smaller memory t (touches d b) stage.Runs w h = absurd h
  smaller memory t (calls d b) stage.Runs w h = absurd h
  smaller memory t stuck stage.Runs w h = absurd h
  smaller memory t x (stage.Piece q) w h = omega arith
  smaller memory t x (stage.Host q) w h = omega arith
  smaller memory t x (stage.Over q) w h = omega arith

  pub leaves_less : (new : Machine M) → Done shape m new step → left_of new.stage (left new.thread) < left_of m.stage (left m.thread)
  leaves_less new done =
      let w : Weighs (left m.thread) (step (program_of code grants) at.config) = step_weighs (left m.thread) (program_of code grants) at.config (omega (arith, weight_is (shape m.memory) m.thread at.config at.stands)) in
      let h = done (program_of code grants) at.config loaded at.stands not_stuck in
      let less = smaller (shape new.memory) new.thread (step (program_of code grants) at.config) new.stage w h in
      subst (λ k. left_of new.stage (left new.thread) < left_of k (left m.thread)) (sym r) less

-- one step more
last_step : (p : Program) (n : Next) → then_go n (steps p zero) ≡ n
last_step p (goes c) = refl
last_step p (ends c o) = refl
last_step p (touches c b) = refl
last_step p (calls c h) = refl
last_step p stuck = refl

went_on : (n : Next) (c : Configuration) → n ≡ goes c → goes c ≡ n
went_on n c e = sym e

more : (p : Program) (k : ℕ) (n : Next) (c : Configuration) → then_go n (steps p k) ≡ goes c → then_go n (steps p (suc k)) ≡ step p c
more p zero (goes b) c e = let same : b ≡ c = cc in last_step p (step p b) ∙ ap (step p) same
more p (suc k) (goes b) c e = more p k (step p b) c e
more p k (ends b o) c e = cc
more p k (touches b g) c e = cc
more p k (calls b g) c e = cc
more p k stuck c e = cc

pub comes_first : (p : Program) (n : Next) → Comes p n n
comes_first p n = record { count = zero; by = last_step p n }

pub comes_more : (p : Program) (n x : Next) (c : Configuration) → Comes p n x → x ≡ goes c → Comes p n (step p c)
comes_more p n x c k e = record { count = suc k.count; by = more p k.count n c (k.by ∙ e) }

-- what is told is what the machine stands for
pub event_is : (memory : Memory) (t : Thread) (s : Stage) (n : Next) (o : Event) (scratch : List ℕ) → event_of s ≡ Some o → StageStands memory t s n → ((q : Pending) → s ≡ stage.Piece q → (vs : List ℕ) (b : Begun) → PendingStands memory q vs b → Shown scratch b) → EventIs o scratch n
event_is memory t stage.Runs n o scratch e h shown = cc
event_is memory t (stage.Piece q) (touches c b) o scratch e h shown = let same : event.Piece q.ask ≡ o = cc in subst (λ k. EventIs k scratch (touches c b)) same (h.1.asks, shown q refl c.frame.values b h.1)
event_is memory t (stage.Piece q) (goes c) o scratch e h shown = absurd h
event_is memory t (stage.Piece q) (ends c p) o scratch e h shown = absurd h
event_is memory t (stage.Piece q) (calls c p) o scratch e h shown = absurd h
event_is memory t (stage.Piece q) stuck o scratch e h shown = absurd h
event_is memory t (stage.Host a) (calls c b) o scratch e h shown = let same : event.Host a ≡ o = cc in subst (λ k. EventIs k scratch (calls c b)) same h.1
event_is memory t (stage.Host a) (goes c) o scratch e h shown = absurd h
event_is memory t (stage.Host a) (ends c p) o scratch e h shown = absurd h
event_is memory t (stage.Host a) (touches c p) o scratch e h shown = absurd h
event_is memory t (stage.Host a) stuck o scratch e h shown = absurd h
event_is memory t (stage.Over p) (ends c x) o scratch e h shown = let same : event.Ended p ≡ o = cc in subst (λ k. EventIs k scratch (ends c x)) same h.0
event_is memory t (stage.Over p) (goes c) o scratch e h shown = absurd h
event_is memory t (stage.Over p) (touches c x) o scratch e h shown = absurd h
event_is memory t (stage.Over p) (calls c x) o scratch e h shown = absurd h
event_is memory t (stage.Over p) stuck o scratch e h shown = absurd h

-- the scratch aside, it stands for the same
pub still_stands : {M : Type 0} (shape : M → Memory) (m new : Machine M) (code : Module) (grants : List Grant) (given : ℕ) (n : Next) → new ≡ record m { scratch = new.scratch } → StandsFor shape m code grants given n → StandsFor shape new code grants given n
still_stands {M = M} shape m new code grants given n e s =
    subst (λ (k : Machine M). StandsFor shape k code grants given n) (sym e)
    (record { loaded = s.loaded; valid = s.valid; imports = s.imports; agrees = s.agrees; given_is = s.given_is; typed = s.typed; within = s.within; stage = s.stage })

-- what it tells at the end is what a run comes to
pub ends_run : {M : Type 0} (shape : M → Memory) (m : Machine M) (code : Module) (grants : List Grant) (given : ℕ) (n : Next) (told : Event) (o : Outcome) → told ≡ event.Ended o → Ran shape m code grants given n told → EndsRun o
ends_run shape m code grants given n told o e r = at r.next (subst (λ k. EventIs k m.scratch r.next) e r.event) r.stands.within
  where
    at : (x : Next) → EventIs (event.Ended o) m.scratch x → OfRun given x → EndsRun o
    at (ends c p) h w = subst EndsRun (sym h) w.1
    at (goes c) h w = absurd h
    at (touches c b) h w = absurd h
    at (calls c k) h w = absurd h
    at stuck h w = absurd h
