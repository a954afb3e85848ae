-- A call of the program: where it begins, and what it comes to, which is what its function comes to by no replies.
use Rattle.std.proofs.Common.{◌≡◌, ℕ, ◌+◌, ◌*◌, List, [], None, Some, Option, Bool, true, false, refl, sym, subst, ◌∙◌}
use Rattle.std.specs.Prelude.{slice_get, codes, option_and_then}
use Rattle.faaslet_meaning.specs.declared.module.Module.{Module}
use Rattle.faaslet_meaning.specs.declared.outcome.Broken.{Broken}
use Rattle.faaslet_meaning.specs.declared.outcome.Outcome.{Outcome}
use Rattle.faaslet_meaning.specs.declared.outcome.Outcome.TheVariants as outcome
use Rattle.faaslet_meaning.specs.CallState.{State, Progress, runs, asks, over, fresh_state}
use Rattle.faaslet_meaning.specs.Channels.{Question, told_nothing}
use Rattle.faaslet_meaning.specs.Configuration.{Func, hosted, defined, Configuration, Next, goes, ends, touches, calls, stuck}
use Rattle.faaslet_meaning.specs.Fresh.{Function, Store, Made, makes, breaks, nothing, then_make, made, unless, element_at, segment_at, all_of, instantiated, entry_by, entry, program, steps, after, through, fresh}
use Rattle.faaslet_meaning.specs.Goes.{Goes}
use Rattle.faaslet_meaning.specs.Program.{first_memory, export_of, globals_from}
use Rattle.faaslet_meaning.specs.Runs.{invocation, Runs, runs_by}
use Rattle.faaslet_meaning.specs.Words.{call_function}
use Rattle.faaslet_meaning.proofs.Quiet.{AllPrivate, Private, Quiet, steps_quiet}
use Rattle.faaslet_meaning.proofs.StepWalk.{IsEnd}
use Rattle.faaslet_meaning.proofs.Ways.{goes_run}
use Rattle.faasm_top.proofs.Silent.{Silent, stays_silent}

-- ---- a fresh state is private, and has the whole fuel

-- so it is where anything was made
abbrev pub IfMade : {A : Type 0} → (A → Type 0) → Made A → Type 0
IfMade P (makes a) = P a
IfMade P (breaks k) = Unit {0}
IfMade P nothing = Unit {0}

then_made : {A B : Type 0} (P : A → Type 0) (Q : B → Type 0) (a : Made A) (go : A → Made B) → IfMade P a → ((x : A) → P x → IfMade Q (go x)) → IfMade Q (then_make a go)
then_made P Q (makes a) go h k = k a h
then_made P Q (breaks b) go h k = tt
then_made P Q nothing go h k = tt

unless_made : {A : Type 0} (P : A → Type 0) (k : Broken) (b : Bool) (a : Made A) → IfMade P a → IfMade P (unless k b a)
unless_made P k true a h = h
unless_made P k false a h = tt

any_made : {A : Type 0} (a : Made A) → IfMade (λ x. Unit {0}) a
any_made (makes a) = tt
any_made (breaks k) = tt
any_made nothing = tt

abbrev StorePrivate : Store → Type 0
StorePrivate s = AllPrivate s.memory.segments

private_at_first : (m : Module) (quota : ℕ) → AllPrivate (first_memory m quota).segments
private_at_first m quota = (tt, tt)

instantiated_private : (f : Function) → IfMade StorePrivate (instantiated f)
instantiated_private f =
    unless_made StorePrivate _ _ _
    (then_made (λ gs. Unit {0}) StorePrivate (made (globals_from [] f.code.globals)) _ (any_made _) λ gs u.
    then_made (λ es. Unit {0}) StorePrivate (made (all_of (element_at gs) f.code.elements)) _ (any_made _) λ es v.
    then_made (λ ss. Unit {0}) StorePrivate (made (all_of (segment_at gs) f.code.segments)) _ (any_made _) λ ss w.
    unless_made StorePrivate _ _ (makes _) (private_at_first f.code f.quota))

abbrev Begins : Function → Configuration → Type 0
Begins f c = Private c × (c.fuel ≡ f.fuel)

entry_by_private : (f : Function) (s : Store) (o : Option Func) → StorePrivate s → IfMade (Begins f) (entry_by f s o)
entry_by_private f s None h = tt
entry_by_private f s (Some (hosted k t)) h = tt
entry_by_private f s (Some (defined t locals body)) h = (h, refl)

entry_private : (f : Function) (s : Store) (i : Option ℕ) → StorePrivate s → IfMade (Begins f) (entry f s i)
entry_private f s i h = entry_by_private f s (option_and_then (slice_get (program f).functions) i) h

after_private : (x : Next) → Quiet x → IfMade StorePrivate (after x)
after_private (goes c) h = tt
after_private (ends c (outcome.Done n)) h = h.0
after_private (ends c (outcome.Trap t)) h = tt
after_private (ends c outcome.FuelOut) h = tt
after_private (ends c (outcome.Broken k)) h = tt
after_private (ends c outcome.Want) h = tt
after_private (touches c b) h = tt
after_private (calls c h) k = tt
after_private stuck h = tt

through_private : (f : Function) (i : Option ℕ) (s : Store) → StorePrivate s → IfMade StorePrivate (through f i s)
through_private f None s h = h
through_private f (Some k) s h =
    let n = 2 * f.fuel + 1 in
    then_made (Begins f) StorePrivate (entry f s (Some k)) _ (entry_private f s (Some k) h) λ c r. after_private (steps (program f) n c) (steps_quiet (program f) n c r.0)

fresh_begins : (f : Function) → IfMade (Begins f) (fresh f)
fresh_begins f =
    then_made StorePrivate (Begins f) (instantiated f) _ (instantiated_private f) λ s a.
    then_made StorePrivate (Begins f) (through f f.code.start s) _ (through_private f f.code.start s a) λ t b.
    then_made StorePrivate (Begins f) (through f (export_of f.code (codes "init")) t) _ (through_private f (export_of f.code (codes "init")) t b) λ u d.
    entry_private f u (export_of f.code (codes "main")) d

begins : (f : Function) (c : Configuration) → fresh f ≡ makes c → Begins f c
begins f c e = subst (IfMade (Begins f)) e (fresh_begins f)

-- ---- a call without grants and without functions that it may call

module _ (code : Module) (fuel : ℕ) (input : List ℕ) where
  abbrev here : Function
  here = call_function code fuel

  -- wherever it comes to by no reply, it asks nothing
  silent_at : (c : Configuration) (p : Progress) → fresh here ≡ makes c → Goes (invocation here input) (runs (fresh_state c)) [] p → Silent p
  silent_at c p is way = stays_silent (invocation here input) refl refl way ((begins here c is).0, refl)

  pub no_question : (c : Configuration) (s : State) (q : Question) → fresh here ≡ makes c → Goes (invocation here input) (runs (fresh_state c)) [] (asks s q) → ⊥
  no_question c s q is way = silent_at c (asks s q) is way

  pub no_want : (c : Configuration) (s : State) (o : Outcome) → fresh here ≡ makes c → Goes (invocation here input) (runs (fresh_state c)) [] (over s o) → o ≡ outcome.Want → ⊥
  no_want c s o is way want = subst IsEnd want (silent_at c (over s o) is way)

  -- where it is over, this is what it comes to
  pub ends_so : (c : Configuration) (s : State) (o : Outcome) (output : List ℕ) (used : ℕ) → fresh here ≡ makes c → Goes (invocation here input) (runs (fresh_state c)) [] (over s o) → output ≡ s.output → used + s.config.fuel ≡ c.fuel
      → Runs here input told_nothing o output used
  ends_so c s o output used is way out spent =
      subst (λ m. runs_by here m input told_nothing o output used) (sym is)
      (record { transcript = []; last = s; run = goes_run way; told_so = λ ch. refl; output_so = out; used_so = spent ∙ (begins here c is).1 })

  -- one that is broken comes to that
  pub broken_so : (k : Broken) → fresh here ≡ breaks k → Runs here input told_nothing (outcome.Broken k) [] 0
  broken_so k is = subst (λ m. runs_by here m input told_nothing (outcome.Broken k) [] 0) (sym is) (refl, λ ch. refl, refl, refl)
