-- A call that is about to run `main` is well formed: nothing is mapped, and memory has no more pages than the standard allows.
use Rattle.std.proofs.Common.{◌≡◌, ℕ, zero, suc, ◌+◌, ◌*◌, ◌≤◌, List, [], ◌∷◌, ◌++◌, refl, subst, arith, None, Some, Option, Bool, true, false}
use Rattle.std.specs.Prelude.{codes, slice_get, option_and_then}
use Rattle.faaslet_meaning.specs.declared.module.Limits.{Limits}
use Rattle.faaslet_meaning.specs.declared.outcome.Broken.{Broken}
use Rattle.faaslet_meaning.specs.declared.outcome.Outcome.TheVariants as outcome
use Rattle.faaslet_meaning.specs.Memory.{page_limit, with_pages}
use Rattle.faaslet_meaning.specs.Configuration.{Program, Func, defined, Configuration, Next, goes, ends, touches, calls, stuck}
use Rattle.faaslet_meaning.specs.Program.{first_limits, memory_limits, globals_from, export_of}
use Rattle.faaslet_meaning.specs.Step.{step}
use Rattle.faaslet_meaning.specs.CallState.{fresh_state}
use Rattle.faaslet_meaning.specs.Fresh.{Function, Store, Made, makes, breaks, nothing, then_make, made, unless, element_at, segment_at, all_of, instantiated, entry, entry_by, then_go, steps, after, through, program, fresh}
use Rattle.faaslet_meaning.specs.IndexSpaces.{memories}
use Rattle.faaslet_meaning.specs.Runs.{invocation}
use Rattle.faaslet_meaning.specs.Valid.{Valid, WithinPages}
use Rattle.faaslet_meaning.specs.Formed.{IsTied, Formed}
use Rattle.faaslet_meaning.proofs.CallParts.{Each, each_all, parts_formed}
use Rattle.faaslet_meaning.proofs.CallMemory.{NextFits, step_fits}

-- what is made is so, if something is made
abbrev MadeFits : {A : Type 0} → (A → Type 0) → Made A → Type 0
MadeFits P (makes a) = P a
MadeFits P (breaks k) = Unit {0}
MadeFits P nothing = Unit {0}

then_fits : {A B : Type 0} (P : A → Type 0) (Q : B → Type 0) (a : Made A) (go : A → Made B) → MadeFits P a → ((x : A) → P x → MadeFits Q (go x)) → MadeFits Q (then_make a go)
then_fits P Q (makes a) go h k = k a h
then_fits P Q (breaks b) go h k = tt
then_fits P Q nothing go h k = tt

unless_fits : {A : Type 0} (P : A → Type 0) (k : Broken) (b : Bool) (a : Made A) → MadeFits P a → MadeFits P (unless k b a)
unless_fits P k true a h = h
unless_fits P k false a h = tt

-- of whatever is made nothing is known
abbrev Any : {A : Type 0} → A → Type 0
Any a = Unit {0}

made_any : {A : Type 0} (o : Option A) → MadeFits Any (made o)
made_any None = tt
made_any (Some a) = tt

abbrev StoreFits : Store → Type 0
StoreFits s = IsTied s.memory.segments []

abbrev ConfigFits : Configuration → Type 0
ConfigFits c = IsTied c.memory.segments []

behind : {A : Type 0} (P : A → Type 0) (xs ys : List A) → Each P (xs ++ ys) → Each P ys
behind P [] ys h = h
behind P (x ∷ xs) ys h = behind P xs ys h.1

first_within : (ms : List Limits) → Each WithinPages ms → (first_limits ms).min ≤ page_limit
first_within [] h = omega arith
first_within (l ∷ ms) h = h.0.0

module _ (f : Function) (v : Valid f.code) where
  pages_within : (memory_limits f.code).min ≤ page_limit
  pages_within = first_within f.code.memories (behind WithinPages _ f.code.memories (each_all WithinPages (memories f.code) v.rules.memories_within))

  first_tied : IsTied (with_pages [] (memory_limits f.code).min) []
  first_tied = record { few_pages = omega (arith, pages_within); same = refl }

  instantiated_fits : MadeFits StoreFits (instantiated f)
  instantiated_fits =
      unless_fits StoreFits _ _ _
      (then_fits Any StoreFits (made (globals_from [] f.code.globals)) _ (made_any (globals_from [] f.code.globals)) λ gs u.
      then_fits Any StoreFits (made (all_of (element_at gs) f.code.elements)) _ (made_any (all_of (element_at gs) f.code.elements)) λ es u.
      then_fits Any StoreFits (made (all_of (segment_at gs) f.code.segments)) _ (made_any (all_of (segment_at gs) f.code.segments)) λ ss u.
      unless_fits StoreFits _ _ (makes _) first_tied)

entry_fits : (f : Function) (s : Store) (o : Option Func) → StoreFits s → MadeFits ConfigFits (entry_by f s o)
entry_fits f s (Some (defined t locals body)) h = h
entry_fits f s _ h = tt

go_fits : (x : Next) (go : Configuration → Next) → NextFits [] x → ((c : Configuration) → ConfigFits c → NextFits [] (go c)) → NextFits [] (then_go x go)
go_fits (goes c) go h k = k c h
go_fits (ends c o) go h k = h
go_fits (touches c b) go h k = h
go_fits (calls c b) go h k = h
go_fits stuck go h k = h

steps_fit : (p : Program) (n : ℕ) (c : Configuration) → ConfigFits c → NextFits [] (steps p n c)
steps_fit p zero c h = h
steps_fit p (suc n) c h = go_fits (step p c) (steps p n) (step_fits [] p c h) (λ d g. steps_fit p n d g)

after_fits : (x : Next) → NextFits [] x → MadeFits StoreFits (after x)
after_fits (ends c (outcome.Done n)) h = h.0
after_fits (ends c (outcome.Trap t)) h = tt
after_fits (ends c outcome.FuelOut) h = tt
after_fits (calls c b) h = tt
after_fits _ h = tt

through_fits : (f : Function) (i : Option ℕ) (s : Store) → StoreFits s → MadeFits StoreFits (through f i s)
through_fits f None s h = h
through_fits f (Some i) s h =
    then_fits ConfigFits StoreFits (entry f s (Some i)) _ (entry_fits f s (slice_get (program f).functions i) h) λ c k. after_fits (steps (program f) (2 * f.fuel + 1) c) (steps_fit (program f) (2 * f.fuel + 1) c k)

fresh_fits : (f : Function) → Valid f.code → MadeFits ConfigFits (fresh f)
fresh_fits f v =
    then_fits StoreFits ConfigFits (instantiated f) _ (instantiated_fits f v) λ s h.
    then_fits StoreFits ConfigFits (through f f.code.start s) _ (through_fits f f.code.start s h) λ t k.
    then_fits StoreFits ConfigFits (through f (export_of f.code (codes "init")) t) _ (through_fits f (export_of f.code (codes "init")) t k) λ u l.
    entry_fits f u (option_and_then (slice_get (program f).functions) (export_of f.code (codes "main"))) l

pub fresh_formed : (f : Function) (input : List ℕ) (c : Configuration) → Valid f.code → fresh f ≡ makes c → Formed (invocation f input) (fresh_state c)
fresh_formed f input c v e =
    let tied : ConfigFits c = subst (MadeFits ConfigFits) e (fresh_fits f v) in
    parts_formed (invocation f input) (fresh_state c) (
      tied,
      (
        record { once = tt; few = omega arith; seen = tt; granted = tt },
        tt,
        record { once = tt; few = omega arith; granted = tt },
        omega arith,
        record { few = omega arith; short = tt },
      ),
    )
