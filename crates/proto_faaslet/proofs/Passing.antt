-- A run from an entry to its end is what `through` says.
use Rattle.std.proofs.Common.{◌≡◌, ℕ, zero, suc, ◌+◌, ◌-◌, ◌*◌, ◌≤◌, Bool, true, false, List, [], ◌∷◌, Some, ℤ, length, refl, sym, ap, ◌∙◌, subst, arith}
use Rattle.std.specs.Prelude.{nat_le, unwrap_or}
use Rattle.std.proofs.lemmas.Option.{same_Some}
use Rattle.faaslet_meaning.specs.declared.grant.Grant.{Grant}
use Rattle.faaslet_meaning.specs.declared.module.Module.{Module}
use Rattle.faaslet_meaning.specs.declared.outcome.Broken.{Broken}
use Rattle.faaslet_meaning.specs.declared.outcome.Broken.TheVariants as broken
use Rattle.faaslet_meaning.specs.declared.outcome.Outcome.{Outcome}
use Rattle.faaslet_meaning.specs.declared.outcome.Outcome.TheVariants as outcome
use Rattle.faaslet_meaning.specs.Configuration.{Program, Configuration, Next, goes, ends, touches, calls, stuck}
use Rattle.faaslet_meaning.specs.Fine.{ground_of, Keeps}
use Rattle.faaslet_meaning.specs.Fresh.{Function, Store, makes, breaks, then_make, then_go, steps, entry_by, entry, program, after, through}
use Rattle.faaslet_meaning.specs.HostCalls.{HostCall}
use Rattle.faaslet_meaning.specs.Memory.{Home, private, mapped, Segment, page_limit}
use Rattle.faaslet_meaning.specs.Program.{functions_of, program_of, memory_limits}
use Rattle.faaslet_meaning.specs.Bounds.{weight}
use Rattle.faaslet_meaning.specs.Step.{step}
use Rattle.faaslet_meaning.proofs.Quiet.{IsPrivate, AllPrivate, Quiet, steps_quiet}
use Rattle.faaslet_meaning.proofs.StepWalk.{IsEnd}
use Rattle.faaslet_meaning.proofs.Weight.{ends_by}
use Rattle.proto_faaslet.specs.Entries.{CanEnter, IsKept, IsFor, Passes, begun, fault_of_outcome}
use Rattle.proto_faaslet.specs.Instances.{IsOne}
use Rattle.proto_faaslet.proofs.Grants.{steps_same}
use Rattle.proto_faaslet.proofs.Made.{tested}
use Rattle.proto_faaslet.proofs.Steady.{Steady, Stays, steps_stay}

-- ---- More steps change nothing once a run does not go on.

abbrev pub Stands : Next → Type 0
Stands (goes c) = ⊥
Stands _ = Unit {0}

then_stands : (x : Next) (go : Configuration → Next) → Stands x → then_go x go ≡ x
then_stands (goes c) go h = absurd h
then_stands (ends c o) go h = refl
then_stands (touches c b) go h = refl
then_stands (calls c b) go h = refl
then_stands stuck go h = refl

steps_more : (p : Program) (n m : ℕ) (c : Configuration) (x : Next) → steps p n c ≡ x → Stands x → steps p (n + m) c ≡ x
steps_more p zero m c x e h = let never : ⊥ = subst Stands (sym e) h in absurd never
steps_more p (suc n) m c x e h =
    let shift : suc (n + m) ≡ suc n + m = omega arith in
    subst (λ j. steps p j c ≡ x) shift (by (step p c) e (λ d g. steps_more p n m d x g h))
  where
    by : (y : Next) → then_go y (steps p n) ≡ x → ((d : Configuration) → steps p n d ≡ x → steps p (n + m) d ≡ x) → then_go y (steps p (n + m)) ≡ x
    by (goes d) g go = go d g
    by (ends d o) g go = g
    by (touches d b) g go = g
    by (calls d b) g go = g
    by stuck g go = g

not_goes : (x : Next) → ((d : Configuration) → x ≡ goes d → ⊥) → Stands x
not_goes (goes d) h = h d refl
not_goes (ends d o) h = tt
not_goes (touches d b) h = tt
not_goes (calls d b) h = tt
not_goes stuck h = tt

-- a run that stands after some steps stands there after as many as its weight
steps_all : (p : Program) (k n : ℕ) (c : Configuration) (x : Next) → weight c ≤ n → steps p k c ≡ x → Stands x → steps p n c ≡ x
steps_all p k n c x heavy e h = by (nat_le k n) refl
  where
    by : (b : Bool) → nat_le k n ≡ b → steps p n c ≡ x
    by true t =
        let upto : k ≤ n = tested k n t in
        let same : k + (n - k) ≡ n = omega arith in
        subst (λ j. steps p j c ≡ x) same (steps_more p k (n - k) c x e h)
    by false t =
        let past : n ≤ k = grind arith in
        let same : n + (k - n) ≡ k = omega arith in
        let there = subst (λ j. steps p j c ≡ steps p n c) same (steps_more p n (k - n) c (steps p n c) refl (not_goes (steps p n c) (λ d g. ends_by p n c d heavy g))) in
        sym there ∙ e

-- ---- Where memory is private, a run ends or stops at a host call.

one_private : (ss : List Segment) → IsOne ss → AllPrivate ss
one_private [] h = absurd h
one_private (s ∷ []) h = (by s.home h, tt)
  where
    by : (k : Home) → k ≡ private → IsPrivate k
    by private e = tt
    by (mapped n) e = let never : ⊥ = cc e in absurd never
one_private (s ∷ t ∷ ss) h = absurd h

-- ---- What an entry leaves.

pub entry_is : (f : Function) (s : Store) (k : ℕ) (e : CanEnter f.code k) → entry f s (Some k) ≡ makes (begun e s f.fuel)
entry_is f s k e = ap (entry_by f s) e.entry.found

weighs : {m : Module} {k : ℕ} (e : CanEnter m k) (s : Store) (fuel : ℕ) → weight (begun e s fuel) ≤ 2 * fuel + 1
weighs e s fuel = omega arith

-- what is kept of a configuration
abbrev pub kept_of : Configuration → Store
kept_of c = record { globals = c.globals; table = c.table; memory = c.memory }

module _ (m : Module) (gs : List Grant) (q fuel k : ℕ) (e : CanEnter m k) (s : Store) (kept : IsKept m q s) where
  abbrev p : Program
  p = program_of m gs

  abbrev first : Configuration
  first = begun e s fuel

  steady : Steady q s.table first
  steady = ((kept.one, kept.quota_is), refl)

  stays : (n : ℕ) (x : Next) → steps p n first ≡ x → Stays q s.table x
  stays n x is = subst (λ y. Stays q s.table y) is (steps_stay q s.table p n first steady)

  pub quiet : (n : ℕ) (x : Next) → steps p n first ≡ x → Quiet x
  quiet n x is = subst Quiet is (steps_quiet p n first (one_private s.memory.segments kept.one))

  -- an entry is passed as its run says
  pub passed_by : (n : ℕ) (x : Next) → steps p n first ≡ x → Stands x → (f : Function) → IsFor f m q fuel → through f (Some k) s ≡ after x
  passed_by n x is stands f for =
      let P : Module → ℕ → Type 0 = λ c fuel. (e : CanEnter c k) → steps (program_of c gs) n (begun e s fuel) ≡ x → through f (Some k) s ≡ after x in
      let here : P f.code f.fuel = λ d i.
      let c = begun d s f.fuel in
      let all : steps (program_of f.code gs) (2 * f.fuel + 1) c ≡ x = steps_all (program_of f.code gs) n (2 * f.fuel + 1) c x (weighs d s f.fuel) i stands in
      let same : steps (program_of f.code gs) (2 * f.fuel + 1) c ≡ steps (program f) (2 * f.fuel + 1) c = steps_same (functions_of f.code) f.code.types (unwrap_or (memory_limits f.code).max page_limit) gs f.grants q s.table (2 * f.fuel + 1) c ((kept.one, kept.quota_is), refl) in
      ap (λ a. then_make a λ b. after (steps (program f) (2 * f.fuel + 1) b)) (entry_is f s k d) ∙ ap after (sym same ∙ all) in
      subst (λ c. P c fuel) for.code (subst (λ n. P f.code n) for.fuel_is here) e is

  kept_after : (d : Configuration) → Keeps (ground_of m) d → Steady q s.table d → IsKept m q (kept_of d)
  kept_after d typed still = record {
    globals = typed.0;
    table = ap length still.1 ∙ kept.table;
    indices = typed.1;
    one = still.0.0;
    quota_is = still.0.1;
  }

  -- a run that is done leaves what its configuration has
  pub done : (n : ℕ) (d : Configuration) (v : ℤ) → steps p n first ≡ ends d (outcome.Done v) → Keeps (ground_of m) d → Passes m q fuel (Some k) s (kept_of d)
  done n d v is typed = record { kept = kept_after d typed (stays n _ is).0; through_is = λ f for. passed_by n _ is (tt {0}) f for }

  -- a run that ends otherwise, or calls the host, breaks the function
  pub ended : (n : ℕ) (d : Configuration) (o : Outcome) (kind : Broken) → steps p n first ≡ ends d o → fault_of_outcome o ≡ Some kind → (f : Function) → IsFor f m q fuel → through f (Some k) s ≡ breaks kind
  ended n d o kind is fault f for = passed_by n _ is (tt {0}) f for ∙ by o (quiet n _ is).1 fault
    where
      by : (o : Outcome) → IsEnd o → fault_of_outcome o ≡ Some kind → after (ends d o) ≡ breaks kind
      by (outcome.Done v) h g = let never : ⊥ = cc g in absurd never
      by (outcome.Trap t) h g = ap (λ b. breaks b) (same_Some _ _ g)
      by outcome.FuelOut h g = ap (λ b. breaks b) (same_Some _ _ g)
      by (outcome.Broken b) h g = absurd h
      by outcome.Want h g = absurd h

  pub called : (n : ℕ) (d : Configuration) (h : HostCall) → steps p n first ≡ calls d h → (f : Function) → IsFor f m q fuel → through f (Some k) s ≡ breaks broken.HostCall
  called n d h is f for = passed_by n _ is (tt {0}) f for
