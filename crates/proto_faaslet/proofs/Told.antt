-- What a machine tells at the end of an entry, and what it has there.
use Rattle.std.proofs.Common.{◌≡◌, ℕ, List, [], Option, Some, None, refl, sym, ap, ◌∙◌, subst}
use Rattle.std.proofs.lemmas.Option.{same_Some}
use Rattle.faaslet_meaning.specs.declared.grant.Grant.{Grant}
use Rattle.faaslet_meaning.specs.declared.module.FuncType.{FuncType}
use Rattle.faaslet_meaning.specs.declared.module.Module.{Module}
use Rattle.faaslet_meaning.specs.declared.outcome.Broken.{Broken}
use Rattle.faaslet_meaning.specs.declared.outcome.Outcome.{Outcome}
use Rattle.faaslet_meaning.specs.declared.outcome.Outcome.TheVariants as outcome
use Rattle.faaslet_meaning.specs.Configuration.{Configuration, Next, goes, ends, touches, calls, stuck}
use Rattle.faaslet_meaning.specs.ControlRules.{entered}
use Rattle.faaslet_meaning.specs.Tree.{Tree}
use Rattle.faaslet_meaning.specs.Fine.{ground_of, NextOk}
use Rattle.faaslet_meaning.specs.Fresh.{Function, Store, breaks, steps, through}
use Rattle.faaslet_meaning.specs.Memory.{Memory}
use Rattle.faaslet_meaning.specs.Program.{program_of}
use Rattle.faaslet_meaning.proofs.Quiet.{Quiet}
use Rattle.faaslet_meaning.proofs.StepWalk.{IsEnd}
use Rattle.wasm_interp.specs.declared.machine.Event.{Event}
use Rattle.wasm_interp.specs.declared.machine.Event.TheVariants as event
use Rattle.wasm_interp.specs.declared.machine.Machine.{Machine}
use Rattle.wasm_interp.specs.Grants.{grants_of}
use Rattle.wasm_interp.specs.StandsFor.{Agrees, IsEntry, StandsFor, Ran, EventIs, config_of}
use Rattle.wasm_interp.proofs.Agreeing.{grants_agree}
use Rattle.proto_faaslet.specs.Entries.{CanEnter, IsKept, IsFor, Passes, begun, fault_of, fault_of_outcome, IsAlone, EndsAlone}
use Rattle.proto_faaslet.proofs.Begun.{store}
use Rattle.proto_faaslet.proofs.Passing.{quiet, done, ended, called, kept_of}

pub both_along : (P : List ℕ → List (Option ℕ) → Type 0) (gs hs : List ℕ) (ts us : List (Option ℕ)) → gs ≡ hs → ts ≡ us → P gs ts → P hs us
both_along P gs hs ts us e f h = subst (λ l. P l us) e (subst (λ l. P gs l) f h)

-- the machine was begun with what is kept
pub begun_so : {M : Type 0} (shape : M → Memory) (machine : Machine M) (m : Module) (k : ℕ) (e : CanEnter m k) (fuel writable : ℕ) (memory : Memory) (gs hs : List ℕ) (ts us : List (Option ℕ)) → gs ≡ hs → ts ≡ us
    → ((grants : List Grant) (t : FuncType) (locals : ℕ) (body : Tree) → Agrees writable grants → IsEntry m k t locals body → StandsFor shape machine m grants fuel (goes (record { frame = entered t locals body []; callers = []; globals = gs; table = ts; memory = memory; fuel = fuel })))
    → StandsFor shape machine m (grants_of writable) fuel (goes (begun e (store hs us memory) fuel))
begun_so shape machine m k e fuel writable memory gs hs ts us p q h =
    let P : List ℕ → List (Option ℕ) → Type 0 = λ xs ys. StandsFor shape machine m (grants_of writable) fuel (goes (record { frame = entered e.type e.locals e.body []; callers = []; globals = xs; table = ys; memory = memory; fuel = fuel })) in
    both_along P gs hs ts us p q (h (grants_of writable) e.type e.locals e.body (grants_agree writable) e.entry)

own_end : (o : Outcome) → IsEnd o → EndsAlone o
own_end (outcome.Done v) h = tt
own_end (outcome.Trap t) h = tt
own_end outcome.FuelOut h = tt
own_end (outcome.Broken b) h = h
own_end outcome.Want h = h

own_event : (told : Event) (scratch : List ℕ) (n : Next) → EventIs told scratch n → Quiet n → IsAlone told
own_event (event.Piece ask) scratch (touches c b) is h = h
own_event (event.Piece ask) scratch (goes c) is h = is
own_event (event.Piece ask) scratch (ends c o) is h = is
own_event (event.Piece ask) scratch (calls c b) is h = is
own_event (event.Piece ask) scratch stuck is h = is
own_event (event.Host ask) scratch n is h = tt
own_event (event.Ended o) scratch (ends c p) is h = own_end o (subst IsEnd (sym is) h.1)
own_event (event.Ended o) scratch (goes c) is h = absurd is
own_event (event.Ended o) scratch (touches c b) is h = absurd is
own_event (event.Ended o) scratch (calls c b) is h = absurd is
own_event (event.Ended o) scratch stuck is h = absurd is

module _ {M : Type 0} (shape : M → Memory) (machine : Machine M) (m : Module) (gs : List Grant) (q fuel k : ℕ) (e : CanEnter m k) (s : Store) (kept : IsKept m q s) (told : Event) (ran : Ran shape machine m gs fuel (goes (begun e s fuel)) told) where
  pub own : IsAlone told
  own = own_event told machine.scratch ran.next ran.event (quiet m gs q fuel k e s kept ran.comes.count ran.next ran.comes.by)

  pub breaks_so : (kind : Broken) → fault_of told ≡ Some kind → (f : Function) → IsFor f m q fuel → through f (Some k) s ≡ breaks kind
  breaks_so kind fault f for = by told ran.next ran.event fault ran.comes.by
    where
      by : (t : Event) (n : Next) → EventIs t machine.scratch n → fault_of t ≡ Some kind → steps (program_of m gs) ran.comes.count (begun e s fuel) ≡ n → through f (Some k) s ≡ breaks kind
      by (event.Piece ask) n is g go = let never : ⊥ = cc g in absurd never
      by (event.Host ask) (calls c h) is g go = called m gs q fuel k e s kept ran.comes.count c h go f for ∙ ap (λ b. breaks b) (same_Some _ _ g)
      by (event.Host ask) (goes c) is g go = absurd is
      by (event.Host ask) (ends c o) is g go = absurd is
      by (event.Host ask) (touches c b) is g go = absurd is
      by (event.Host ask) stuck is g go = absurd is
      by (event.Ended o) (ends c p) is g go = ended m gs q fuel k e s kept ran.comes.count c p kind go (sym (ap fault_of_outcome is) ∙ g) f for
      by (event.Ended o) (goes c) is g go = absurd is
      by (event.Ended o) (touches c b) is g go = absurd is
      by (event.Ended o) (calls c b) is g go = absurd is
      by (event.Ended o) stuck is g go = absurd is

  -- where nothing breaks it, the run is done, and this is what it leaves
  pub passes_so : fault_of told ≡ None → (d : Configuration) × (config_of ran.next ≡ Some d) × Passes m q fuel (Some k) s (kept_of d)
  passes_so fine = by told ran.next ran.event fine own ran.comes.by ran.stands.typed
    where
      at_end : (o : Outcome) (c : Configuration) → fault_of_outcome o ≡ None → EndsAlone o → steps (program_of m gs) ran.comes.count (begun e s fuel) ≡ ends c o → NextOk (ground_of m) (ends c o) → Passes m q fuel (Some k) s (kept_of c)
      at_end (outcome.Done v) c g h go typed = done m gs q fuel k e s kept ran.comes.count c v go typed
      at_end (outcome.Trap t) c g h go typed = let never : ⊥ = cc g in absurd never
      at_end outcome.FuelOut c g h go typed = let never : ⊥ = cc g in absurd never
      at_end (outcome.Broken b) c g h go typed = absurd h
      at_end outcome.Want c g h go typed = absurd h

      by : (t : Event) (n : Next) → EventIs t machine.scratch n → fault_of t ≡ None → IsAlone t → steps (program_of m gs) ran.comes.count (begun e s fuel) ≡ n → NextOk (ground_of m) n → (d : Configuration) × (config_of n ≡ Some d) × Passes m q fuel (Some k) s (kept_of d)
      by (event.Piece ask) n is g h go typed = absurd h
      by (event.Host ask) n is g h go typed = let never : ⊥ = cc g in absurd never
      by (event.Ended o) (ends c p) is g h go typed = (c, refl, at_end p c (sym (ap fault_of_outcome is) ∙ g) (subst EndsAlone is h) go typed)
      by (event.Ended o) (goes c) is g h go typed = absurd is
      by (event.Ended o) (touches c b) is g h go typed = absurd is
      by (event.Ended o) (calls c b) is g h go typed = absurd is
      by (event.Ended o) stuck is g h go typed = absurd is
