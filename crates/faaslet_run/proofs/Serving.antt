-- What the ends of a host call come to, by the definition.
use Rattle.std.proofs.Common.{◌≡◌, ℕ, ◌<◌, ◌≤◌, Bool, true, false, [], ◌∷◌, Option, Some, None, ap, arith, cond, Result, Ok, Err}
use Rattle.std.specs.Prelude.{nat_lt}
use Rattle.std.proofs.lemmas.Option.{same_Some, slice_get_within}
use Rattle.faaslet_meaning.specs.declared.outcome.Trap.{Trap}
use Rattle.faaslet_meaning.specs.declared.outcome.Trap.TheVariants.{StackExhausted}
use Rattle.faaslet_meaning.specs.Call.{serve, served}
use Rattle.faaslet_meaning.specs.CallState.{Invocation, State, Progress}
use Rattle.faaslet_meaning.specs.Checks.{checks, first_trap}
use Rattle.faaslet_meaning.specs.Configuration.{Configuration, values_held}
use Rattle.faaslet_meaning.specs.HostCalls.{HostCall, host_rows}
use Rattle.faaslet_meaning.specs.Limits.{traps, value_limit, with_values}
use Rattle.faaslet_meaning.specs.Configuration.{goes}
use Rattle.faaslet_meaning.specs.Operations.{operations}
use Rattle.faaslet_meaning.specs.Serve.{through, go_on}
use Rattle.faaslet_meaning.specs.Step.{finished}
use Rattle.wasm_interp.specs.StandsFor.{AsksHost}
use Rattle.wasm_interp.specs.declared.machine.HostAsk.{HostAsk}
use Rattle.faaslet_run.specs.Places.{IsPlain}

-- there are 23 host calls
pub few_calls : (ask : HostAsk) (h : HostCall) → AsksHost ask h → ask.call ≤ 22
few_calls ask h a = let l : ask.call < 23 = slice_get_within host_rows ask.call a.row a.row_is in omega (arith, l)

-- a host call that a check refuses
pub refused_serves : (j : Invocation) (s : State) (h : HostCall) (t : Trap) → first_trap j s (checks h) ≡ Some t → serve j s h ≡ served j (through s (Err t))
refused_serves j s h t e = by (first_trap j s (checks h)) e
  where
    by : (o : Option Trap) → o ≡ Some t → (elim o as (λ _. Progress) [ Some x ↦ served j (through s (Err x)) | None ↦ served j (go_on j (operations j s h) (record { held = []; result = None; state = s })) ]) ≡ served j (through s (Err t))
    by None f = absurd (cc)
    by (Some x) f = ap (λ y. served j (through s (Err y))) (same_Some _ _ f)

-- where a host call is done its machine is to run on
pub plain_finished : (c : Configuration) (o : Option ℕ) → (let r : Result (Option ℕ) Trap = Ok o in IsPlain (finished c r))
plain_finished c None = tt
plain_finished c (Some v) = by (nat_lt (values_held c) value_limit)
  where
    by : (b : Bool) → IsPlain (cond b (goes (with_values c (v ∷ c.frame.values))) (traps c StackExhausted))
    by true = tt
    by false = tt
