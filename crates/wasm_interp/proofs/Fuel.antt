-- No step adds fuel, and what a step ends with is what a run comes to by itself.
use Rattle.std.proofs.Common.{ℕ, ◌≤◌, List, arith, Option, Result}
use Rattle.faaslet_meaning.specs.declared.outcome.Trap.{Trap}
use Rattle.faaslet_meaning.specs.LoadStore.{load_size}
use Rattle.faaslet_meaning.specs.Memory.{reading, writing, answered}
use Rattle.faaslet_meaning.specs.HostCalls.{HostCall}
use Rattle.faaslet_meaning.specs.Configuration.{Program, Configuration, Begun, load, store}
use Rattle.faaslet_meaning.specs.MemoryRules.{resumed}
use Rattle.faaslet_meaning.specs.Step.{step, finished}
use Rattle.faaslet_meaning.proofs.StepWalk.{View, Rules, load_holds, store_holds, finished_holds, step_holds}
use Rattle.wasm_interp.specs.StandsFor.{OfRun}

module _ (n : ℕ) where
  abbrev Within : View → Type 0
  Within v = v.fuel ≤ n

  abbrev Touched : Configuration → Begun → Type 0
  Touched c b = c.fuel ≤ n

  abbrev Called : Configuration → HostCall → Type 0
  Called c h = c.fuel ≤ n

  -- no reply to a shared piece adds fuel
  pub resumed_within : (c : Configuration) (b : Begun) (bs : List ℕ) → c.fuel ≤ n → OfRun n (resumed c b bs)
  resumed_within c (load l a) bs h = load_holds Within Within Touched Called c l _ h (λ b. h)
  resumed_within c (store a) bs h = store_holds Within Within Touched Called (record c { memory = (answered c.memory a bs).memory }) _ h (λ b. h)

  -- nor does the end of a host call
  pub finished_within : (c : Configuration) (r : Result (Option ℕ) Trap) → c.fuel ≤ n → OfRun n (finished c r)
  finished_within c r h = finished_holds Within Within Touched Called c r h h

  rules : (p : Program) → Rules Within Within Touched Called Within Within p
  rules p = record {
    pays = λ v k h. omega arith;
    leaves = λ v k less h. h;
    stays = λ v k most h. h;
    grows = λ v k may h. h;
    ends_before = λ v h. h;
    ends_paid = λ v h. h;
    loads = λ c l at in_ h. load_holds Within Within Touched Called c l (reading c.memory at (load_size l)) h (λ b. h);
    stores = λ c at bs few in_ h. let w = writing c.memory at bs in store_holds Within Within Touched Called (record c { memory = w.memory }) w.access h (λ b. h);
    asks = λ c h k less short hosted w. omega arith;
  }

  -- nor a step
  pub step_within : (p : Program) (c : Configuration) → c.fuel ≤ n → OfRun n (step p c)
  step_within p c h = step_holds Within Within Touched Called p (rules p) c h
