-- Each step of the machine lowers its weight, and no reply raises it: a run makes at most as many steps as it weighs.
use Rattle.std.proofs.Common.{◌≡◌, ℕ, zero, suc, ◌+◌, ◌*◌, ◌≤◌, List, arith, Option, Result}
use Rattle.faaslet_meaning.specs.declared.outcome.Trap.{Trap}
use Rattle.faaslet_meaning.specs.Memory.{reading, writing, answered}
use Rattle.faaslet_meaning.specs.LoadStore.{load_size}
use Rattle.faaslet_meaning.specs.HostCalls.{HostCall}
use Rattle.faaslet_meaning.specs.Configuration.{Program, Configuration, Begun, load, store, Next, goes, ends, touches, calls, stuck}
use Rattle.faaslet_meaning.specs.MemoryRules.{resumed}
use Rattle.faaslet_meaning.specs.Fresh.{steps, then_go}
use Rattle.faaslet_meaning.specs.Step.{step, finished}
use Rattle.faaslet_meaning.specs.Bounds.{weight}
use Rattle.faaslet_meaning.proofs.Measures.{Any, Light, Weighs}
use Rattle.faaslet_meaning.proofs.StepWalk.{View, Rules, load_holds, store_holds, finished_holds, step_holds}

module _ (n : ℕ) where
  -- what was paid is two, and what may be entered is one
  abbrev Paid : View → Type 0
  Paid v = 2 * v.fuel + v.labels + 1 ≤ n

  abbrev Touched : Configuration → Begun → Type 0
  Touched c b = weight c ≤ n

  abbrev Called : Configuration → HostCall → Type 0
  Called c h = weight c ≤ n

  -- no reply to a shared piece raises the weight
  pub resumed_weighs : (c : Configuration) (b : Begun) (bs : List ℕ) → weight c ≤ n → Weighs n (resumed c b bs)
  resumed_weighs c (load l a) bs h = load_holds (Light n) Any Touched Called c l _ h (λ b. h)
  resumed_weighs c (store a) bs h = store_holds (Light n) Any Touched Called (record c { memory = (answered c.memory a bs).memory }) _ h (λ b. h)

  -- nor does the end of a host call
  pub finished_weighs : (c : Configuration) (r : Result (Option ℕ) Trap) → weight c ≤ n → Weighs n (finished c r)
  finished_weighs c r h = finished_holds (Light n) Any Touched Called c r h (tt {0})

  rules : (p : Program) → Rules (Light n) Any Touched Called (λ v. 2 * v.fuel + v.labels ≤ n + 1) Paid p
  rules p = record {
    pays = λ v k h. omega arith;
    leaves = λ v k less h. omega arith;
    stays = λ v k most h. omega arith;
    grows = λ v k may h. omega arith;
    ends_before = λ v h. tt;
    ends_paid = λ v h. tt;
    loads = λ c l at in_ h. let w : weight c ≤ n = omega arith in load_holds (Light n) Any Touched Called c l (reading c.memory at (load_size l)) w (λ b. w);
    stores = λ c at bs few in_ h.
        let w : weight c ≤ n = omega arith in
        let left = writing c.memory at bs in
        store_holds (Light n) Any Touched Called (record c { memory = left.memory }) left.access w (λ b. w);
    asks = λ c h k less short hosted w. omega arith;
  }

  -- a step lowers the weight
  pub step_weighs : (p : Program) (c : Configuration) → weight c ≤ n + 1 → Weighs n (step p c)
  step_weighs p c h = step_holds (Light n) Any Touched Called p (rules p) c h

-- so in as many steps as it weighs the machine ends or stops
go_ends : (p : Program) (n : ℕ) (x : Next) (d : Configuration) → Weighs n x → ((b : Configuration) → weight b ≤ n → steps p n b ≡ goes d → ⊥) → then_go x (steps p n) ≡ goes d → ⊥
go_ends p n (goes b) d w k e = k b w e
go_ends p n (ends b o) d w k e = cc
go_ends p n (touches b g) d w k e = cc
go_ends p n (calls b g) d w k e = cc
go_ends p n stuck d w k e = cc

pub ends_by : (p : Program) (n : ℕ) (c d : Configuration) → weight c ≤ n → steps p n c ≡ goes d → ⊥
ends_by p zero c d h e = omega arith
ends_by p (suc n) c d h e = go_ends p n (step p c) d (step_weighs n p c (omega arith)) (λ b w f. ends_by p n b d w f) e
