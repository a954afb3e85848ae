-- What the machine may still ask: an instruction pays for what it asks, and a reply lowers it.
use Rattle.std.proofs.Common.{ℕ, ◌+◌, ◌*◌, ◌≤◌, List, [], ◌∷◌, arith, None, Some, Option, Result}
use Rattle.std.specs.Prelude.{drop}
use Rattle.faaslet_meaning.specs.declared.outcome.Trap.{Trap}
use Rattle.faaslet_meaning.specs.LoadStore as bytes
use Rattle.faaslet_meaning.specs.Memory.{Access, reads, writes, Written, Piece, over, write_on, reading, writing}
use Rattle.faaslet_meaning.specs.HostCalls.{HostCall, Buffer, buffer_of}
use Rattle.faaslet_meaning.specs.Configuration.{Program, Configuration, Begun, load, store}
use Rattle.faaslet_meaning.specs.MemoryRules.{load_on, store_on, stored, resumed}
use Rattle.faaslet_meaning.specs.Step.{step, finished}
use Rattle.faaslet_meaning.specs.Bounds.{fuel_asks, call_questions, begun_asks, left_of}
use Rattle.faaslet_meaning.proofs.Pieces.{reading_asks, writing_asks, write_asks, load_small}
use Rattle.faaslet_meaning.proofs.Measures.{Any, Buys, NextAsks, call_asks}
use Rattle.faaslet_meaning.proofs.StepWalk.{View, IsShort, Rules, finished_holds, step_holds}

-- a host call whose buffer is short asks no more than an instruction pays for
short_asks : (o : Option Buffer) → IsShort o → call_asks o ≤ call_questions
short_asks None s = omega arith
short_asks (Some b) s = omega arith

module _ (n : ℕ) where
  abbrev Paid : View → Type 0
  Paid v = v.fuel * call_questions + call_questions ≤ n

  abbrev Touched : Configuration → Begun → Type 0
  Touched c b = begun_asks b + fuel_asks c ≤ n

  abbrev Called : Configuration → HostCall → Type 0
  Called c h = call_asks (buffer_of h) + fuel_asks c ≤ n

  load_asks : (c : Configuration) (l : bytes.Load) (a : Access) → left_of a + fuel_asks c ≤ n → NextAsks n (load_on c l a)
  load_asks c l (reads at k [] copy) h = omega arith
  load_asks c l (reads at k (q ∷ qs) copy) h = omega arith
  load_asks c l (writes left bs) h = tt

  store_asks : (c : Configuration) (a : Access) → left_of a + fuel_asks c ≤ n → NextAsks n (store_on c a)
  store_asks c (writes [] bs) h = omega arith
  store_asks c (writes (q ∷ qs) bs) h = omega arith
  store_asks c (reads at k left copy) h = tt

  stored_asks : (c : Configuration) (w : Written) → left_of w.access + fuel_asks c ≤ n → NextAsks n (stored c w)
  stored_asks c w h = store_asks (record c { memory = w.memory }) w.access h

  -- a reply to a shared piece lowers what may still be asked
  pub resumed_asks : (c : Configuration) (b : Begun) (bs : List ℕ) → begun_asks b + fuel_asks c ≤ n + 1 → NextAsks n (resumed c b bs)
  resumed_asks c (load l (reads at k [] copy)) bs h = omega arith
  resumed_asks c (load l (reads at k (q ∷ qs) copy)) bs h = load_asks c l (reads at k qs (over copy q.at bs)) (omega arith)
  resumed_asks c (load l (writes [] left)) bs h = tt
  resumed_asks c (load l (writes (q ∷ qs) left)) bs h = load_asks c l _ (let some = write_asks qs c.memory (drop q.size left) in omega arith)
  resumed_asks c (store (writes [] left)) bs h = omega arith
  resumed_asks c (store (writes (q ∷ qs) left)) bs h = stored_asks c (write_on qs c.memory (drop q.size left)) (let some = write_asks qs c.memory (drop q.size left) in omega arith)
  resumed_asks c (store (reads at k left copy)) bs h = elsewhere left
    where
      elsewhere : (ps : List Piece) → NextAsks n (resumed c (store (reads at k ps copy)) bs)
      elsewhere [] = tt
      elsewhere (q ∷ qs) = tt

  -- nor does the end of a host call
  pub finished_asks : (c : Configuration) (r : Result (Option ℕ) Trap) → fuel_asks c ≤ n → NextAsks n (finished c r)
  finished_asks c r h = finished_holds (Buys n) Any Touched Called c r h (tt {0})

  rules : (p : Program) → Rules (Buys n) Any Touched Called (Buys n) Paid p
  rules p = record {
    pays = λ v k h. omega arith;
    leaves = λ v k less h. h;
    stays = λ v k most h. omega arith;
    grows = λ v k may h. omega arith;
    ends_before = λ v h. tt;
    ends_paid = λ v h. tt;
    loads = λ c l at in_ h.
        let some = reading_asks c.memory at (bytes.load_size l) in
        let few = load_small l in
        load_asks c l (reading c.memory at (bytes.load_size l)) (omega arith);
    stores = λ c at bs few in_ h. let some = writing_asks c.memory at bs in stored_asks c (writing c.memory at bs) (omega arith);
    asks = λ c h k less short hosted w. let few = short_asks (buffer_of h) short in omega arith;
  }

  -- a step lowers what may still be asked, or leaves it
  pub step_asks : (p : Program) (c : Configuration) → fuel_asks c ≤ n → NextAsks n (step p c)
  step_asks p c h = step_holds (Buys n) Any Touched Called p (rules p) c h
