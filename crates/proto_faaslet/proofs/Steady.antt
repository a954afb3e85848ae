-- What no step changes: that memory is one private segment, its quota, and the table.
use Rattle.std.proofs.Common.{◌≡◌, ℕ, ◌+◌, List, [], ◌∷◌, length, refl, Option, cond, take, drop}
use Rattle.faaslet_meaning.specs.LoadStore.{load_size}
use Rattle.faaslet_meaning.specs.Memory.{Home, private, mapped, is_private, Segment, Memory, Piece, pieces, writes, Written, reading, writing, write_on, put, with_pages}
use Rattle.faaslet_meaning.specs.HostCalls.{HostCall}
use Rattle.faaslet_meaning.specs.Configuration.{Begun, Program, Configuration, Next}
use Rattle.faaslet_meaning.specs.Fresh.{steps}
use Rattle.faaslet_meaning.specs.MemoryRules.{stored}
use Rattle.faaslet_meaning.specs.Step.{step}
use Rattle.faaslet_meaning.proofs.StepWalk.{View, Good, Rules, load_holds, store_holds, step_holds, steps_hold}
use Rattle.proto_faaslet.specs.Instances.{IsOne}

-- memory is one private segment, with this quota, and this is the table
module _ (quota : ℕ) (table : List (Option ℕ)) where
  abbrev pub Rests : Memory → Type 0
  Rests m = IsOne m.segments × (m.quota ≡ quota)

  abbrev pub Steady : Configuration → Type 0
  Steady c = Rests c.memory × (c.table ≡ table)

  abbrev Same : View → Type 0
  Same v = Rests v.memory × (v.table ≡ table)

  abbrev Touched : Configuration → Begun → Type 0
  Touched c b = Unit {0}

  abbrev Called : Configuration → HostCall → Type 0
  Called c h = Unit {0}

  abbrev pub Stays : Next → Type 0
  Stays x = Good Same Same Touched Called x

  written_rests : (ps : List Piece) (m : Memory) (bs : List ℕ) → Rests m → Rests (write_on ps m bs).memory
  written_rests [] m bs a = a
  written_rests (p ∷ ps) m bs a = by p.home (written_rests ps (put m p.at (take p.size bs)) (drop p.size bs) a)
    where
      by : (k : Home) → Rests (write_on ps (put m p.at (take p.size bs)) (drop p.size bs)).memory → Rests (elim k as (λ _. Written) [ private ↦ write_on ps (put m p.at (take p.size bs)) (drop p.size bs) | mapped n ↦ record { memory = m; access = writes (p ∷ ps) bs } ]).memory
      by private w = w
      by (mapped n) w = a

  grown_one : (ss : List Segment) (n : ℕ) → IsOne ss → IsOne (with_pages ss n)
  grown_one [] n h = absurd h
  grown_one (s ∷ []) n h = by s.home h
    where
      by : (k : Home) → k ≡ private → IsOne (cond (is_private k) (record { home = k; pages = s.pages + n } ∷ []) (record { home = k; pages = s.pages } ∷ record { home = private; pages = n } ∷ []))
      by private e = refl
      by (mapped j) e = let never : ⊥ = cc e in absurd never
  grown_one (s ∷ t ∷ ss) n h = absurd h

  store_stays : (c : Configuration) (at : ℕ) (bs : List ℕ) → Steady c → Stays (stored c (writing c.memory at bs))
  store_stays c at bs h =
      let w = writing c.memory at bs in
      let out : Rests w.memory = written_rests (pieces c.memory at (length bs)) c.memory bs h.0 in
      store_holds Same Same Touched Called (record c { memory = w.memory }) w.access (out, h.1) (λ b. tt {0})

  rules : (p : Program) → Rules Same Same Touched Called Same Same p
  rules p = record {
    pays = λ v k h. h;
    leaves = λ v k less h. h;
    stays = λ v k most h. h;
    grows = λ v n may h. ((grown_one v.memory.segments n h.0.0, h.0.1), h.1);
    ends_before = λ v h. h;
    ends_paid = λ v h. h;
    loads = λ c l at in_ h. load_holds Same Same Touched Called c l (reading c.memory at (load_size l)) h (λ b. tt {0});
    stores = λ c at bs few in_ h. store_stays c at bs h;
    asks = λ c h k less short hosted w. tt;
  }

  pub step_stays : (p : Program) (c : Configuration) → Steady c → Stays (step p c)
  step_stays p c h = step_holds Same Same Touched Called p (rules p) c h

  -- nor do many
  pub steps_stay : (p : Program) (n : ℕ) (c : Configuration) → Steady c → Stays (steps p n c)
  steps_stay p n c h = steps_hold Same Same Touched Called p (rules p) (λ v k. k) n c h
