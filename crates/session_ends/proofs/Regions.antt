-- A region that has ended has one legal history, and nobody holds its locks where no maker's entries leave it one.
use Rattle.std.proofs.Common.{◌≡◌, ◌≢◌, ◌⊎◌, inl, inr, ℕ, suc, ◌<◌, ◌≤◌, false, cond, List, [], ◌∷◌, length, filter, refl, sym, ap, ◌∙◌, arith, length-append}
use Rattle.std.specs.Prelude.{◌==◌, ◌-◌, ◌*◌, replicate}
use Rattle.std.specs.List.{All}
use Rattle.std.proofs.lemmas.Bool.{cases_order, eq-eqb}
use Rattle.std.proofs.lemmas.List.{length-replicate}
use Rattle.faaslet_meaning.specs.Channels.{RegionOperation}
use Rattle.faaslet_meaning.specs.History.{History, Leads, region_rules}
use Rattle.faaslet_meaning.specs.Memory.{page_size, key_pages}
use Rattle.faaslet_meaning.specs.Region.{Region, holders, writes}
use Rattle.faaslet_meaning.specs.Spelling.{spelled, MakeAll, Spells}
use Rattle.faaslet_meaning.proofs.Chains.{spells_a_history}
use Rattle.session_meaning.specs.Own.{benches}
use Rattle.session_meaning.specs.Plan.{Key, Plan}
use Rattle.session_meaning.proofs.Objects.{pages_hold}
use Rattle.shared_region.specs.Entries.{MakesShared}
use Rattle.shared_region.specs.Shared.{Shared}
use Rattle.turn_cell.specs.declared.view.Entry.{Entry}
use Rattle.turn_cell.specs.History.{Stands, MakersBelow}
use Rattle.region_tier.specs.Holding.{has_lock}
use Rattle.region_tier.specs.Opened.{IsFree}
use Rattle.region_tier.proofs.Locks.{times, count_free}
use Rattle.region_tier.proofs.Sound.{Sound, sound_start, sound_all, holds_so, still_locked}
use Rattle.session_ends.specs.Opened.{first_replica, first_value}
use Rattle.session_ends.specs.Session.{pairs}

-- ---- The history.

made_all : (s t : Shared) (list : List Entry) → Stands MakesShared s list t → MakeAll region_rules spelled s.region (pairs list) t.region
made_all s t [] st = ap (λ (u : Shared). u.region) (sym st)
made_all s t (e ∷ es) st = (st.0.region, st.1.region, made_all st.0 t es st.2)

pub record Led (start end : Region) (list : List Entry) : Type 0 where
  pub history : History RegionOperation
  pub spells : Spells spelled (pairs list) history
  pub leads : Leads region_rules start history end

pub led : (s t : Shared) (list : List Entry) → Stands MakesShared s list t → Led s.region t.region list
led s t list st =
    let h = spells_a_history region_rules spelled s.region t.region (pairs list) (made_all s t list st) in
    record { history = h.0; spells = h.1; leads = h.2 }

-- ---- Locks.

none_there : (xs : List ℕ) → ((m : ℕ) → times m xs ≡ 0) → xs ≡ []
none_there [] h = refl
none_there (x ∷ xs) h =
    let one : times x (x ∷ xs) ≡ suc (times x xs) = ap (λ b. length (cond b (x ∷ filter (λ y. y == x) xs) (filter (λ y. y == x) xs))) (eq-eqb x x refl) in
    let none = h x in
    let no : ⊥ = omega (arith, one, none) in absurd no

pub none_held : (start end : Shared) (numbers : ℕ) (list : List Entry) → IsFree start numbers → MakersBelow numbers list → Stands MakesShared start list end → ((m : ℕ) → m < numbers → has_lock m list ≡ false) → holders end.region writes ≡ []
none_held start end numbers list free low st unlocked = none_there (holders end.region writes) each
  where
    each : (m : ℕ) → times m (holders end.region writes) ≡ 0
    each m = by (cases_order m numbers)
      where
        sound : Sound start numbers end
        sound = sound_all start start end numbers list free.whole low (sound_start start numbers free) st

        by : (m ≡ numbers) ⊎ ((m < numbers) ⊎ (numbers < m)) → times m (holders end.region writes) ≡ 0
        by (inl e) = sound.below m (omega (arith, e))
        by (inr (inl l)) = count_free end.region m (holds_so start end numbers m list free st ∙ unlocked m l)
        by (inr (inr l)) = sound.below m (omega (arith, l))

-- a maker without entries has no lock
pub strangers_hold_none : (m : ℕ) (list : List Entry) → All (λ e. e.maker ≢ m) list → has_lock m list ≡ false
strangers_hold_none m list none = still_locked m [] list (list, refl, none)

-- ---- At first.

pub replica_free : (plan : Plan) (k : Key) → IsFree (first_replica plan k) (benches plan)
replica_free plan k =
    let long = length-replicate {A = ℕ} (key_pages k.size * page_size) 0 in
    let enough = pages_hold k.size in
    record { writer = refl; readers = refl; room = refl; whole = omega (arith, long, enough) }

pub value_free : (plan : Plan) (k : Key) → length k.init ≤ k.size → IsFree (first_value plan k) (benches plan)
value_free plan k h =
    let a = length-append k.init (replicate (k.size - length k.init) 0) in
    let b = length-replicate {A = ℕ} (k.size - length k.init) 0 in
    record { writer = refl; readers = refl; room = refl; whole = omega (arith, a, b, h) }
