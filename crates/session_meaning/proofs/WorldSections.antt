-- In every world the histories have write-lock sections.
use Rattle.std.proofs.Common.{◌≡◌, ℕ, zero, suc, List, [], ◌∷◌, subst, Some, slice_get}
use Rattle.std.specs.Prelude.{option_and_then}
use Rattle.std.specs.List.{AllByRecursion}
use Rattle.session_meaning.specs.declared.event.Event.{Event}
use Rattle.faaslet_meaning.specs.Region.{Region, replica, global_value}
use Rattle.faaslet_meaning.specs.History.{Legal, region_rules}
use Rattle.faaslet_meaning.specs.Sections.{HasSections}
use Rattle.faaslet_meaning.proofs.Histories.{has_sections}
use Rattle.session_meaning.specs.Plan.{Key, Plan}
use Rattle.session_meaning.specs.Keeping.{ObjectsLead}
use Rattle.session_meaning.specs.World.{Object, World}
use Rattle.session_meaning.specs.WorldTold.{local_history, global_history}
use Rattle.session_meaning.specs.Events.{Worlds}
use Rattle.session_meaning.proofs.OneEntry.{past}
use Rattle.session_meaning.proofs.Worlds.{histories_lead}

-- the history of the object of a key is legal
pub legal_at : (start : Key → Region) (ks : List Key) (os : List Object) (n : ℕ) (k : Key) → ObjectsLead start ks os → slice_get ks n ≡ Some k → Legal region_rules (start k) (past (slice_get os n))
legal_at start [] os n k h e = let no : ⊥ = cc in absurd no
legal_at start (x ∷ ks) [] n k h e = absurd h
legal_at start (x ∷ ks) (o ∷ os) zero k h e = let same : x ≡ k = cc in subst (λ y. Legal region_rules (start y) o.history) same h.0.legal
legal_at start (x ∷ ks) (o ∷ os) (suc n) k h e = legal_at start ks os n k h.1 e

pub legal_in : (start : Key → Region) (ks : List Key) (oss : List (List Object)) (host n : ℕ) (k : Key) → AllByRecursion (ObjectsLead start ks) oss → slice_get ks n ≡ Some k → Legal region_rules (start k) (past (option_and_then (λ os. slice_get os n) (slice_get oss host)))
legal_in start ks [] host n k all e = tt
legal_in start ks (os ∷ oss) zero n k all e = legal_at start ks os n k all.0 e
legal_in start ks (os ∷ oss) (suc host) n k all e = legal_in start ks oss host n k all.1 e

pub have_sections : (plan : Plan) (events : List Event) (w : World) → Worlds plan events w → (host key : ℕ) (k : Key) → slice_get plan.keys key ≡ Some k → HasSections (replica k.size) (local_history w host key) × HasSections (global_value k.size k.init) (global_history w key)
have_sections plan events w made host key k e =
    let lead = histories_lead plan events w made in (
      has_sections (replica k.size) (local_history w host key) (legal_in (λ k. replica k.size) plan.keys w.locals host key k lead.locals e),
      has_sections (global_value k.size k.init) (global_history w key) (legal_at (λ k. global_value k.size k.init) plan.keys w.globals key k lead.globals e),
    )
