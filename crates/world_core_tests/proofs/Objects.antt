-- There is an object for each key: a replica at each host, and a global value.
use Rattle.std.proofs.Common.{◌≡◌, ℕ, zero, suc, ◌+◌, ◌<◌, List, [], ◌∷◌, Option, Some, length, map, refl, sym, ap, ◌∙◌, slice_get, subst, arith}
use Rattle.std.specs.Prelude.{IsSome, option_and_then, option_map}
use Rattle.std.specs.List.{AllByRecursion}
use Rattle.faaslet_meaning.specs.declared.grant.Channel.{Channel}
use Rattle.faaslet_meaning.specs.declared.grant.Channel.TheVariants.{Local, Global, Table as OnTable}
use Rattle.faaslet_meaning.specs.Region.{Region, global_value, replica}
use Rattle.session_meaning.specs.declared.event.Event.{Event}
use Rattle.session_meaning.specs.Events.{Worlds}
use Rattle.session_meaning.specs.Keeping.{ObjectsLead}
use Rattle.session_meaning.specs.Plan.{Key, Plan}
use Rattle.session_meaning.specs.World.{Object, World}
use Rattle.session_meaning.proofs.Kept.{get_map}
use Rattle.session_meaning.proofs.Worlds.{histories_lead}
use Rattle.world_core_tests.specs.Leading.{LeadsAt}
use Rattle.world_objects.specs.Kept.{Kept, kept, objects_of}
use Rattle.world_objects.specs.Served.{object_at}

-- ---- Places of lists.

row_there : {A : Type 0} (P : A → Type 0) (xs : List A) (n : ℕ) → AllByRecursion P xs → n < length xs → (x : A) × (slice_get xs n ≡ Some x) × P x
row_there P [] n all h = let no : ⊥ = omega (arith, h) in absurd no
row_there P (x ∷ xs) zero all h = (x, refl, all.0)
row_there P (x ∷ xs) (suc n) all h = row_there P xs n all.1 (omega (arith, h))

key_there : (start : Key → Region) (ks : List Key) (os : List Object) (key : ℕ) → ObjectsLead start ks os → key < length ks → (o : Object) × (slice_get os key ≡ Some o)
key_there start [] [] key lead h = let no : ⊥ = omega (arith, h) in absurd no
key_there start [] (o ∷ os) key lead h = absurd lead
key_there start (k ∷ ks) [] key lead h = absurd lead
key_there start (k ∷ ks) (o ∷ os) zero lead h = (o, refl)
key_there start (k ∷ ks) (o ∷ os) (suc key) lead h = key_there start ks os key lead.1 (omega (arith, h))

is_there : {A : Type 0} (o : Option A) (x : A) → o ≡ Some x → IsSome o
is_there o x e = subst IsSome (sym e) refl

abbrev map_kept : List Object → List Kept
map_kept objects = map kept objects

-- ---- The object to which a channel leads.

pub object_there : (plan : Plan) (events : List Event) (w : World) (host : ℕ) (channel : Channel) → Worlds plan events w → LeadsAt plan host channel → IsSome (object_at (objects_of w) host channel)
object_there plan events w host (Global key) h l =
    let x = key_there (λ k. global_value k.size k.init) plan.keys w.globals key (histories_lead plan events w h).globals l in
    is_there (object_at (objects_of w) host (Global key)) (kept x.0) (get_map kept w.globals key ∙ ap (option_map kept) x.1)
object_there plan events w host (Local key) h l =
    let lead = histories_lead plan events w h in
    let many = lead.hosts in
    let m = l.0 in
    let row = row_there (ObjectsLead (λ k. replica k.size) plan.keys) w.locals host lead.locals (omega (arith, m, many)) in
    let x = key_there (λ k. replica k.size) plan.keys row.0 key row.2 l.1 in
    is_there (object_at (objects_of w) host (Local key)) (kept x.0)
    (ap (option_and_then (λ (r : List Kept). slice_get r key)) (get_map map_kept w.locals host ∙ ap (option_map map_kept) row.1)
    ∙ get_map kept row.0 key
    ∙ ap (option_map kept) x.1)
object_there plan events w host OnTable h l = absurd l
