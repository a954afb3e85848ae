-- What is read of what is kept of a world: what is offered, whether a call is unfinished, and the value of a key.
use Rattle.std.proofs.Common.{◌≡◌, ℕ, zero, suc, ◌+◌, ◌<◌, Bool, true, false, not, cond, List, [], ◌∷◌, Option, Some, None, length, map, refl, sym, ap, ap₂, ◌∙◌, slice_get, subst, unwrap_or, arith}
use Rattle.std.specs.Prelude.{◌&&◌, is_some, IfSome, option_map}
use Rattle.faaslet_meaning.specs.declared.call.CallRecord.{CallRecord}
use Rattle.faaslet_meaning.specs.declared.call.CallState.{CallState}
use Rattle.faaslet_meaning.specs.declared.call.CallState.TheVariants.{Queued, Taken, Finished}
use Rattle.faaslet_meaning.specs.Lists.{is_empty, passes_at, places, places_from}
use Rattle.faaslet_meaning.specs.Records.{is_finished, is_open, is_queued, queued_calls}
use Rattle.faaslet_meaning.specs.Region.{Region, global_value}
use Rattle.session_meaning.specs.Events.{open_at}
use Rattle.session_meaning.specs.Keeping.{CallsOpen, ObjectsLead}
use Rattle.session_meaning.specs.OpenCall.{Open}
use Rattle.session_meaning.specs.Plan.{Key, Plan}
use Rattle.session_meaning.specs.Schedule.{offered, open_calls, unfinished_calls}
use Rattle.session_meaning.specs.World.{Object, World}
use Rattle.session_meaning.specs.SessionReport.{values}
use Rattle.session_meaning.proofs.Kept.{get_map}
use Rattle.session_meaning.proofs.Worlds.{histories_lead}
use Rattle.world_objects.specs.Kept.{Objects, kept, objects_of}
use Rattle.world_core.specs.Floor.{offered_on}
use Rattle.world_core.specs.Living.{Lives, Settling, world_of}
use Rattle.world_core.specs.declared.running.Running.{Running}
use Rattle.world_core.proofs.Offered.{offered_so}

-- ---- What is offered.

pub offered_here : (r : Running) → Lives r → offered_on r.floor ≡ offered r.protos.now (world_of r)
offered_here r l = offered_so r.protos.now (world_of r) r.floor (record { has = l.settling.keeps.floor; stands = l.stands })

-- ---- Whether a call is unfinished.

-- lists of one length that pass at the same places
same_places : {A B : Type 0} (p : A → Bool) (q : B → Bool) (k : ℕ) (xs : List A) (ys : List B) → length xs ≡ length ys → ((n : ℕ) → passes_at p xs n ≡ passes_at q ys n) → places_from k p xs ≡ places_from k q ys
same_places p q k [] [] e same = refl
same_places p q k [] (y ∷ ys) e same = let no : ⊥ = omega (arith, e) in absurd no
same_places p q k (x ∷ xs) [] e same = let no : ⊥ = omega (arith, e) in absurd no
same_places p q k (x ∷ xs) (y ∷ ys) e same =
    ap₂ (λ b l. cond b (k ∷ l) l) (same 0) (same_places p q (k + 1) xs ys (omega (arith, e)) (λ n. same (suc n)))

passes_open : (w : World) (n : ℕ) → passes_at is_some w.calls n ≡ is_some (open_at w n)
passes_open w n = by (slice_get w.calls n)
  where
    by : (o : Option (Option Open)) → ◌≡◌ {A = Bool} (elim o [ None ↦ false | Some x ↦ is_some x ]) (is_some (unwrap_or o None))
    by None = refl
    by (Some x) = refl

open_so : (plan : Plan) (w : World) → CallsOpen plan w → open_calls w ≡ places (λ (r : CallRecord). is_open r.state) w.table.records
open_so plan w opens = same_places is_some (λ (r : CallRecord). is_open r.state) 0 w.calls w.table.records opens.places (λ n. passes_open w n ∙ opens.opens n)

-- each call is queued, open or finished
unfinished_so : (k : ℕ) (rs : List CallRecord) → is_empty (places_from k (λ (r : CallRecord). not (is_finished r.state)) rs) ≡ (is_empty (places_from k (λ (r : CallRecord). is_queued r.state) rs) && is_empty (places_from k (λ (r : CallRecord). is_open r.state) rs))
unfinished_so k [] = refl
unfinished_so k (r ∷ rs) = by r.state (unfinished_so (k + 1) rs)
  where
    P : List ℕ
    P = places_from (k + 1) (λ (r : CallRecord). not (is_finished r.state)) rs

    Q : List ℕ
    Q = places_from (k + 1) (λ (r : CallRecord). is_queued r.state) rs

    O : List ℕ
    O = places_from (k + 1) (λ (r : CallRecord). is_open r.state) rs

    by : (s : CallState) → is_empty P ≡ (is_empty Q && is_empty O) → is_empty (cond (not (is_finished s)) (k ∷ P) P) ≡ (is_empty (cond (is_queued s) (k ∷ Q) Q) && is_empty (cond (is_open s) (k ∷ O) O))
    by Queued e = refl
    by (Taken h b n) e = sym (and_false (is_empty Q))
      where
        and_false : (b : Bool) → (b && false) ≡ false
        and_false true = refl
        and_false false = refl
    by (Finished h b n o u out counts) e = e

empty_so : {A : Type 0} (number : A → ℕ) (xs : List A) → is_empty (map number xs) ≡ is_empty xs
empty_so number [] = refl
empty_so number (x ∷ xs) = refl

pub none_unfinished : {A B : Type 0} (plan : Plan) (w : World) (number : A → ℕ) (call : B → ℕ) (queued : List A) (players : List B) → CallsOpen plan w → map number queued ≡ queued_calls w.table.records → map call players ≡ open_calls w
    → is_empty (unfinished_calls w) ≡ (is_empty queued && is_empty players)
none_unfinished plan w number call queued players opens q o =
    unfinished_so 0 w.table.records
    ∙ ap₂ (λ a b. a && b) (sym (ap is_empty q) ∙ empty_so number queued) (ap is_empty (sym (o ∙ open_so plan w opens)) ∙ empty_so call players)

-- ---- The value of a key.

as_many : (start : Key → Region) (ks : List Key) (os : List Object) → ObjectsLead start ks os → length os ≡ length ks
as_many start [] [] lead = refl
as_many start [] (o ∷ os) lead = absurd lead
as_many start (k ∷ ks) [] lead = absurd lead
as_many start (k ∷ ks) (o ∷ os) lead = ap suc (as_many start ks os lead.1)

item_there : {A : Type 0} (xs : List A) (n : ℕ) → n < length xs → (x : A) × (slice_get xs n ≡ Some x)
item_there [] n h = let bad : ⊥ = omega (arith, h) in absurd bad
item_there (x ∷ xs) zero h = (x, refl)
item_there (x ∷ xs) (suc n) h = item_there xs n (omega (arith, h))

-- there is an object for each key
pub object_there : (start : Key → Region) (ks : List Key) (os : List Object) (key : ℕ) → ObjectsLead start ks os → key < length ks → (o : Object) × (slice_get os key ≡ Some o)
object_there start ks os key lead h = let many = as_many start ks os lead in item_there os key (omega (arith, many, h))

pub value_there : (w : World) (o : Objects) (key : ℕ) (x : Object) → o ≡ objects_of w → slice_get w.globals key ≡ Some x → slice_get o.globals key ≡ Some (kept x)
value_there w o key x is here = ap (λ (o : Objects). slice_get o.globals key) is ∙ get_map kept w.globals key ∙ ap (option_map kept) here

pub value_so : (w : World) (o : Objects) (key : ℕ) (x : Object) (bytes : List ℕ) → o ≡ objects_of w → slice_get w.globals key ≡ Some x → IfSome (slice_get o.globals key) (λ y. bytes ≡ y.region.bytes) → slice_get (values w) key ≡ Some bytes
value_so w o key x bytes is here h =
    get_map (λ (o : Object). o.region.bytes) w.globals key
    ∙ ap (option_map (λ (o : Object). o.region.bytes)) here
    ∙ ap (λ b. Some b) (sym (subst (λ y. IfSome y (λ y. bytes ≡ y.region.bytes)) (value_there w o key x is here) h))

pub global_there : (r : Running) → Settling r → (key : ℕ) → key < length r.protos.now.keys → (o : Object) × (slice_get (world_of r).globals key ≡ Some o)
global_there r s key l =
    object_there (λ k. global_value k.size k.init) r.protos.now.keys (world_of r).globals key (histories_lead r.protos.now r.events.items (world_of r) (record { stand = s.stand; world_so = refl })).globals l
