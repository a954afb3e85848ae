-- What is kept of a world: at its start, after entries of a call, and what a question meets there.
use Rattle.std.proofs.Common.{◌≡◌, ℕ, zero, suc, List, [], ◌∷◌, ◌++◌, Option, Some, None, IsSome, map, replicate, fold, filter_map, slice_get, option_map, option_and_then, refl, sym, ap, ap₂, ◌∙◌, subst}
use Rattle.std.specs.List.{cons_option}
use Rattle.std.proofs.lemmas.List.{map-append}
use Rattle.faaslet_meaning.specs.declared.grant.Channel.{Channel}
use Rattle.faaslet_meaning.specs.declared.grant.Channel.TheVariants.{Local, Global, Table as OnTable}
use Rattle.faaslet_meaning.specs.Channels.{RegionOperation, Operation, on_region, as_region, Reply, Question, ask, fills, pulls, pushes, Entry}
use Rattle.faaslet_meaning.specs.Lists.{changed, first}
use Rattle.faaslet_meaning.specs.Region as region
use Rattle.faaslet_meaning.specs.Region.{Region, Kind, reads, writes, halves, kind, replica, global_value}
use Rattle.faaslet_meaning.specs.Table.{TableOperation}
use Rattle.session_meaning.specs.Events.{Obstacle, held, answer, lock_on, reply_on}
use Rattle.session_meaning.specs.Plan.{Key, Plan, Request}
use Rattle.session_meaning.specs.Trail.{mark}
use Rattle.session_meaning.specs.World.{Object, World, as_parent, entered, first_world, on_local, on_global, on_table, requested, start, unused}
use Rattle.session_meaning.specs.World as world
use Rattle.session_meaning.proofs.Kept.{changed_map, get_map}
use Rattle.world_objects.specs.declared.objects.KeyStart.{KeyStart}
use Rattle.world_objects.specs.Kept.{Kept, Objects, applied, kept, objects_of}
use Rattle.world_objects.specs.Served.{HasObjects, changed_at, entered_at, global_start, local_start, lock_at, locks_at, object_at, reply_at, reply_on_region, start_of, started, told_of}

-- ---- An entry of a call.

kept_applied : (call : ℕ) (op : RegionOperation) (o : Object) → kept (world.applied call op o) ≡ applied call op (kept o)
kept_applied call op o = ap (λ t. let k : Kept = record { region = region.after o.region call op; trail = t } in k) (map-append mark o.history ((call, op) ∷ []))

abbrev rows : List (List Object) → List (List Kept)
rows ls = map (λ objects. map kept objects) ls

by_entry : (w : World) (call host : ℕ) (c : Channel) (p : Option RegionOperation) (t : Option TableOperation) → objects_of (elim c [ Local key ↦ elim p [ None ↦ w | Some op ↦ on_local w host key call op ] | Global key ↦ elim p [ None ↦ w | Some op ↦ on_global w key call op ] | OnTable ↦ elim t [ None ↦ w | Some op ↦ on_table w call op ] ]) ≡ elim p [ None ↦ objects_of w | Some op ↦ changed_at (objects_of w) host c (applied call op) ]
by_entry w call host (Local key) None t = refl
by_entry w call host (Local key) (Some op) t =
    ap (λ ls. let o : Objects = record { locals = ls; globals = map kept w.globals } in o) (changed_map (λ objects. map kept objects) w.locals host (λ objects. changed objects key (world.applied call op)) (λ row. changed row key (applied call op)) (λ objects h. changed_map kept objects key (world.applied call op) (applied call op) (λ o i. kept_applied call op o)))
by_entry w call host (Global key) None t = refl
by_entry w call host (Global key) (Some op) t =
    ap (λ gs. let o : Objects = record { locals = rows w.locals; globals = gs } in o) (changed_map kept w.globals key (world.applied call op) (applied call op) (λ o i. kept_applied call op o))
by_entry w call host OnTable None None = refl
by_entry w call host OnTable None (Some t) = refl
by_entry w call host OnTable (Some op) None = refl
by_entry w call host OnTable (Some op) (Some t) = refl

one_entry : (w : World) (call host : ℕ) (e : Entry) → objects_of (entered call host w e) ≡ entered_at call host (objects_of w) e
one_entry w call host e = by_entry w call host e.channel (as_region e.operation) (as_parent call e.operation)

pub enters : (w : World) (call host : ℕ) (es : List Entry) → objects_of (fold (entered call host) w es) ≡ fold (entered_at call host) (objects_of w) es
enters w call host [] = refl
enters w call host (e ∷ es) = enters (entered call host w e) call host es ∙ ap (λ o. fold (entered_at call host) o es) (one_entry w call host e)

-- ---- The start.

no_requests : (w : World) (rs : List Request) → objects_of (fold requested w rs) ≡ objects_of w
no_requests w [] = refl
no_requests w (r ∷ rs) = no_requests (requested w r) rs

abbrev local_of : ℕ × List ℕ → Kept
local_of p = record { region = replica p.0; trail = [] }

abbrev global_of : ℕ × List ℕ → Kept
global_of p = record { region = global_value p.0 p.1; trail = [] }

same_locals : (keys : List KeyStart) (ks : List Key) → map told_of keys ≡ map start_of ks → map local_start keys ≡ map kept (map (λ k. unused (replica k.size)) ks)
same_locals [] [] e = refl
same_locals [] (k ∷ ks) e = let no : ⊥ = cc in absurd no
same_locals (x ∷ keys) [] e = let no : ⊥ = cc in absurd no
same_locals (x ∷ keys) (k ∷ ks) e =
    let here : told_of x ≡ start_of k = cc in
    let rest : map told_of keys ≡ map start_of ks = cc in
    ap₂ (λ p l. local_of p ∷ l) here (same_locals keys ks rest)

same_globals : (keys : List KeyStart) (ks : List Key) → map told_of keys ≡ map start_of ks → map global_start keys ≡ map kept (map (λ k. unused (global_value k.size k.init)) ks)
same_globals [] [] e = refl
same_globals [] (k ∷ ks) e = let no : ⊥ = cc in absurd no
same_globals (x ∷ keys) [] e = let no : ⊥ = cc in absurd no
same_globals (x ∷ keys) (k ∷ ks) e =
    let here : told_of x ≡ start_of k = cc in
    let rest : map told_of keys ≡ map start_of ks = cc in
    ap₂ (λ p l. global_of p ∷ l) here (same_globals keys ks rest)

each_host : (n : ℕ) (row : List Object) → map (λ objects. map kept objects) (replicate n row) ≡ replicate n (map kept row)
each_host zero row = refl
each_host (suc n) row = ap (λ l. map kept row ∷ l) (each_host n row)

pub starts : (plan : Plan) (keys : List KeyStart) → map told_of keys ≡ map start_of plan.keys → started plan.hosts keys ≡ objects_of (first_world plan)
starts plan keys e =
    let row = map (λ (k : Key). unused (replica k.size)) plan.keys in
    let locals = ap (λ r. replicate plan.hosts r) (same_locals keys plan.keys e) ∙ sym (each_host plan.hosts row) in
    ap₂ (λ ls gs. let o : Objects = record { locals = ls; globals = gs } in o) locals (same_globals keys plan.keys e) ∙ sym (no_requests (start plan) plan.requests)

-- ---- What a question meets.

kept_local : (w : World) (host key : ℕ) → object_at (objects_of w) host (Local key) ≡ option_map kept (option_and_then (λ objects. slice_get objects key) (slice_get w.locals host))
kept_local w host key = ap (λ z. option_and_then (λ row. slice_get row key) z) (get_map (λ objects. map kept objects) w.locals host) ∙ by (slice_get w.locals host)
  where
    by : (z : Option (List Object)) → option_and_then (λ row. slice_get row key) (option_map (λ objects. map kept objects) z) ≡ option_map kept (option_and_then (λ objects. slice_get objects key) z)
    by None = refl
    by (Some objects) = get_map kept objects key

lock_seen : (call : ℕ) (ch : Channel) (k : Kind) (d : Region) (z : Option Object) (y : Option Kept) → y ≡ option_map kept z → IsSome y → option_and_then (λ (x : Kept). option_map (λ holder. held ch holder) (region.blocker x.region call k)) y ≡ option_map (λ holder. held ch holder) (region.blocker (elim z [ None ↦ d | Some o ↦ o.region ]) call k)
lock_seen call ch k d None y e h = let no : ⊥ = cc in absurd no
lock_seen call ch k d (Some o) y e h = ap (λ v. option_and_then (λ (x : Kept). option_map (λ holder. held ch holder) (region.blocker x.region call k)) v) e

lock_so : (w : World) (call host : ℕ) (ch : Channel) (k : Kind) → IsSome (object_at (objects_of w) host ch) → lock_at (objects_of w) call host ch k ≡ lock_on w call host ch k
lock_so w call host (Local key) k h = lock_seen call (Local key) k (replica 0) (option_and_then (λ objects. slice_get objects key) (slice_get w.locals host)) (object_at (objects_of w) host (Local key)) (kept_local w host key) h
lock_so w call host (Global key) k h = lock_seen call (Global key) k (global_value 0 []) (slice_get w.globals key) (object_at (objects_of w) host (Global key)) (get_map kept w.globals key) h
lock_so w call host OnTable k h = let no : ⊥ = cc in absurd no

pub locks : (w : World) (call host : ℕ) (q : Question) → HasObjects (objects_of w) host q → locks_at (objects_of w) call host q ≡ first (filter_map (λ half. lock_on w call host half.0 half.1) (halves q))
locks w call host (ask ch (on_region op)) h = ap (λ a. first (cons_option a [])) (lock_so w call host ch (kind op) h)
locks w call host (ask ch (Operation.submit f input)) h = absurd h
locks w call host (ask ch (Operation.look c)) h = absurd h
locks w call host (fills key size) h = ap₂ (λ a b. first (cons_option a (cons_option b []))) (lock_so w call host (Local key) reads h.0) (lock_so w call host (Global key) reads h.1)
locks w call host (pulls key off len) h = ap₂ (λ a b. first (cons_option a (cons_option b []))) (lock_so w call host (Local key) writes h.0) (lock_so w call host (Global key) reads h.1)
locks w call host (pushes key off len) h = ap₂ (λ a b. first (cons_option a (cons_option b []))) (lock_so w call host (Local key) reads h.0) (lock_so w call host (Global key) writes h.1)

reply_seen : (call : ℕ) (op : RegionOperation) (d : Region) (z : Option Object) (y : Option Kept) → y ≡ option_map kept z → IsSome y → reply_on_region call (Some op) y ≡ region.reply (elim z [ None ↦ d | Some o ↦ o.region ]) call op
reply_seen call op d None y e h = let no : ⊥ = cc in absurd no
reply_seen call op d (Some o) y e h = ap (λ v. reply_on_region call (Some op) v) e

reply_so : (w : World) (call host : ℕ) (ch : Channel) (op : RegionOperation) → IsSome (object_at (objects_of w) host ch) → reply_on_region call (Some op) (object_at (objects_of w) host ch) ≡ reply_on w call host ch (on_region op)
reply_so w call host (Local key) op h = reply_seen call op (replica 0) (option_and_then (λ objects. slice_get objects key) (slice_get w.locals host)) (object_at (objects_of w) host (Local key)) (kept_local w host key) h
reply_so w call host (Global key) op h = reply_seen call op (global_value 0 []) (slice_get w.globals key) (object_at (objects_of w) host (Global key)) (get_map kept w.globals key) h
reply_so w call host OnTable op h = let no : ⊥ = cc in absurd no

pub answers : (w : World) (call host : ℕ) (q : Question) → HasObjects (objects_of w) host q → reply_at (objects_of w) call host q ≡ answer w call host q
answers w call host (ask ch (on_region op)) h = reply_so w call host ch op h
answers w call host (ask ch (Operation.submit f input)) h = absurd h
answers w call host (ask ch (Operation.look c)) h = absurd h
answers w call host (fills key size) h = reply_so w call host (Global key) (RegionOperation.send 0 size) h.1
answers w call host (pulls key off len) h = reply_so w call host (Global key) (RegionOperation.send off len) h.1
answers w call host (pushes key off len) h = reply_so w call host (Local key) (RegionOperation.send off len) h.0
