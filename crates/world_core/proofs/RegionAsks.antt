-- A question on a region, or a move, of an open call: it is on objects that are there, within them, and no lock keeps it back.
use Rattle.std.proofs.Common.{◌≡◌, ℕ, ◌≤◌, ◌<◌, Bool, true, false, cond, List, map, Option, Some, None, refl, sym, ap, ◌∙◌, subst, length, take, slice_get, option_map, arith}
use Rattle.std.specs.Prelude.{IsSome, nat_le, option_and_then}
use Rattle.std.specs.Option.{ForSome}
use Rattle.std.proofs.lemmas.Bool.{leb-true}
use Rattle.std.proofs.lemmas.List.{length-take}
use Rattle.faaslet_meaning.specs.declared.ask.Ask.{Ask}
use Rattle.faaslet_meaning.specs.declared.ask.Ask.TheVariants as an_ask
use Rattle.faaslet_meaning.specs.declared.ask.AskOp.{AskOp}
use Rattle.faaslet_meaning.specs.declared.ask.AskOp.TheVariants as op
use Rattle.faaslet_meaning.specs.declared.ask.Move.{Move}
use Rattle.faaslet_meaning.specs.declared.ask.Move.TheVariants as move
use Rattle.faaslet_meaning.specs.declared.grant.Channel.{Channel}
use Rattle.faaslet_meaning.specs.declared.grant.Channel.TheVariants.{Local, Global, Table as OnTable}
use Rattle.faaslet_meaning.specs.declared.grant.Grant.{Grant}
use Rattle.faaslet_meaning.specs.Asks.{move_of, operation_of, question_of_ask, size_of_key}
use Rattle.faaslet_meaning.specs.CallState.{Invocation, State}
use Rattle.faaslet_meaning.specs.Channels.{Operation, Question, RegionOperation, ask, fills, on_region, pulls, pushes}
use Rattle.faaslet_meaning.specs.Fresh.{Function}
use Rattle.session_meaning.specs.Plan.{Key, Plan}
use Rattle.session_meaning.specs.World.{Object, World}
use Rattle.session_meaning.proofs.Kept.{get_map}
use Rattle.session_meaning.proofs.OneEntry.{GlobalFound, LocalFound, RegionsOk, global_found, local_found}
use Rattle.granted_asks.specs.LiesIn.{InKey, LiesIn, OfKey, OnGlobal, OnReplica, replica_size}
use Rattle.shared_region.specs.Moves.{MoveFits}
use Rattle.world_objects.specs.Asked.{Carries, Fits, operation}
use Rattle.world_objects.specs.Kept.{Kept, kept, objects_of}
use Rattle.world_objects.specs.Served.{AreThere, HasObjects, IsWithin, object_at, question_at, size_at}
use Rattle.world_core.proofs.Serving.{IsOffTable}

-- ---- The objects of a key.

some_there : {A : Type 0} (o : Option A) (x : A) → o ≡ Some x → IsSome o
some_there None x e = let no : ⊥ = cc in absurd no
some_there (Some y) x e = refl

some_same : {A : Type 0} {x y : A} → Some x ≡ Some y → x ≡ y
some_same e = cc

for_some : {A : Type 0} (o : Option A) (x : A) (P : A → Type 0) → o ≡ Some x → P x → ForSome o P
for_some o x P e h y k = subst P (some_same (sym e ∙ k)) h

abbrev size_in : Option Kept → ℕ
size_in o = elim o [ None ↦ 0 | Some g ↦ g.region.size ]

abbrev map_kept : List Object → List Kept
map_kept objects = map kept objects

local_object : (plan : Plan) (w : World) (host key : ℕ) (k : Key) (found : LocalFound plan w host key k) → object_at (objects_of w) host (Local key) ≡ Some (kept found.object)
local_object plan w host key k found =
    ap (option_and_then (λ (row : List Kept). slice_get row key)) (get_map (λ objects. map_kept objects) w.locals host ∙ ap (option_map (λ objects. map_kept objects)) found.objects_so)
    ∙ get_map kept found.objects key
    ∙ ap (option_map kept) found.object_so

global_object : (plan : Plan) (w : World) (key : ℕ) (k : Key) (host : ℕ) (found : GlobalFound plan w key k) → object_at (objects_of w) host (Global key) ≡ Some (kept found.object)
global_object plan w key k host found = get_map kept w.globals key ∙ ap (option_map kept) found.object_so

-- ---- What an ask is.

-- an operation, which finds what it carries in the scratch
op_is : (o : AskOp) (scratch : List ℕ) (r : Operation) → operation_of o scratch ≡ Some r → (r ≡ on_region (operation o scratch)) × Carries o (length scratch)
op_is op.Probe scratch r e = (sym (some_same e), tt)
op_is (op.Read off len) scratch r e = (sym (some_same e), tt)
op_is (op.Write off len) scratch r e = by (nat_le len (length scratch)) refl e
  where
    by : (b : Bool) → nat_le len (length scratch) ≡ b → option_map (λ bytes. on_region (RegionOperation.write off bytes)) (cond b (Some (take len scratch)) None) ≡ Some r → (r ≡ on_region (RegionOperation.write off (take len scratch))) × (len ≤ length scratch)
    by true h e = (sym (some_same e), leb-true len (length scratch) h)
    by false h e = let no : ⊥ = cc in absurd no
op_is (op.Append len) scratch r e = by (nat_le len (length scratch)) refl e
  where
    by : (b : Bool) → nat_le len (length scratch) ≡ b → option_map (λ bytes. on_region (RegionOperation.append bytes)) (cond b (Some (take len scratch)) None) ≡ Some r → (r ≡ on_region (RegionOperation.append (take len scratch))) × (len ≤ length scratch)
    by true h e = (sym (some_same e), leb-true len (length scratch) h)
    by false h e = let no : ⊥ = cc in absurd no
op_is op.Size scratch r e = (sym (some_same e), tt)
op_is op.LockRead scratch r e = (sym (some_same e), tt)
op_is op.LockWrite scratch r e = (sym (some_same e), tt)
op_is op.Unlock scratch r e = (sym (some_same e), tt)

pub region_is : (ch : Channel) (o : AskOp) (scratch : List ℕ) (q : Question) → option_map (λ operation. ask ch operation) (operation_of o scratch) ≡ Some q → (q ≡ ask ch (on_region (operation o scratch))) × Carries o (length scratch)
region_is ch o scratch q e = by (operation_of o scratch) refl e
  where
    by : (r : Option Operation) → operation_of o scratch ≡ r → option_map (λ operation. ask ch operation) r ≡ Some q → (q ≡ ask ch (on_region (operation o scratch))) × Carries o (length scratch)
    by None h e = let no : ⊥ = cc in absurd no
    by (Some r) h e = let is = op_is o scratch r h in (sym (some_same e) ∙ ap (λ r. ask ch r) is.0, is.1)

pub fill_is : (o : Option ℕ) (key : ℕ) (q : Question) → option_map (λ size. fills key size) o ≡ Some q → (n : ℕ) × (q ≡ fills key n)
fill_is None key q e = let no : ⊥ = cc in absurd no
fill_is (Some n) key q e = (n, sym (some_same e))

-- ---- Ranges.

local_fits : (k : Key) (o : Object) (a : AskOp) (scratch : List ℕ) → length o.region.bytes ≡ replica_size k → Carries a (length scratch) → OnReplica (operation a scratch) k → Fits o.region a 65536
local_fits k o op.Probe scratch long carries on = tt
local_fits k o (op.Read off len) scratch long carries on = let inside = on.inside in let short = on.short in (omega (arith, inside, long), omega (arith, short))
local_fits k o (op.Write off len) scratch long carries on =
    let inside = on.inside in
    let short = on.short in
    let taken = length-take len scratch in
    (omega (arith, inside, long, taken, carries), omega (arith, short, taken, carries))
local_fits k o (op.Append len) scratch long carries on = absurd on
local_fits k o op.Size scratch long carries on = tt
local_fits k o op.LockRead scratch long carries on = tt
local_fits k o op.LockWrite scratch long carries on = tt
local_fits k o op.Unlock scratch long carries on = tt

global_fits : (k : Key) (o : Object) (a : AskOp) (scratch : List ℕ) → Carries a (length scratch) → OnGlobal (operation a scratch) k → Fits o.region a 65536
global_fits k o op.Probe scratch carries on = tt
global_fits k o (op.Read off len) scratch carries on = absurd on
global_fits k o (op.Write off len) scratch carries on = absurd on
global_fits k o (op.Append len) scratch carries on = let taken = length-take len scratch in omega (arith, on, taken, carries)
global_fits k o op.Size scratch carries on = tt
global_fits k o op.LockRead scratch carries on = tt
global_fits k o op.LockWrite scratch carries on = tt
global_fits k o op.Unlock scratch carries on = tt

-- ---- Each ask on a region, and each move.

abbrev pub IsOnRegion : Ask → Type 0
IsOnRegion (an_ask.Region ch o) = Unit {0}
IsOnRegion (an_ask.Move key kind) = Unit {0}
IsOnRegion a = ⊥

-- it is a question on objects that are there, within them
pub record Ready (w : World) (host : ℕ) (a : Ask) (scratch : List ℕ) (q : Question) : Type 0 where
  pub asked : question_at (objects_of w) a scratch ≡ Some q
  pub there : AreThere (objects_of w) host a
  pub within : IsWithin (objects_of w) host a 65536
  pub has : HasObjects (objects_of w) host q
  pub off : IsOffTable q

module _ (plan : Plan) (w : World) (host : ℕ) (regions : RegionsOk plan w) (in_plan : host < plan.hosts) (f : Function) (s : State) where
  region_ready : (ch : Channel) (o : AskOp) (scratch : List ℕ) → Carries o (length scratch) → LiesIn plan f s (ask ch (on_region (operation o scratch))) → Ready w host (an_ask.Region ch o) scratch (ask ch (on_region (operation o scratch)))
  region_ready (Local key) o scratch carries lies =
      let found = local_found plan w host key lies.k regions in_plan lies.is_there in
      let is = local_object plan w host key lies.k found in
      record {
        asked = refl;
        there = some_there (object_at (objects_of w) host (Local key)) (kept found.object) is;
        within = for_some (object_at (objects_of w) host (Local key)) (kept found.object) (λ x. Fits x.region o 65536) is (local_fits lies.k found.object o scratch found.led.1.0 carries lies.is_so);
        has = some_there (object_at (objects_of w) host (Local key)) (kept found.object) is;
        off = tt;
      }
  region_ready (Global key) o scratch carries lies =
      let found = global_found plan w key lies.k regions lies.is_there in
      let is = global_object plan w key lies.k host found in
      record {
        asked = refl;
        there = some_there (object_at (objects_of w) host (Global key)) (kept found.object) is;
        within = for_some (object_at (objects_of w) host (Global key)) (kept found.object) (λ x. Fits x.region o 65536) is (global_fits lies.k found.object o scratch carries lies.is_so);
        has = some_there (object_at (objects_of w) host (Global key)) (kept found.object) is;
        off = tt;
      }
  region_ready OnTable o scratch carries lies = absurd lies

  -- the objects of a key, with their size
  key_there : (key : ℕ) (k : Key) → slice_get plan.keys key ≡ Some k → (l : Object) × (object_at (objects_of w) host (Local key) ≡ Some (kept l)) × (l.region.size ≡ k.size) × IsSome (object_at (objects_of w) host (Local key)) × IsSome (object_at (objects_of w) host (Global key)) × (size_at (objects_of w) key ≡ k.size)
  key_there key k at =
      let l = local_found plan w host key k regions in_plan at in
      let g = global_found plan w key k regions at in
      let l_is = local_object plan w host key k l in
      let g_is = global_object plan w key k host g in (
        l.object,
        l_is,
        l.led.1.1,
        some_there (object_at (objects_of w) host (Local key)) (kept l.object) l_is,
        some_there (object_at (objects_of w) host (Global key)) (kept g.object) g_is,
        ap (λ o. size_in o) g_is ∙ g.led.1.1,
      )

  move_ready : (grants : List Grant) (key : ℕ) (kind : Move) (scratch : List ℕ) (q : Question) → move_of grants key kind ≡ Some q → LiesIn plan f s q → Ready w host (an_ask.Move key kind) scratch q
  move_ready grants key move.Fill scratch q e lies =
      let is = fill_is (size_of_key grants key) key q e in
      let n = is.0 in
      let of : OfKey plan f key (λ k. n ≡ k.size) = subst (LiesIn plan f s) is.1 lies in
      let x = key_there key of.k of.is_there in
      subst (Ready w host (an_ask.Move key move.Fill) scratch) (sym is.1) (record {
        asked = ap (λ m. Some (fills key m)) (x.5 ∙ sym of.is_so);
        there = (x.3, x.4);
        within = for_some (object_at (objects_of w) host (Local key)) (kept x.0) (λ l. MoveFits move.Fill l.region.size) x.1 tt;
        has = (x.3, x.4);
        off = tt;
      })
  move_ready grants key (move.Pull off len) scratch q e lies =
      let is : q ≡ pulls key off len = sym (some_same e) in
      let of : OfKey plan f key (InKey off len) = subst (LiesIn plan f s) is lies in
      let x = key_there key of.k of.is_there in
      let so = of.is_so in
      let size = x.2 in
      subst (Ready w host (an_ask.Move key (move.Pull off len)) scratch) (sym is) (record {
        asked = refl;
        there = (x.3, x.4);
        within = for_some (object_at (objects_of w) host (Local key)) (kept x.0) (λ l. MoveFits (move.Pull off len) l.region.size) x.1 (omega (arith, so, size));
        has = (x.3, x.4);
        off = tt;
      })
  move_ready grants key (move.Push off len) scratch q e lies =
      let is : q ≡ pushes key off len = sym (some_same e) in
      let of : OfKey plan f key (InKey off len) = subst (LiesIn plan f s) is lies in
      let x = key_there key of.k of.is_there in
      let so = of.is_so in
      let size = x.2 in
      subst (Ready w host (an_ask.Move key (move.Push off len)) scratch) (sym is) (record {
        asked = refl;
        there = (x.3, x.4);
        within = for_some (object_at (objects_of w) host (Local key)) (kept x.0) (λ l. MoveFits (move.Push off len) l.region.size) x.1 (omega (arith, so, size));
        has = (x.3, x.4);
        off = tt;
      })

  pub ready : (j : Invocation) (a : Ask) (scratch : List ℕ) (q : Question) → IsOnRegion a → question_of_ask j a scratch ≡ Some q → LiesIn plan f s q → Ready w host a scratch q
  ready j (an_ask.Region ch o) scratch q on e lies =
      let is = region_is ch o scratch q e in
      subst (Ready w host (an_ask.Region ch o) scratch) (sym is.0) (region_ready ch o scratch is.1 (subst (LiesIn plan f s) is.0 lies))
  ready j (an_ask.Move key kind) scratch q on e lies = move_ready j.program.grants key kind scratch q e lies
  ready j (an_ask.Submit place len) scratch q on e lies = absurd on
  ready j (an_ask.Look child) scratch q on e lies = absurd on
