-- Makers and holders on the objects of closed keys, and whoever a reason against an event on a kept call names, are kept calls.
use Rattle.std.proofs.Common.{◌≡◌, ◌⊎◌, ℕ, Bool, true, false, cond, List, [], ◌∷◌, Option, Some, None, refl, sym, ◌∙◌, length, slice_get, option_map, subst}
use Rattle.std.specs.Prelude.{nat_lt}
use Rattle.std.specs.List.{AllByRecursion, list_all}
use Rattle.std.proofs.lemmas.Bool.{and_parts}
use Rattle.faaslet_meaning.specs.declared.call.CallRecord.{CallRecord}
use Rattle.session_meaning.specs.declared.event.Event.{Event}
use Rattle.session_meaning.specs.declared.event.Event.TheVariants.{Take, Ask, End}
use Rattle.session_meaning.specs.declared.event.Why.{Why}
use Rattle.session_meaning.specs.declared.event.Why.TheVariants.{NoCall, NoHost, NotQueued, NotOpen, NotEnded, HasEnded, Holder, Child}
use Rattle.faaslet_meaning.specs.Channels.{Question}
use Rattle.faaslet_meaning.specs.CallState.{State}
use Rattle.faaslet_meaning.specs.Records.{is_queued}
use Rattle.faaslet_meaning.specs.Region.{writes, holders}
use Rattle.session_meaning.specs.Plan.{Plan, Names, Closed, is_key_of}
use Rattle.session_meaning.specs.OpenCall.{Open, asking, Ended, ended}
use Rattle.session_meaning.specs.World.{Object, World}
use Rattle.session_meaning.specs.Events.{Obstacle, held, unfinished, obstacle, open_at, why, why_of, why_take, why_ask, why_end, why_open, Worlds}
use Rattle.session_meaning.specs.Cut.{Part, rank, call_of, calls_of, part_of}
use Rattle.session_meaning.specs.PartMakers.{OfPart, ObjectOfPart, MakersOfPart, KinOfPart}
use Rattle.session_meaning.proofs.Kept.{get_kept, all_at}
use Rattle.session_meaning.proofs.Regions.{held_by}
use Rattle.session_meaning.proofs.WorldParts.{held_on, held_among}
use Rattle.session_meaning.proofs.KeptAsks.{Own}
use Rattle.session_meaning.proofs.FoldedCut.{Ready}
use Rattle.session_meaning.proofs.Invariants.{Kin, Like}
use Rattle.session_meaning.proofs.TwoWorlds.{agrees_part}
use Rattle.session_meaning.proofs.CutSteps.{passes_on}
use Rattle.session_meaning.proofs.NumbersStand.{numbers_stand}
use Rattle.session_meaning.proofs.WorldEnds.{end_inv, end_ready}
use Rattle.session_meaning.proofs.Obstacles.{MaybeKept, obstacle_kept}
use Rattle.session_meaning.proofs.TableMakers.{world_owned}

pub of_part : (plan : Plan) (functions keys : Names) (w : World) (call : ℕ) → calls_of plan functions w call ≡ true → OfPart plan functions keys w call
of_part plan functions keys w call i = let r = passes_on plan functions w.table.records call i in record { is_kept = i; stands = (numbers_stand plan functions keys w).calls call r.0 r.1 i }

-- ---- Makers and holders.

each_of : {A : Type 0} (test : ℕ → Bool) (P : ℕ → Type 0) (f : A → ℕ) (xs : List A) → ((n : ℕ) → test n ≡ true → P n) → list_all (λ x. test (f x)) xs ≡ true → AllByRecursion (λ x. P (f x)) xs
each_of test P f [] go h = tt
each_of test P f (x ∷ xs) go h = let p = and_parts (test (f x)) (list_all (λ x. test (f x)) xs) h in (go (f x) p.0, each_of test P f xs go p.1)

object_of : (plan : Plan) (functions keys : Names) (w : World) (o : Object) → held_on (part_of plan functions keys w) o ≡ true → ObjectOfPart plan functions keys w o
object_of plan functions keys w o h =
    let calls = calls_of plan functions w in
    let p = and_parts (held_by calls o.region) (list_all (λ e. calls e.0) o.history) h in
    record {
      makers = each_of calls (OfPart plan functions keys w) (λ e. e.0) o.history (of_part plan functions keys w) p.1;
      holders = each_of calls (OfPart plan functions keys w) (λ n. n) (holders o.region writes) (of_part plan functions keys w) p.0;
    }

among : (plan : Plan) (functions keys : Names) (w : World) (os : List Object) (key : ℕ) (o : Object) → held_among (part_of plan functions keys w) os ≡ true → slice_get os key ≡ Some o → is_key_of plan keys key ≡ true → ObjectOfPart plan functions keys w o
among plan functions keys w os key o h e k =
    let part = part_of plan functions keys w in
    object_of plan functions keys w o (all_at (held_on part) _ (rank part.keys key) o h (get_kept part.keys os key k ∙ e))

pub makers_of_part : (plan : Plan) (functions keys : Names) (es : List Event) (w : World) → Closed plan functions keys → Worlds plan es w → MakersOfPart plan functions keys w
makers_of_part plan functions keys es w closed made =
    let part = part_of plan functions keys w in
    let inv = end_inv plan functions keys es w closed made in
    record {
      locals = λ host key os o at e k. among plan functions keys w os key o (all_at (held_among part) w.locals host os inv.held.locals at) e k;
      globals = λ key o e k. among plan functions keys w w.globals key o inv.held.globals e k;
      table = world_owned plan functions keys es w made;
    }

-- ---- Parents and requests.

pub kin_of_part : (plan : Plan) (functions keys : Names) (es : List Event) (w : World) → Closed plan functions keys → Worlds plan es w → KinOfPart plan functions keys w
kin_of_part plan functions keys es w closed made =
    record {
      parents = λ call parent r e i h. like call parent r e i ((kin call r e).parent parent h);
      requests = λ call r e i. like call r.request r e i (kin call r e).request;
    }
  where
    part : Part
    part = part_of plan functions keys w

    kin : Kin part.functions w.table.records
    kin = (end_inv plan functions keys es w closed made).kin

    like : (call other : ℕ) (r : CallRecord) → slice_get w.table.records call ≡ Some r → part.calls call ≡ true → Like part.functions w.table.records other r.function → OfPart plan functions keys w other
    like call other r e i l =
        of_part plan functions keys w other (sym (agrees_part plan functions keys w other l.0 l.1) ∙ l.2 ∙ agrees_part plan functions keys w call r e ∙ i)

-- ---- Whom a reason names.

abbrev pub NamesKept : Part → World → Option Why → Type 0
NamesKept part w (Some (Holder holder)) = part.calls holder ≡ true
NamesKept part w (Some (Child child)) = (part.calls child ≡ true) ⊎ (child ≡ length w.table.records)
NamesKept part w reason = Unit {0}

abbrev reason_in : (CallRecord → Option Why) → Option CallRecord → Option Why
reason_in f o = elim o [ None ↦ Some NoCall | Some r ↦ f r ]

abbrev open_in : (Open → Option Why) → Option Open → Option Why
open_in f o = elim o [ None ↦ Some NotOpen | Some x ↦ f x ]

abbrev end_in : Option Ended → Option Why
end_in e = elim e [ None ↦ Some NotEnded | Some x ↦ None ]

abbrev ask_in : World → ℕ → Open → Option (State × Question) → Option Why
ask_in w call o a = elim a [ None ↦ Some HasEnded | Some x ↦ option_map why_of (obstacle w call o.host x.1) ]

obstacle_named : (part : Part) (w : World) (o : Option Obstacle) → MaybeKept part w o → NamesKept part w (option_map why_of o)
obstacle_named part w None h = tt
obstacle_named part w (Some (held ch holder)) h = h.1
obstacle_named part w (Some (unfinished child)) h = h

pub reason_kept : (part : Part) (w : World) (e : Event) → Ready part w → part.calls (call_of e) ≡ true → NamesKept part w (why w e)
reason_kept part w (Take call host) rd i = by (slice_get w.table.records call)
  where
    at : (b c : Bool) → NamesKept part w (cond b (cond c None (Some NotQueued)) (Some NoHost))
    at true true = tt
    at true false = tt
    at false c = tt

    by : (o : Option CallRecord) → NamesKept part w (reason_in (λ r. why_take w r host) o)
    by None = tt
    by (Some r) = at (nat_lt host w.table.hosts) (is_queued r.state)
reason_kept part w (End call) rd i = by (slice_get w.table.records call) (open_at w call)
  where
    at : (e : Option Ended) → NamesKept part w (end_in e)
    at None = tt
    at (Some e) = tt

    opened : (o : Option Open) → NamesKept part w (open_in why_end o)
    opened None = tt
    opened (Some o) = at (ended o)

    by : (r : Option CallRecord) (o : Option Open) → NamesKept part w (reason_in (λ r. open_in why_end o) r)
    by None o = tt
    by (Some r) o = opened o
reason_kept part w (Ask call) rd i = by (slice_get w.table.records call)
  where
    at : (o : Open) → open_at w call ≡ Some o → (a : Option (State × Question)) → asking o.machine ≡ a → NamesKept part w (ask_in w call o a)
    at o e None f = tt
    at o e (Some a) f =
        let own = subst (λ b. Own part b o) i (rd.apart.own call o e) in
        obstacle_named part w (obstacle w call o.host a.1) (obstacle_kept part w call o.host a.1 rd.apart.fit rd.apart.held i (own.asks a.0 a.1 f))

    opened : (o : Option Open) → open_at w call ≡ o → NamesKept part w (open_in (why_ask w call) o)
    opened None e = tt
    opened (Some o) e = at o e (asking o.machine) refl

    by : (r : Option CallRecord) → NamesKept part w (reason_in (λ r. why_open w call (why_ask w call)) r)
    by None = tt
    by (Some r) = opened (open_at w call) refl

pub holder_of_part : (plan : Plan) (functions keys : Names) (es : List Event) (w : World) (e : Event) (holder : ℕ) → Closed plan functions keys → Worlds plan es w → calls_of plan functions w (call_of e) ≡ true → why w e ≡ Some (Holder holder) → OfPart plan functions keys w holder
holder_of_part plan functions keys es w e holder closed made i reason =
    let part = part_of plan functions keys w in
    of_part plan functions keys w holder (subst (NamesKept part w) reason (reason_kept part w e (end_ready plan functions keys es w closed made) i))
