-- Of a well-formed plan the child that a reason names is there, and so it is a kept call where the event is on one.
use Rattle.std.proofs.Common.{◌≡◌, ◌⊎◌, inl, inr, ℕ, ◌<◌, Bool, true, false, cond, List, [], ◌∷◌, Option, Some, None, refl, sym, ap, ◌∙◌, length, slice_get, option_map, filter_map, unwrap_or, subst, arith}
use Rattle.std.specs.Prelude.{nat_lt}
use Rattle.std.specs.List.{cons_option}
use Rattle.faaslet_meaning.specs.declared.call.CallRecord.{CallRecord}
use Rattle.faaslet_meaning.specs.declared.grant.Channel.{Channel}
use Rattle.faaslet_meaning.specs.declared.grant.Channel.TheVariants.{Local, Global, Table as OnTable}
use Rattle.session_meaning.specs.declared.event.Event.{Event}
use Rattle.session_meaning.specs.declared.event.Event.TheVariants.{Take, Ask, End}
use Rattle.session_meaning.specs.declared.event.Why.{Why}
use Rattle.session_meaning.specs.declared.event.Why.TheVariants.{NoCall, NoHost, NotQueued, NotOpen, NotEnded, HasEnded, Child}
use Rattle.faaslet_meaning.specs.Channels.{Operation, on_region, Question, ask, fills, pulls, pushes}
use Rattle.faaslet_meaning.specs.CallState.{State, runs, asks, over, lost, fresh_state}
use Rattle.faaslet_meaning.specs.Lists.{first, passes_at}
use Rattle.faaslet_meaning.specs.Records.{is_child, is_finished, is_queued, child_of}
use Rattle.faaslet_meaning.specs.Region.{Kind, halves}
use Rattle.faaslet_meaning.specs.Runnable.{Runnable}
use Rattle.faaslet_meaning.specs.Runs.{invocation}
use Rattle.faaslet_meaning.specs.Valid.{Valid}
use Rattle.faaslet_meaning.proofs.CallFresh.{fresh_formed}
use Rattle.faaslet_meaning.proofs.CallParts.{formed_parts}
use Rattle.session_meaning.specs.Plan.{Plan, Names, Closed}
use Rattle.session_meaning.specs.OpenCall.{Open, Machine, stands, is_broken, asking, Ended, ended}
use Rattle.session_meaning.specs.World.{World}
use Rattle.session_meaning.specs.WorldTold.{told_at}
use Rattle.session_meaning.specs.WellFormed.{WellFormed}
use Rattle.session_meaning.specs.Events.{Obstacle, held, unfinished, unfinished_child, lock_on, obstacle, open_at, why, why_of, why_take, why_ask, why_end, why_open, Worlds}
use Rattle.session_meaning.specs.Cut.{call_of, calls_of, part_of}
use Rattle.session_meaning.specs.PartMakers.{OfPart}
use Rattle.session_meaning.proofs.Tables.{child_is, found_at}
use Rattle.session_meaning.proofs.TwoWorlds.{get_index}
use Rattle.session_meaning.proofs.WorldEnds.{end_ready}
use Rattle.session_meaning.proofs.CallsAlike.{MachineOk, OpenOk}
use Rattle.session_meaning.proofs.CallsRan.{all_get, world_ok}
use Rattle.session_meaning.proofs.WellFits.{calls_fit, modules_fit}
use Rattle.session_meaning.proofs.PartMakers.{NamesKept, of_part, reason_kept}
use Rattle.session_meaning.proofs.ChildrenThere.{goes_fit, stage_looks, child_found, world_has_children}

-- a question looks at children that are there
abbrev Looks : World → ℕ → Question → Type 0
Looks w call (ask OnTable (Operation.look child)) = (k : ℕ) × (child_of w.table.records call child ≡ Some k)
Looks w call q = Unit {0}

looks : (plan : Plan) (es : List Event) (w : World) (call : ℕ) (o : Open) → WellFormed plan → Worlds plan es w → OpenOk plan w call o → (a : State × Question) → asking o.machine ≡ Some a → Looks w call a.1
looks plan es w call o fine made h a e = by o.machine h.machine e
  where
    at : (s : State) (q : Question) → MachineOk h.function.function h.r.input (told_at plan w o.host call) w.table.records call h.r.children (stands (asks s q)) → Looks w call q
    at s (ask OnTable (Operation.look child)) came =
        let j = invocation h.function.function h.r.input in
        let valid = (all_get (λ f. Valid f.function.code × Runnable f.function.code) plan.functions h.r.function h.function (modules_fit plan fine) h.function_so).0 in
        let fit = goes_fit came.goes (formed_parts j (fresh_state came.config) (fresh_formed h.function.function h.r.input came.config valid came.made_so)) in
        let below = stage_looks j s child s.stage fit.2 fit.1 in
        let same = ap length came.ok.0.2 in
        let few = came.kids_ok.0 in
        child_found w.table.records call child (world_has_children plan es w made call h.r h.here child (omega (arith, below, same, few)))
    at s (ask OnTable (Operation.submit f input)) came = tt
    at s (ask OnTable (on_region op)) came = tt
    at s (ask (Local key) op) came = tt
    at s (ask (Global key) op) came = tt
    at s (fills key n) came = tt
    at s (pulls key off len) came = tt
    at s (pushes key off len) came = tt

    by : (m : Machine) → MachineOk h.function.function h.r.input (told_at plan w o.host call) w.table.records call h.r.children m → asking m ≡ Some a → Looks w call a.1
    by (stands (asks s q)) came i = let same : ◌≡◌ {A = State × Question} (s, q) a = cc in subst (λ x. Looks w call x.1) same (at s q came)
    by (stands (runs s)) came i = let no : ⊥ = cc in absurd no
    by (stands (over s x)) came i = let no : ⊥ = cc in absurd no
    by (stands lost) came i = let no : ⊥ = cc in absurd no
    by (is_broken k) came i = let no : ⊥ = cc in absurd no

-- ---- An obstacle names a record, where it names a child.

abbrev Below : World → Option Obstacle → Type 0
Below w (Some (unfinished child)) = child < length w.table.records
Below w o = Unit {0}

lock_below : (w : World) (call host : ℕ) (ch : Channel) (k : Kind) → Below w (lock_on w call host ch k)
lock_below w call host (Local key) k = by _
  where
    by : (o : Option ℕ) → Below w (option_map (λ holder. held (Local key) holder) o)
    by None = tt
    by (Some n) = tt
lock_below w call host (Global key) k = by _
  where
    by : (o : Option ℕ) → Below w (option_map (λ holder. held (Global key) holder) o)
    by None = tt
    by (Some n) = tt
lock_below w call host OnTable k = tt

first_below : (w : World) (call host : ℕ) (hs : List (Channel × Kind)) → Below w (first (filter_map (λ x. lock_on w call host x.0 x.1) hs))
first_below w call host [] = tt
first_below w call host (x ∷ xs) = by (lock_on w call host x.0 x.1) (lock_below w call host x.0 x.1) (first_below w call host xs)
  where
    by : (o : Option Obstacle) → Below w o → Below w (first (filter_map (λ x. lock_on w call host x.0 x.1) xs)) → Below w (first (cons_option o (filter_map (λ x. lock_on w call host x.0 x.1) xs)))
    by None a b = b
    by (Some y) a b = a

child_below : (w : World) (call child : ℕ) → Looks w call (ask OnTable (Operation.look child)) → Below w (obstacle w call 0 (ask OnTable (Operation.look child)))
child_below w call child h = subst (λ o. Below w (unfinished_child w.table.records (unwrap_or o (length w.table.records)))) (sym h.1) (by (passes_at (λ r. is_finished r.state) w.table.records h.0))
  where
    below : h.0 < length w.table.records
    below = let f = found_at (is_child call child) w.table.records h.0 (sym (child_is w.table.records call child) ∙ h.1) in (get_index w.table.records h.0 f.0 f.1).1

    by : (b : Bool) → Below w (cond b None (Some (unfinished h.0)))
    by true = tt
    by false = below

obstacle_below : (w : World) (call host : ℕ) (q : Question) → Looks w call q → Below w (obstacle w call host q)
obstacle_below w call host (ask OnTable (Operation.look child)) h = child_below w call child h
obstacle_below w call host (ask OnTable (Operation.submit f input)) h = tt
obstacle_below w call host (ask OnTable (on_region op)) h = tt
obstacle_below w call host (ask (Local key) (on_region op)) h = first_below w call host (halves (ask (Local key) (on_region op)))
obstacle_below w call host (ask (Global key) (on_region op)) h = first_below w call host (halves (ask (Global key) (on_region op)))
obstacle_below w call host (ask (Local key) (Operation.submit f input)) h = tt
obstacle_below w call host (ask (Local key) (Operation.look c)) h = tt
obstacle_below w call host (ask (Global key) (Operation.submit f input)) h = tt
obstacle_below w call host (ask (Global key) (Operation.look c)) h = tt
obstacle_below w call host (fills key n) h = first_below w call host (halves (fills key n))
obstacle_below w call host (pulls key off len) h = first_below w call host (halves (pulls key off len))
obstacle_below w call host (pushes key off len) h = first_below w call host (halves (pushes key off len))

-- ---- And so does a reason.

abbrev Named : World → Option Why → Type 0
Named w (Some (Child child)) = child < length w.table.records
Named w reason = Unit {0}

named_by : (w : World) (o : Option Obstacle) → Below w o → Named w (option_map why_of o)
named_by w None h = tt
named_by w (Some (held ch holder)) h = tt
named_by w (Some (unfinished child)) h = h

child_there : (plan : Plan) (es : List Event) (w : World) (e : Event) → WellFormed plan → Worlds plan es w → Named w (why w e)
child_there plan es w (Take call host) fine made = by (slice_get w.table.records call)
  where
    at : (b c : Bool) → Named w (cond b (cond c None (Some NotQueued)) (Some NoHost))
    at true true = tt
    at true false = tt
    at false c = tt

    by : (o : Option CallRecord) → Named w (elim o as (λ o. Option Why) [ None ↦ Some NoCall | Some r ↦ why_take w r host ])
    by None = tt
    by (Some r) = at (nat_lt host w.table.hosts) (is_queued r.state)
child_there plan es w (End call) fine made = by (slice_get w.table.records call)
  where
    at : (e : Option Ended) → Named w (elim e as (λ e. Option Why) [ None ↦ Some NotEnded | Some x ↦ None ])
    at None = tt
    at (Some e) = tt

    opened : (o : Option Open) → Named w (elim o as (λ o. Option Why) [ None ↦ Some NotOpen | Some o ↦ why_end o ])
    opened None = tt
    opened (Some o) = at (ended o)

    by : (o : Option CallRecord) → Named w (elim o as (λ o. Option Why) [ None ↦ Some NoCall | Some r ↦ why_open w call why_end ])
    by None = tt
    by (Some r) = opened (open_at w call)
child_there plan es w (Ask call) fine made = by (slice_get w.table.records call)
  where
    at : (o : Open) → open_at w call ≡ Some o → (a : Option (State × Question)) → asking o.machine ≡ a → Named w (elim a as (λ a. Option Why) [ None ↦ Some HasEnded | Some a ↦ option_map why_of (obstacle w call o.host a.1) ])
    at o e None i = tt
    at o e (Some a) i = named_by w (obstacle w call o.host a.1) (obstacle_below w call o.host a.1 (looks plan es w call o fine made (((world_ok plan es w (calls_fit plan fine) made).calls call).opens o e) a i))

    opened : (o : Option Open) → open_at w call ≡ o → Named w (elim o as (λ o. Option Why) [ None ↦ Some NotOpen | Some o ↦ why_ask w call o ])
    opened None e = tt
    opened (Some o) e = at o e (asking o.machine) refl

    by : (o : Option CallRecord) → Named w (elim o as (λ o. Option Why) [ None ↦ Some NoCall | Some r ↦ why_open w call (why_ask w call) ])
    by None = tt
    by (Some r) = opened (open_at w call) refl

pub child_of_part : (plan : Plan) (functions keys : Names) (es : List Event) (w : World) (e : Event) (child : ℕ) → WellFormed plan → Closed plan functions keys → Worlds plan es w → calls_of plan functions w (call_of e) ≡ true → why w e ≡ Some (Child child) → OfPart plan functions keys w child
child_of_part plan functions keys es w e child fine closed made i reason = by (subst (NamesKept (part_of plan functions keys w) w) reason (reason_kept (part_of plan functions keys w) w e (end_ready plan functions keys es w closed made) i)) (subst (Named w) reason (child_there plan es w e fine made))
  where
    by : (calls_of plan functions w child ≡ true) ⊎ (child ≡ length w.table.records) → child < length w.table.records → OfPart plan functions keys w child
    by (inl k) l = of_part plan functions keys w child k
    by (inr k) l = let no : ⊥ = omega (arith, k, l) in absurd no
