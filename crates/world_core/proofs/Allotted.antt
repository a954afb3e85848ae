-- Each record of a world has the fuel and the room of its function.
use Rattle.std.proofs.Common.{◌≡◌, ◌⊎◌, inl, inr, ℕ, ◌<◌, Bool, true, false, cond, List, [], ◌∷◌, ◌++◌, Option, Some, None, refl, sym, ap, ◌∙◌, length, slice_get, option_map, unwrap_or, subst, fold, arith}
use Rattle.std.proofs.lemmas.List.{length-map}
use Rattle.std.proofs.lemmas.Option.{slice_get-map}
use Rattle.faaslet_meaning.specs.declared.call.Callable.{Callable}
use Rattle.faaslet_meaning.specs.declared.call.CallRecord.{CallRecord}
use Rattle.faaslet_meaning.specs.declared.call.CallState.TheVariants.{Taken}
use Rattle.faaslet_meaning.specs.declared.grant.Channel.{Channel}
use Rattle.faaslet_meaning.specs.declared.grant.Channel.TheVariants.{Local, Global, Table as OnTable}
use Rattle.session_meaning.specs.declared.event.Event.{Event}
use Rattle.session_meaning.specs.declared.event.Event.TheVariants.{Take, Ask, End}
use Rattle.faaslet_meaning.specs.CallState.{State}
use Rattle.faaslet_meaning.specs.Channels.{Entry, Operation, Question, Reply, entry, on_region}
use Rattle.faaslet_meaning.specs.Lists.{changed}
use Rattle.faaslet_meaning.specs.Records.{takes}
use Rattle.faaslet_meaning.specs.Table as table
use Rattle.faaslet_meaning.specs.Table.{Table, child_record, finished_state, has_room, one_more_child, queued_record, submit}
use Rattle.session_meaning.specs.Events.{Worlds, entries_now, open_at, step}
use Rattle.session_meaning.specs.OpenCall.{Ended, Open, asking, ended}
use Rattle.session_meaning.specs.Plan.{NamedFunction, Plan, Request, callable_of, callables}
use Rattle.session_meaning.specs.WellFormed.{WellFormed}
use Rattle.session_meaning.specs.World.{World, entered, first_world, requested, start}
use Rattle.session_meaning.proofs.Invariants.{Back, changed_back}
use Rattle.session_meaning.proofs.Later.{push_before}
use Rattle.session_meaning.proofs.OpenCalls.{calls_open}
use Rattle.world_core.proofs.Starts.{function_there}
use Rattle.session_meaning.proofs.OneStep.{asked_at, asked_of, finished_at, finished_of, taken_by}

-- what is known of a function by its number
abbrev pub known : List Callable → ℕ → Callable
known fs n = unwrap_or (slice_get fs n) (record { fuel = 0; room = 0; channels = 0 })

pub record IsAllotted (fs : List Callable) (r : CallRecord) : Type 0 where
  pub fuel : r.fuel ≡ (known fs r.function).fuel
  pub room : r.room ≡ (known fs r.function).room

abbrev pub Allotted : Table → Type 0
Allotted t = (n : ℕ) (r : CallRecord) → slice_get t.records n ≡ Some r → IsAllotted t.functions r

as_before : (fs : List Callable) (x y : CallRecord) → y.fuel ≡ x.fuel → y.room ≡ x.room → y.function ≡ x.function → IsAllotted fs x → IsAllotted fs y
as_before fs x y fuel room function h =
    record {
      fuel = fuel ∙ h.fuel ∙ ap (λ f. (known fs f).fuel) (sym function);
      room = room ∙ h.room ∙ ap (λ f. (known fs f).room) (sym function);
    }

changed_allotted : (t : Table) (n : ℕ) (f : CallRecord → CallRecord) → ((r : CallRecord) → (f r).fuel ≡ r.fuel) → ((r : CallRecord) → (f r).room ≡ r.room) → ((r : CallRecord) → (f r).function ≡ r.function) → Allotted t → Allotted (record t { records = changed t.records n f })
changed_allotted t n f fuel room function all m y e = by (changed_back t.records n f m y e)
  where
    by : Back t.records n f m y → IsAllotted t.functions y
    by (inl k) = all m y k
    by (inr k) =
        let x = k.1.0 in
        as_before t.functions x y (ap (λ z. z.fuel) k.1.2 ∙ fuel x) (ap (λ z. z.room) k.1.2 ∙ room x) (ap (λ z. z.function) k.1.2 ∙ function x) (all m x k.1.1)

more_allotted : (t : Table) (x : CallRecord) → IsAllotted t.functions x → Allotted t → Allotted (record t { records = t.records ++ x ∷ [] })
more_allotted t x h all m y e = by (push_before t.records x m y e)
  where
    by : (slice_get t.records m ≡ Some y) ⊎ ((m ≡ length t.records) × (y ≡ x)) → IsAllotted t.functions y
    by (inl k) = all m y k
    by (inr k) = as_before t.functions x y (ap (λ z. z.fuel) k.1) (ap (λ z. z.room) k.1) (ap (λ z. z.function) k.1) h

submit_allotted : (t : Table) (m call f : ℕ) (input : List ℕ) → Allotted t → Allotted (table.after t m (submit call f input))
submit_allotted t m call f input all = by (slice_get t.records call)
  where
    room : (p : CallRecord) (b : Bool) → Allotted (cond b (record t { records = changed t.records call one_more_child ++ child_record t call p f input ∷ [] }) t)
    room p true = more_allotted (record t { records = changed t.records call one_more_child }) (child_record t call p f input) (record { fuel = refl; room = refl }) (changed_allotted t call one_more_child (λ r. refl) (λ r. refl) (λ r. refl) all)
    room p false = all

    by : (o : Option CallRecord) → Allotted (elim o as (λ o. Table) [ None ↦ t | Some p ↦ cond (has_room t p f input) (record t { records = changed t.records call one_more_child ++ child_record t call p f input ∷ [] }) t ])
    by None = all
    by (Some p) = room p (has_room t p f input)

entered_allotted : (w : World) (call host : ℕ) (ch : Channel) (op : Operation) (r : Reply) → Allotted w.table → Allotted (entered call host w (entry ch op r)).table
entered_allotted w call host (Local key) (on_region op) r p = p
entered_allotted w call host (Local key) (Operation.submit f input) r p = p
entered_allotted w call host (Local key) (Operation.look c) r p = p
entered_allotted w call host (Global key) (on_region op) r p = p
entered_allotted w call host (Global key) (Operation.submit f input) r p = p
entered_allotted w call host (Global key) (Operation.look c) r p = p
entered_allotted w call host OnTable (Operation.submit f input) r p = submit_allotted w.table call call f input p
entered_allotted w call host OnTable op r p = p

entries_allotted : (w : World) (call host : ℕ) (es : List Entry) → Allotted w.table → Allotted (fold (entered call host) w es).table
entries_allotted w call host [] p = p
entries_allotted w call host (e ∷ es) p = entries_allotted (entered call host w e) call host es (entered_allotted w call host e.channel e.operation e.reply p)

step_allotted : (plan : Plan) (w : World) (e : Event) → Allotted w.table → Allotted (step plan w e).table
step_allotted plan w (Take call host) all = by (slice_get w.table.records call)
  where
    by : (o : Option CallRecord) → Allotted (taken_by plan w call host o).table
    by None = all
    by (Some r) = changed_allotted w.table call (λ y. record y { state = Taken host call (takes w.table.records) }) (λ r. refl) (λ r. refl) (λ r. refl) all
step_allotted plan w (End call) all = by (open_at w call)
  where
    at : (o : Open) (e : Option Ended) → Allotted (finished_of w call o e).table
    at o None = all
    at o (Some e) = changed_allotted w.table call (λ y. record y { state = finished_state y.state e.outcome e.used e.output o.counts }) (λ r. refl) (λ r. refl) (λ r. refl) all

    by : (o : Option Open) → Allotted (finished_at w call o).table
    by None = all
    by (Some o) = at o (ended o)
step_allotted plan w (Ask call) all = by (open_at w call)
  where
    at : (o : Open) (a : Option (State × Question)) → Allotted (asked_of w call o a).table
    at o None = all
    at o (Some a) = entries_allotted w call o.host (entries_now w call o.host a.1) all

    by : (o : Option Open) → Allotted (asked_at w call o).table
    by None = all
    by (Some o) = at o (asking o.machine)

events_allotted : (plan : Plan) (w : World) (es : List Event) → Allotted w.table → Allotted (fold (step plan) w es).table
events_allotted plan w [] all = all
events_allotted plan w (e ∷ es) all = events_allotted plan (step plan w e) es (step_allotted plan w e all)

requests_allotted : (w : World) (rs : List Request) → Allotted w.table → Allotted (fold requested w rs).table
requests_allotted w [] all = all
requests_allotted w (r ∷ rs) all = requests_allotted (requested w r) rs (more_allotted w.table (queued_record w.table r.function r.host r.input) (record { fuel = refl; room = refl }) all)

pub world_allotted : (plan : Plan) (events : List Event) (w : World) → Worlds plan events w → Allotted w.table
world_allotted plan events w made =
    subst (λ v. Allotted v.table) (sym made.world_so) (events_allotted plan (first_world plan) events (requests_allotted (start plan) plan.requests (λ n r e. let no : ⊥ = cc in absurd no)))

-- what is known of a function of the plan

pub known_is : (plan : Plan) (fs : List Callable) (n : ℕ) (g : NamedFunction) → fs ≡ callables plan → slice_get plan.functions n ≡ Some g → known fs n ≡ callable_of g
known_is plan fs n g same at =
    ap (λ fs. unwrap_or (slice_get fs n) (record { fuel = 0; room = 0; channels = 0 })) same
    ∙ ap (λ o. unwrap_or o (record { fuel = 0; room = 0; channels = 0 })) (slice_get-map callable_of plan.functions n ∙ ap (option_map callable_of) at)

-- of a call of this function
pub has_allotted : (plan : Plan) (events : List Event) (w : World) (call : ℕ) (r : CallRecord) (g : NamedFunction) → WellFormed plan → Worlds plan events w → slice_get w.table.records call ≡ Some r → slice_get plan.functions r.function ≡ Some g → (r.fuel ≡ g.function.fuel) × (r.room ≡ g.function.room)
has_allotted plan events w call r g formed made here at =
    let is = world_allotted plan events w made call r here in
    let same = known_is plan w.table.functions r.function g (calls_open plan events w formed made).functions at in
    (is.fuel ∙ ap (λ k. k.fuel) same, is.room ∙ ap (λ k. k.room) same)

-- and a record's function is in the plan
pub function_of : (plan : Plan) (events : List Event) (w : World) (call : ℕ) (r : CallRecord) → WellFormed plan → Worlds plan events w → slice_get w.table.records call ≡ Some r → r.function < length w.table.functions → (g : NamedFunction) × (slice_get plan.functions r.function ≡ Some g)
function_of plan events w call r formed made here l =
    let many = ap length (calls_open plan events w formed made).functions in
    let same = length-map plan.functions callable_of in
    function_there plan r.function (omega (arith, l, many, same))
