-- Each event of a trace leaves less to do, so each seed has a schedule.
use Rattle.std.proofs.Common.{◌≡◌, ℕ, zero, suc, ◌+◌, ◌-◌, ◌<◌, ◌≤◌, Bool, true, false, cond, List, [], ◌∷◌, ◌++◌, Option, Some, None, refl, sym, ap, ◌∙◌, length, slice_get, option_map, replicate, fold, subst, arith}
use Rattle.std.specs.Prelude.{nat_lt}
use Rattle.std.proofs.Math.Nat.{mod-lt}
use Rattle.std.proofs.lemmas.Bool.{and_parts, ltb-true}
use Rattle.std.proofs.lemmas.List.{append-nil}
use Rattle.faaslet_meaning.specs.declared.call.CallRecord.{CallRecord}
use Rattle.faaslet_meaning.specs.declared.call.CallState.TheVariants.{Taken}
use Rattle.session_meaning.specs.declared.event.Event.{Event}
use Rattle.session_meaning.specs.declared.event.Event.TheVariants.{Take, Ask, End}
use Rattle.session_meaning.specs.declared.event.Why.{Why}
use Rattle.session_meaning.specs.declared.event.Why.TheVariants.{NoCall, NoHost, NotQueued, NotOpen, NotEnded, HasEnded}
use Rattle.faaslet_meaning.specs.declared.grant.Channel.{Channel}
use Rattle.faaslet_meaning.specs.declared.grant.Channel.TheVariants.{Local, Global, Table as OnTable}
use Rattle.faaslet_meaning.specs.declared.outcome.Outcome.{Outcome}
use Rattle.faaslet_meaning.specs.Channels.{RegionOperation, Operation, on_region, Reply, Question, ask, fills, pulls, pushes, Entry, entry, entries}
use Rattle.faaslet_meaning.specs.Bounds.{bound, steps_left}
use Rattle.faaslet_meaning.specs.CallState.{State, runs, asks, over, lost}
use Rattle.faaslet_meaning.specs.Call.{replied}
use Rattle.faaslet_meaning.specs.Lists.{changed}
use Rattle.faaslet_meaning.specs.Records.{is_queued, takes}
use Rattle.faaslet_meaning.specs.Table.{Table, has_room, child_record, one_more_child, finished_state, take_this, finish, submit, look}
use Rattle.faaslet_meaning.proofs.Bounded.{reply_bound}
use Rattle.session_meaning.specs.Plan.{Key, NamedFunction, Plan, Names, is_function_of, is_key_of, Closed}
use Rattle.session_meaning.specs.OpenCall.{Machine, stands, is_broken, Open, opened, asking, answered, Ended, ended}
use Rattle.session_meaning.specs.World.{World, filled, on_local, on_global, on_table, entered, first_world}
use Rattle.session_meaning.specs.Events.{answer, entries_now, obstacle, open_at, open_of, put_call, took, asked, asked_by, finished, finished_by, why, why_of, why_take, why_ask, why_end, why_open, step, Worlds}
use Rattle.session_meaning.specs.Schedule.{offered, next_of, number_of, pick, Picks, stops, picks, Schedule}
use Rattle.session_meaning.specs.WellFormed.{WellFormed}
use Rattle.session_meaning.proofs.CallsAlike.{WorldOk}
use Rattle.session_meaning.proofs.CallsRan.{world_ok, worlds_more}
use Rattle.session_meaning.proofs.CutSteps.{below_there}
use Rattle.session_meaning.proofs.Kept.{changed_id, length_changed, get_changed_here}
use Rattle.session_meaning.proofs.Later.{push_stays, submitted_by}
use Rattle.session_meaning.proofs.Schedules.{may_stand}
use Rattle.session_meaning.proofs.TwoWorlds.{get_index}
use Rattle.session_meaning.proofs.WorldInvariants.{get_open}
use Rattle.session_meaning.proofs.WellFits.{calls_fit}
use Rattle.session_meaning.proofs.WorldEnds.{end_inv}
use Rattle.session_meaning.proofs.TraceWeights.{times, times_more, times_less, machine_cost, cost, most, steps_cost, opened_cost, room, room_some, height, weight, weigh, weigh_more, weigh_changed, weigh_alike, weigh_push, filled_at}

-- ---- What each event leaves to do.

abbrev left_to : Plan → World → ℕ
left_to plan w = weigh (most plan) w.table.records w.calls

taken_weight : (m : ℕ) (r : CallRecord) (host call order : ℕ) (o : Option Open) → ((x : Open) → o ≡ Some x → cost x ≤ m) → weight m (record r { state = Taken host call order }) o ≤ times m (room m (height r)) + 1
taken_weight m r host call order None few = omega arith
taken_weight m r host call order (Some x) few = let l = times_more (cost x) m (room m (height r)) (few x refl) in omega (arith, l)

take_less : (plan : Plan) (w : World) (call host : ℕ) (r : CallRecord) (o : Option Open) → slice_get w.table.records call ≡ Some r → is_queued r.state ≡ true → open_at w call ≡ None → ((x : Open) → o ≡ Some x → cost x ≤ most plan) → left_to plan (put_call (on_table w call (take_this call host call)) call o) < left_to plan w
take_less plan w call host r o e queued closed few =
    let m = most plan in
    let rs = w.table.records in
    let order = takes rs in
    let f : CallRecord → CallRecord = λ r. record r { state = Taken host call order } in
    let n = length (changed rs call f) in
    let long : n ≡ length rs = length_changed rs call f in
    let below = (get_index rs call r e).1 in
    let there : slice_get (filled n w.calls) call ≡ Some None = filled_at n w.calls call (omega (arith, long, below)) ∙ ap (λ x. Some x) closed in
    let k = weigh_changed m rs (filled n w.calls) call r None f (λ old. o) e there in
    let more = weigh_more m rs w.calls (n - length w.calls) in
    let whole : weight m r None ≡ times m (room m (height r)) + 2 = ap (λ b. cond b (times m (room m (height r)) + 2) 0) queued in
    let low = taken_weight m r host call order o few in
    omega (arith, k, more, whole, low)

end_less : (plan : Plan) (w : World) (call host bench order : ℕ) (r : CallRecord) (o : Open) (x : Outcome) (used : ℕ) (output counts : List ℕ) → slice_get w.table.records call ≡ Some r → r.state ≡ Taken host bench order → open_at w call ≡ Some o → left_to plan (put_call (on_table w call (finish call x used output counts)) call None) < left_to plan w
end_less plan w call host bench order r o x used output counts e state_so opens =
    let m = most plan in
    let rs = w.table.records in
    let f : CallRecord → CallRecord = λ r. record r { state = finished_state r.state x used output counts } in
    let n = length (changed rs call f) in
    let long : n ≡ length rs = length_changed rs call f in
    let below = (get_index rs call r e).1 in
    let there : slice_get (filled n w.calls) call ≡ Some (Some o) = filled_at n w.calls call (omega (arith, long, below)) ∙ ap (λ x. Some x) opens in
    let k = weigh_changed m rs (filled n w.calls) call r (Some o) f (λ old. None) e there in
    let more = weigh_more m rs w.calls (n - length w.calls) in
    let none : weight m (f r) None ≡ 0 = ap (λ s. cond (is_queued (finished_state s x used output counts)) (times m (room m (height r)) + 2) 0) state_so in
    omega (arith, k, more, none)

-- what a question leaves, but for its call: at most a child more
record After (m : ℕ) (call : ℕ) (r : CallRecord) (o : Open) (w v : World) : Type 0 where
  pub caller : CallRecord
  pub here : slice_get v.table.records call ≡ Some caller
  pub same : height caller ≡ height r
  pub opens : slice_get v.calls call ≡ Some (Some o)
  pub few : weigh m v.table.records v.calls + 1 ≤ weigh m w.table.records w.calls + room m (height r)

single : (P : World → Type 0) (w : World) (call host : ℕ) (ch : Channel) (op : Operation) (r : Reply) → P w → ((r : Reply) → P (entered call host w (entry ch op r))) → P (fold (entered call host) w (entries (ask ch op) r))
single P w call host ch op Reply.want p h = p
single P w call host ch op Reply.done p h = h Reply.done
single P w call host ch op Reply.full p h = h Reply.full
single P w call host ch op Reply.chain_full p h = h Reply.chain_full
single P w call host ch op (Reply.present b) p h = h (Reply.present b)
single P w call host ch op (Reply.bytes bs) p h = h (Reply.bytes bs)
single P w call host ch op (Reply.number n) p h = h (Reply.number n)
single P w call host ch op (Reply.child n) p h = h (Reply.child n)
single P w call host ch op (Reply.finished o bs) p h = h (Reply.finished o bs)

module _ (m call host : ℕ) (r : CallRecord) (o : Open) (w : World) (at : slice_get w.table.records call ≡ Some r) (opens : slice_get w.calls call ≡ Some (Some o)) (sizes : length w.calls ≡ length w.table.records) where
  stays : (v : World) → v.table.records ≡ w.table.records → (n : ℕ) → v.calls ≡ filled n w.calls → After m call r o w v
  stays v rs n cs =
      let some = room_some m (height r) in
      let same = ap (λ x. weigh m x v.calls) rs ∙ ap (weigh m w.table.records) cs ∙ weigh_more m w.table.records w.calls (n - length w.calls) in
      record {
        caller = r;
        here = ap (λ x. slice_get x call) rs ∙ at;
        same = refl;
        opens = ap (λ x. slice_get x call) cs ∙ push_stays w.calls (replicate (n - length w.calls) None) call (Some o) opens;
        few = omega (arith, same, some);
      }

  none_more : w.calls ≡ filled 0 w.calls
  none_more = let none : 0 - length w.calls ≡ 0 = omega arith in sym (ap (λ k. w.calls ++ replicate k None) none ∙ append-nil w.calls)

  still : After m call r o w w
  still = stays w refl 0 none_more

  child_more : (f : ℕ) (input : List ℕ) → r.depth < 8 → After m call r o w (record w { table = record w.table { records = changed w.table.records call one_more_child ++ child_record w.table call r f input ∷ [] }; calls = filled (length (changed w.table.records call one_more_child ++ child_record w.table call r f input ∷ [])) w.calls })
  child_more f input deep =
      let rs = w.table.records in
      let x = child_record w.table call r f input in
      let ys = changed rs call one_more_child in
      let n = length (ys ++ x ∷ []) in
      let long = length_changed rs call one_more_child in
      let more = weigh_more m (ys ++ x ∷ []) w.calls (n - length w.calls) in
      let push = weigh_push m ys w.calls x (omega (arith, long, sizes)) in
      let alike = weigh_alike m rs w.calls call one_more_child (weight_alike m) in
      let high : height r ≡ suc (height x) = omega (arith, deep) in
      let bound : room m (height r) ≡ times m (room m (height x)) + 3 = ap (room m) high in
      record {
        caller = one_more_child r;
        here = push_stays ys (x ∷ []) call (one_more_child r) (get_changed_here rs call one_more_child ∙ ap (option_map one_more_child) at);
        same = refl;
        opens = push_stays w.calls (replicate (n - length w.calls) None) call (Some o) opens;
        few = omega (arith, more, push, alike, bound);
      }
    where
      weight_alike : (m : ℕ) (r : CallRecord) (c : Option Open) → weight m (one_more_child r) c ≡ weight m r c
      weight_alike m r None = refl
      weight_alike m r (Some o) = refl

  submit_after : (f : ℕ) (input : List ℕ) → After m call r o w (on_table w call (submit call f input))
  submit_after f input = subst (λ t. After m call r o w (record w { table = t; table_history = w.table_history ++ (call, submit call f input) ∷ []; calls = filled (length t.records) w.calls })) (sym (ap (submitted_by w.table call f input) at)) (by (has_room w.table r f input) refl)
    where
      as_world : World → Table → World
      as_world v t = record v { table = t; table_history = v.table_history ++ (call, submit call f input) ∷ []; calls = filled (length t.records) v.calls }

      moved : (v : World) → After m call r o w v → After m call r o w (record v { table_history = w.table_history ++ (call, submit call f input) ∷ [] })
      moved v a = record { caller = a.caller; here = a.here; same = a.same; opens = a.opens; few = a.few }

      deep : has_room w.table r f input ≡ true → r.depth < 8
      deep h = ltb-true r.depth 8 (and_parts _ (nat_lt r.depth 8) h).1

      by : (b : Bool) → has_room w.table r f input ≡ b → After m call r o w (as_world w (cond b (record w.table { records = changed w.table.records call one_more_child ++ child_record w.table call r f input ∷ [] }) w.table))
      by true h = let a = child_more f input (deep h) in record { caller = a.caller; here = a.here; same = a.same; opens = a.opens; few = a.few }
      by false h = stays (as_world w w.table) refl (length w.table.records) refl

  question_after : (q : Question) (a : Reply) → After m call r o w (fold (entered call host) w (entries q a))
  question_after (ask (Local key) (on_region op)) a = single (After m call r o w) w call host (Local key) (on_region op) a still (λ a. stays (on_local w host key call op) refl 0 none_more)
  question_after (ask (Global key) (on_region op)) a = single (After m call r o w) w call host (Global key) (on_region op) a still (λ a. stays (on_global w key call op) refl 0 none_more)
  question_after (ask (Local key) (Operation.submit f input)) a = single (After m call r o w) w call host (Local key) (Operation.submit f input) a still (λ a. still)
  question_after (ask (Local key) (Operation.look c)) a = single (After m call r o w) w call host (Local key) (Operation.look c) a still (λ a. still)
  question_after (ask (Global key) (Operation.submit f input)) a = single (After m call r o w) w call host (Global key) (Operation.submit f input) a still (λ a. still)
  question_after (ask (Global key) (Operation.look c)) a = single (After m call r o w) w call host (Global key) (Operation.look c) a still (λ a. still)
  question_after (ask OnTable (on_region op)) a = single (After m call r o w) w call host OnTable (on_region op) a still (λ a. still)
  question_after (ask OnTable (Operation.submit f input)) a = single (After m call r o w) w call host OnTable (Operation.submit f input) a still (λ a. submit_after f input)
  question_after (ask OnTable (Operation.look c)) a = single (After m call r o w) w call host OnTable (Operation.look c) a still (λ a. stays (on_table w call (look call c)) refl (length w.table.records) refl)
  question_after (fills key n) (Reply.bytes bs) = stays (on_local (on_global w key call (RegionOperation.send 0 n)) host key call (RegionOperation.fill bs)) refl 0 none_more
  question_after (pulls key off len) (Reply.bytes bs) = stays (on_local (on_global w key call (RegionOperation.send off len)) host key call (RegionOperation.take off bs)) refl 0 none_more
  question_after (pushes key off len) (Reply.bytes bs) = stays (on_global (on_local w host key call (RegionOperation.send off len)) key call (RegionOperation.put off bs)) refl 0 none_more
  question_after (fills key n) Reply.want = still
  question_after (fills key n) a = still
  question_after (pulls key off len) Reply.want = still
  question_after (pulls key off len) a = still
  question_after (pushes key off len) Reply.want = still
  question_after (pushes key off len) a = still

answered_cost : (o : Open) (s : State) (q : Question) (r : Reply) (es : List Entry) → asking o.machine ≡ Some (s, q) → cost (answered o s r es) < cost o
answered_cost o s q r es e = by o.machine e
  where
    by : (x : Machine) → asking x ≡ Some (s, q) → cost (answered o s r es) < machine_cost o.invocation x
    by (stands (asks t p)) i =
        let same : ◌≡◌ {A = State × Question} (t, p) (s, q) = cc in
        let less = reply_bound o.invocation s q r in
        let low = steps_cost o.invocation (steps_left (replied o.invocation s r)) (replied o.invocation s r) in
        let bounds : bound o.invocation (asks t p) ≡ bound o.invocation (asks s q) = ap (λ x. bound o.invocation (asks x.0 x.1)) same in
        omega (arith, less, low, bounds)
    by (stands (runs t)) i = let no : ⊥ = cc in absurd no
    by (stands (over t x)) i = let no : ⊥ = cc in absurd no
    by (stands lost) i = let no : ⊥ = cc in absurd no
    by (is_broken k) i = let no : ⊥ = cc in absurd no

ask_less : (plan : Plan) (w : World) (call : ℕ) (r : CallRecord) (o : Open) (s : State) (q : Question) → slice_get w.table.records call ≡ Some r → open_at w call ≡ Some o → length w.calls ≡ length w.table.records → asking o.machine ≡ Some (s, q) → left_to plan (asked w call o s q) < left_to plan w
ask_less plan w call r o s q at opens sizes e =
    let m = most plan in
    let reply = answer w call o.host q in
    let es = entries_now w call o.host q in
    let v = fold (entered call o.host) w es in
    let next = answered o s reply es in
    let a = question_after m call o.host r o w at (get_open w.calls call o opens) sizes q reply in
    let k = weigh_changed m v.table.records v.calls call a.caller (Some o) (λ r. r) (λ old. Some next) a.here a.opens in
    let same = ap (λ rs. weigh m rs (changed v.calls call (λ old. Some next))) (changed_id v.table.records call) in
    let less = times_less (cost next) (cost o) (room m (height a.caller)) (answered_cost o s q reply es e) in
    let rooms = ap (room m) a.same in
    let few = a.few in
    omega (arith, k, same, less, rooms, few)

-- ---- Each event that may stand.

abbrev no_names : Names
no_names name = false

no_key : (plan : Plan) (k : ℕ) → is_key_of plan no_names k ≡ false
no_key plan k = by (slice_get plan.keys k)
  where
    by : (o : Option Key) → elim o as (λ o. Bool) [ None ↦ false | Some x ↦ false ] ≡ false
    by None = refl
    by (Some x) = refl

no_function : (plan : Plan) (f : ℕ) → is_function_of plan no_names f ≡ false
no_function plan f = by (slice_get plan.functions f)
  where
    by : (o : Option NamedFunction) → elim o as (λ o. Bool) [ None ↦ false | Some x ↦ false ] ≡ false
    by None = refl
    by (Some x) = refl

nothing_closed : (plan : Plan) → Closed plan no_names no_names
nothing_closed plan n d h = record { grants = λ k g l. no_key plan _; callees = λ k g l. no_function plan _ }

opened_few : (plan : Plan) (r : CallRecord) (host : ℕ) (x : Open) → open_of plan r host ≡ Some x → cost x ≤ most plan
opened_few plan r host x e = by (slice_get plan.functions r.function) refl e
  where
    by : (o : Option NamedFunction) → slice_get plan.functions r.function ≡ o → option_map (λ f. opened f.function r.input host) o ≡ Some x → cost x ≤ most plan
    by None g i = let no : ⊥ = cc in absurd no
    by (Some f) g i = let same : opened f.function r.input host ≡ x = cc in subst (λ y. cost y ≤ most plan) same (opened_cost plan r.function f r.input host g)

some_same : {A : Type 0} {x y : A} → Some x ≡ Some y → x ≡ y
some_same e = cc

not_open : (plan : Plan) (w : World) (call : ℕ) (r : CallRecord) → WorldOk plan w → slice_get w.table.records call ≡ Some r → is_queued r.state ≡ true → open_at w call ≡ None
not_open plan w call r ok at queued = by (open_at w call) refl
  where
    by : (o : Option Open) → open_at w call ≡ o → open_at w call ≡ None
    by None e = e
    by (Some o) e =
        let k = (ok.calls call).opens o e in
        let same : k.r ≡ r = some_same (sym k.here ∙ at) in
        let idle : is_queued r.state ≡ false = ap (λ (x : CallRecord). is_queued x.state) (sym same) ∙ ap is_queued k.state_so in
        let no : ⊥ = cc in absurd no

step_less : (plan : Plan) (before : List Event) (w : World) (e : Event) → WellFormed plan → Worlds plan before w → why w e ≡ None → left_to plan (step plan w e) < left_to plan w
step_less plan before w (Take call host) fine made free = by (slice_get w.table.records call) refl free
  where
    queued : (b c : Bool) → cond b (cond c None (Some NotQueued)) (Some NoHost) ≡ None → c ≡ true
    queued true true h = refl
    queued true false h = let no : ⊥ = cc in absurd no
    queued false c h = let no : ⊥ = cc in absurd no

    by : (o : Option CallRecord) → slice_get w.table.records call ≡ o → elim o as (λ o. Option Why) [ None ↦ Some NoCall | Some r ↦ why_take w r host ] ≡ None → left_to plan (elim o as (λ o. World) [ None ↦ w | Some r ↦ took plan w call host r ]) < left_to plan w
    by None at h = let no : ⊥ = cc in absurd no
    by (Some r) at h =
        let q = queued (nat_lt host w.table.hosts) (is_queued r.state) h in
        take_less plan w call host r (open_of plan r host) at q (not_open plan w call r (world_ok plan before w (calls_fit plan fine) made) at q) (opened_few plan r host)
step_less plan before w (Ask call) fine made free = by (slice_get w.table.records call) refl free
  where
    asks_at : (r : CallRecord) → slice_get w.table.records call ≡ Some r → (o : Open) → open_at w call ≡ Some o → (a : Option (State × Question)) → asking o.machine ≡ a → elim a as (λ a. Option Why) [ None ↦ Some HasEnded | Some a ↦ option_map why_of (obstacle w call o.host a.1) ] ≡ None → left_to plan (elim a as (λ a. World) [ None ↦ w | Some a ↦ asked w call o a.0 a.1 ]) < left_to plan w
    asks_at r at o opens None e h = let no : ⊥ = cc in absurd no
    asks_at r at o opens (Some a) e h = ask_less plan w call r o a.0 a.1 at opens (end_inv plan no_names no_names before w (nothing_closed plan) made).sizes e

    opened_at : (r : CallRecord) → slice_get w.table.records call ≡ Some r → (o : Option Open) → open_at w call ≡ o → elim o as (λ o. Option Why) [ None ↦ Some NotOpen | Some o ↦ why_ask w call o ] ≡ None → left_to plan (elim o as (λ o. World) [ None ↦ w | Some o ↦ asked_by w call o ]) < left_to plan w
    opened_at r at None opens h = let no : ⊥ = cc in absurd no
    opened_at r at (Some o) opens h = asks_at r at o opens (asking o.machine) refl h

    by : (o : Option CallRecord) → slice_get w.table.records call ≡ o → elim o as (λ o. Option Why) [ None ↦ Some NoCall | Some r ↦ why_open w call (why_ask w call) ] ≡ None → left_to plan (step plan w (Ask call)) < left_to plan w
    by None at h = let no : ⊥ = cc in absurd no
    by (Some r) at h = opened_at r at (open_at w call) refl h
step_less plan before w (End call) fine made free = by (slice_get w.table.records call) refl free
  where
    ends_at : (o : Open) → open_at w call ≡ Some o → (e : Option Ended) → ended o ≡ e → elim e as (λ e. Option Why) [ None ↦ Some NotEnded | Some e ↦ None ] ≡ None → left_to plan (elim e as (λ e. World) [ None ↦ w | Some e ↦ finished w call o e ]) < left_to plan w
    ends_at o opens None e h = let no : ⊥ = cc in absurd no
    ends_at o opens (Some e) i h = let k = ((world_ok plan before w (calls_fit plan fine) made).calls call).opens o opens in end_less plan w call o.host k.bench k.order k.r o e.outcome e.used e.output o.counts k.here k.state_so opens

    opened_at : (o : Option Open) → open_at w call ≡ o → elim o as (λ o. Option Why) [ None ↦ Some NotOpen | Some o ↦ why_end o ] ≡ None → left_to plan (elim o as (λ o. World) [ None ↦ w | Some o ↦ finished_by w call o ]) < left_to plan w
    opened_at None opens h = let no : ⊥ = cc in absurd no
    opened_at (Some o) opens h = ends_at o opens (ended o) refl h

    by : (o : Option CallRecord) → slice_get w.table.records call ≡ o → elim o as (λ o. Option Why) [ None ↦ Some NoCall | Some r ↦ why_open w call why_end ] ≡ None → left_to plan (step plan w (End call)) < left_to plan w
    by None at h = let no : ⊥ = cc in absurd no
    by (Some r) at h = opened_at (open_at w call) refl h

-- ---- So a trace ends.

picked_from : (plan : Plan) (n : ℕ) (before : List Event) (w : World) (x : ℕ) → WellFormed plan → Worlds plan before w → left_to plan w < n → (es : List Event) × Picks plan w x es
picked_from plan zero before w x fine made l = let no : ⊥ = omega (arith, l) in absurd no
picked_from plan (suc n) before w x fine made l = by (offered plan w) refl (λ e free. picked_from plan n (before ++ e ∷ []) (step plan w e) (next_of x) fine (worlds_more plan before w e made free) (let less = step_less plan before w e fine made free in omega (arith, l, less)))
  where
    by : (os : List Event) → offered plan w ≡ os → ((e : Event) → why w e ≡ None → (es : List Event) × Picks plan (step plan w e) (next_of x) es) → (es : List Event) × Picks plan w x es
    by [] e go = ([], stops e)
    by (f ∷ fs) e go =
        let count = length (offered plan w) in
        let long : count ≡ suc (length fs) = ap length e in
        let i = pick (next_of x) count in
        let l = mod-lt (number_of (next_of x)) {m = count} (omega (arith, long)) in
        let at = below_there (offered plan w) i l in
        let rest = go at.0 (may_stand plan w i at.0 at.1) in
        (at.0 ∷ rest.0, picks at.1 rest.1)

pub has_schedule : (plan : Plan) (seed : ℕ) → WellFormed plan → (es : List Event) × Schedule plan seed es
has_schedule plan seed fine = picked_from plan (suc (left_to plan (first_world plan))) [] (first_world plan) seed fine (record { stand = tt; world_so = refl }) (omega arith)
