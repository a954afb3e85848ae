-- In every world each finished call ran as its module says, with what it was told.
use Rattle.std.proofs.Common.{◌≡◌, ℕ, zero, suc, ◌≤◌, List, [], ◌∷◌, ◌++◌, length, map, replicate, refl, sym, subst, ap, ◌∙◌, Bool, true, false, cond, Option, Some, None, slice_get, fold, arith}
use Rattle.std.proofs.lemmas.Bool.{ltb-true}
use Rattle.std.proofs.lemmas.List.{length-replicate}
use Rattle.std.proofs.lemmas.Option.{slice_get_within, get_or_from_slice_get}
use Rattle.std.specs.Prelude.{All, IsTrue, option_and_then, nat_lt}
use Rattle.std.specs.List.{AllByRecursion}
use Rattle.faaslet_meaning.specs.declared.call.CallRecord.{CallRecord}
use Rattle.faaslet_meaning.specs.declared.call.CallState.{CallState}
use Rattle.faaslet_meaning.specs.declared.call.CallState.TheVariants.{Queued, Taken, Finished}
use Rattle.faaslet_meaning.specs.declared.grant.Channel.{Channel}
use Rattle.faaslet_meaning.specs.declared.grant.Channel.TheVariants.{Local, Global, Table as OnTable}
use Rattle.session_meaning.specs.declared.event.Event.{Event}
use Rattle.session_meaning.specs.declared.event.Event.TheVariants.{Take, Ask, End}
use Rattle.session_meaning.specs.declared.event.Why.{Why}
use Rattle.session_meaning.specs.declared.event.Why.TheVariants as reason
use Rattle.faaslet_meaning.specs.Channels.{Operation, Reply, Question, ask, entry, entries}
use Rattle.faaslet_meaning.specs.CallState.{State, runs, asks, over, lost}
use Rattle.faaslet_meaning.specs.Call.{output_limit}
use Rattle.faaslet_meaning.specs.Records.{is_queued, host_of, child_of, told_of}
use Rattle.faaslet_meaning.specs.Table as table
use Rattle.faaslet_meaning.specs.Table.{Table, TableOperation, empty_table, submit_request, take_this, finish, look, queued_record, finished_state}
use Rattle.faaslet_meaning.specs.History.{History, Legal, left, table_rules}
use Rattle.faaslet_meaning.proofs.Histories.{legal_rest}
use Rattle.faaslet_meaning.specs.Region.{Region, replica, global_value}
use Rattle.session_meaning.specs.Plan.{Key, NamedFunction, Request, Plan, callables}
use Rattle.session_meaning.specs.WellFormed.{GrantFits}
use Rattle.session_meaning.specs.Keeping.{HistoriesLead}
use Rattle.session_meaning.specs.OpenCall.{Machine, stands, is_broken, Open, asking, Ended, ended}
use Rattle.session_meaning.specs.World.{Object, unused, World, entered, start, requested, first_world}
use Rattle.session_meaning.specs.WorldTold.{told_at, told, RanBy, CallsRan, CallsFit}
use Rattle.session_meaning.specs.Events.{open_at, why, why_take, took, asked, asked_by, finished, finished_by, step, Stand, Worlds}
use Rattle.session_meaning.proofs.Objects.{are_made, local_led, global_led, ObjectsAre, LedTo, local_start, local_long, global_start, global_long}
use Rattle.session_meaning.proofs.OneEntry.{past, local_told, global_told, RegionsOk}
use Rattle.session_meaning.proofs.TableEntries.{table_regions, table_opens}
use Rattle.session_meaning.proofs.OneQuestion.{KidsOk, GrantsFit, LookStands, question_served}
use Rattle.session_meaning.proofs.OwnHistory.{told_on, told_on_table_none}
use Rattle.session_meaning.proofs.RecordsKept.{children_more, record_more, forward_more, backward_more}
use Rattle.session_meaning.proofs.Worlds.{histories_lead}
use Rattle.session_meaning.proofs.CallsAlike.{MachineOk, OpenOk, CallOk, WorldOk, Calm, runs_alike, counts_alike, call_alike}
use Rattle.session_meaning.proofs.CallEvents.{asked_ok, take_ok, finish_ok, ends_ran}

-- ---- What a plan must say.

-- the functions of a plan fit its keys
abbrev pub FunctionsFit : Plan → Type 0
FunctionsFit plan = (n : ℕ) (f : NamedFunction) → slice_get plan.functions n ≡ Some f → GrantsFit plan f.function

abbrev RoomsFit : Plan → Type 0
RoomsFit plan = (n : ℕ) (f : NamedFunction) → slice_get plan.functions n ≡ Some f → f.function.room ≤ output_limit

pub all_get : {A : Type 0} (P : A → Type 0) (xs : List A) (n : ℕ) (x : A) → All P xs → slice_get xs n ≡ Some x → P x
all_get P xs n x all e = subst P (get_or_from_slice_get xs n x x e) (all n x (slice_get_within xs n x e))

pub functions_fit : (plan : Plan) → CallsFit plan → FunctionsFit plan
functions_fit plan fit n f e m g at = all_get (GrantFits plan.keys) f.function.grants m g (all_get (λ f. All (GrantFits plan.keys) f.function.grants) plan.functions n f fit.grants e) at

rooms_fit : (plan : Plan) → CallsFit plan → RoomsFit plan
rooms_fit plan fit n f e = all_get (λ f. f.function.room ≤ output_limit) plan.functions n f fit.rooms e

-- ---- Each event.

-- the last of a legal history may stand
last_may : (t : Table) (h : History TableOperation) (maker : ℕ) (op : TableOperation) → Legal table_rules t (h ++ (maker, op) ∷ []) → IsTrue (table.may (left table_rules t h) maker op)
last_may t h maker op legal = (legal_rest table_rules t h ((maker, op) ∷ []) legal).0

abbrev IsWant : Reply → Type 0
IsWant Reply.want = Unit {0}
IsWant r = ⊥

entries_one : (ch : Channel) (op : Operation) (r : Reply) → (IsWant r → ⊥) → entries (ask ch op) r ≡ entry ch op r ∷ []
entries_one ch op Reply.want never = absurd (never tt)
entries_one ch op r never = refl

told_no_want : (s : CallState) → IsWant (told_of s) → ⊥
told_no_want Queued h = h
told_no_want (Taken host bench order) h = h
told_no_want (Finished host bench order o used output ns) h = h

look_no_want : (t : Table) (maker parent child : ℕ) → IsWant (table.reply t maker (look parent child)) → ⊥
look_no_want t maker parent child = by (option_and_then (slice_get t.records) (child_of t.records parent child))
  where
    by : (o : Option CallRecord) → IsWant (elim o as (λ o. Reply) [ None ↦ Reply.done | Some r ↦ told_of r.state ]) → ⊥
    by None h = h
    by (Some r) h = told_no_want r.state h

pub look_stands : (plan : Plan) (w : World) (call : ℕ) (o : Open) (s : State) (q : Question) → RegionsOk plan w → HistoriesLead plan (asked w call o s q) → LookStands w call q
look_stands plan w call o s (ask OnTable (Operation.look c)) ok lead = subst (λ t. IsTrue (table.may t call (look call c))) (sym ok.table) (last_may (empty_table plan.hosts (callables plan)) w.table_history call (look call c) legal)
  where
    one : entries (ask OnTable (Operation.look c)) (table.reply w.table call (look call c)) ≡ entry OnTable (Operation.look c) (table.reply w.table call (look call c)) ∷ []
    one = entries_one OnTable (Operation.look c) (table.reply w.table call (look call c)) (look_no_want w.table call call c)

    history_so : (asked w call o s (ask OnTable (Operation.look c))).table_history ≡ w.table_history ++ (call, look call c) ∷ []
    history_so = ap (λ es. (fold (entered call o.host) w es).table_history) one

    legal : Legal table_rules (empty_table plan.hosts (callables plan)) (w.table_history ++ (call, look call c) ∷ [])
    legal = subst (Legal table_rules (empty_table plan.hosts (callables plan))) history_so lead.table.legal
look_stands plan w call o s q ok lead = tt

ask_ok : (plan : Plan) (w : World) (call : ℕ) (o : Open) → FunctionsFit plan → WorldOk plan w → OpenOk plan w call o → HistoriesLead plan (asked_by w call o) → WorldOk plan (asked_by w call o)
ask_ok plan w call o fit ok h lead = by o.machine refl h.machine lead
  where
    by : (m : Machine) → o.machine ≡ m → MachineOk h.function.function h.r.input (told_at plan w o.host call) w.table.records call h.r.children m → HistoriesLead plan (elim (asking m) as (λ a. World) [ None ↦ w | Some a ↦ asked w call o a.0 a.1 ]) → WorldOk plan (elim (asking m) as (λ a. World) [ None ↦ w | Some a ↦ asked w call o a.0 a.1 ])
    by (stands (asks s q)) is came lead =
        let kids = subst (KidsOk w.table.records call h.r.children) (sym came.ok.0.2) came.kids_ok in
        asked_ok plan w call o s q ok h came (question_served plan w call o.host s h.r ok.regions ok.records h.within h.here kids h.function.function h.r.input q (fit h.r.function h.function h.function_so) came.ok.2 (look_stands plan w call o s q ok.regions lead))
    by (stands (runs s)) is came lead = ok
    by (stands (over s p)) is came lead = ok
    by (stands lost) is came lead = ok
    by (is_broken k) is came lead = ok

end_ok : (plan : Plan) (w : World) (call : ℕ) (o : Open) → RoomsFit plan → WorldOk plan w → OpenOk plan w call o → WorldOk plan (finished_by w call o)
end_ok plan w call o rooms ok h = by (ended o) refl
  where
    by : (e : Option Ended) → ended o ≡ e → WorldOk plan (elim e as (λ e. World) [ None ↦ w | Some e ↦ finished w call o e ])
    by None is = ok
    by (Some e) is =
        let ran = ends_ran h.function.function h.r.input (told_at plan w o.host call) w.table.records call h.r.children o.fuel o.machine e (rooms h.r.function h.function h.function_so) h.fuel_so h.machine is in
        finish_ok plan w call o e ok h ran.0 ran.1

step_ok : (plan : Plan) (w : World) (e : Event) → FunctionsFit plan → RoomsFit plan → WorldOk plan w → why w e ≡ None → HistoriesLead plan (step plan w e) → WorldOk plan (step plan w e)
step_ok plan w (Take call host) fit rooms ok free lead = by (slice_get w.table.records call) refl free
  where
    parts : (r : CallRecord) (a b : Bool) → cond a (cond b None (Some reason.NotQueued)) (Some reason.NoHost) ≡ None → (a ≡ true) × (b ≡ true)
    parts r true true h = (refl, refl)
    parts r true false h = let no : ⊥ = cc in absurd no
    parts r false b h = let no : ⊥ = cc in absurd no

    queued : (s : CallState) → is_queued s ≡ true → s ≡ Queued
    queued Queued h = refl
    queued (Taken i b n) h = let no : ⊥ = cc in absurd no
    queued (Finished i b n o used output ns) h = let no : ⊥ = cc in absurd no

    by : (r : Option CallRecord) → slice_get w.table.records call ≡ r → ◌≡◌ {A = Option Why} (elim r [ None ↦ Some reason.NoCall | Some r ↦ why_take w r host ]) None → WorldOk plan (elim r as (λ r. World) [ None ↦ w | Some r ↦ took plan w call host r ])
    by None at h = ok
    by (Some r) at h =
        let both = parts r (nat_lt host w.table.hosts) (is_queued r.state) h in
        let below = ltb-true host w.table.hosts both.0 in
        let hosts = ok.hosts in
        take_ok plan w call host r ok at (queued r.state both.1) (omega (arith, below, hosts))
step_ok plan w (Ask call) fit rooms ok free lead = by (open_at w call) refl lead
  where
    by : (o : Option Open) → open_at w call ≡ o → HistoriesLead plan (elim o as (λ o. World) [ None ↦ w | Some o ↦ asked_by w call o ]) → WorldOk plan (elim o as (λ o. World) [ None ↦ w | Some o ↦ asked_by w call o ])
    by None at lead = ok
    by (Some o) at lead = ask_ok plan w call o fit ok ((ok.calls call).opens o at) lead
step_ok plan w (End call) fit rooms ok free lead = by (open_at w call) refl
  where
    by : (o : Option Open) → open_at w call ≡ o → WorldOk plan (elim o as (λ o. World) [ None ↦ w | Some o ↦ finished_by w call o ])
    by None at = ok
    by (Some o) at = end_ok plan w call o rooms ok ((ok.calls call).opens o at)

-- ---- All of them.

stand_more : (plan : Plan) (w : World) (es : List Event) (e : Event) → Stand plan w es → why (fold (step plan) w es) e ≡ None → Stand plan w (es ++ e ∷ [])
stand_more plan w [] e stand free = (free, tt)
stand_more plan w (x ∷ es) e stand free = (stand.0, stand_more plan (step plan w x) es e stand.1 free)

fold_more : (plan : Plan) (w : World) (es : List Event) (e : Event) → fold (step plan) w (es ++ e ∷ []) ≡ step plan (fold (step plan) w es) e
fold_more plan w [] e = refl
fold_more plan w (x ∷ es) e = fold_more plan (step plan w x) es e

pub worlds_more : (plan : Plan) (es : List Event) (w : World) (e : Event) → Worlds plan es w → why w e ≡ None → Worlds plan (es ++ e ∷ []) (step plan w e)
worlds_more plan es w e made free =
    record {
      stand = stand_more plan (first_world plan) es e made.stand (subst (λ v. why v e ≡ None) made.world_so free);
      world_so = ap (λ v. step plan v e) made.world_so ∙ sym (fold_more plan (first_world plan) es e);
    }

all_ok : (plan : Plan) (before : List Event) (w : World) (es : List Event) → FunctionsFit plan → RoomsFit plan → Worlds plan before w → WorldOk plan w → Stand plan w es → WorldOk plan (fold (step plan) w es)
all_ok plan before w [] fit rooms made ok stand = ok
all_ok plan before w (e ∷ es) fit rooms made ok stand =
    let next = worlds_more plan before w e made stand.0 in
    all_ok plan (before ++ e ∷ []) (step plan w e) es fit rooms next (step_ok plan w e fit rooms ok stand.0 (histories_lead plan (before ++ e ∷ []) (step plan w e) next)) stand.1

-- ---- The first world.

pub none_past : (f : Key → Region) (ks : List Key) (n : ℕ) → past (slice_get (map (λ k. unused (f k)) ks) n) ≡ []
none_past f [] n = refl
none_past f (k ∷ ks) zero = refl
none_past f (k ∷ ks) (suc n) = none_past f ks n

pub none_at : (os : List Object) (key hosts h : ℕ) → past (slice_get os key) ≡ [] → past (option_and_then (λ objects. slice_get objects key) (slice_get (replicate hosts os) h)) ≡ []
none_at os key zero h none = refl
none_at os key (suc hosts) zero none = none
none_at os key (suc hosts) (suc h) none = none_at os key hosts h none

nothing_told : (plan : Plan) (h call : ℕ) (ch : Channel) → told_at plan (start plan) h call ch ≡ []
nothing_told plan h call (Local key) = by (slice_get plan.keys key)
  where
    by : (o : Option Key) → local_told (start plan) call h key o ≡ []
    by None = refl
    by (Some k) = ap (told_on call (replica k.size)) (none_at (map (λ k. unused (replica k.size)) plan.keys) key plan.hosts h (none_past (λ k. replica k.size) plan.keys key))
nothing_told plan h call (Global key) = by (slice_get plan.keys key)
  where
    by : (o : Option Key) → global_told (start plan) call key o ≡ []
    by None = refl
    by (Some k) = ap (told_on call (global_value k.size k.init)) (none_past (λ k. global_value k.size k.init) plan.keys key)
nothing_told plan h call OnTable = refl

locals_led : (ks : List Key) (n : ℕ) → AllByRecursion (ObjectsAre (LedTo local_start local_long) ks) (replicate n (map (λ k. unused (replica k.size)) ks))
locals_led ks zero = tt
locals_led ks (suc n) = (are_made (LedTo local_start local_long) (λ k. unused (replica k.size)) ks (λ i k e. local_led k), locals_led ks n)

none_open : (o : Open) → ◌≡◌ {A = Option Open} None (Some o) → ⊥
none_open o e = cc

start_ok : (plan : Plan) → CallsFit plan → WorldOk plan (start plan)
start_ok plan fit =
    record {
      regions = record {
        hosts = length-replicate plan.hosts (map (λ k. unused (replica k.size)) plan.keys);
        locals = locals_led plan.keys plan.hosts;
        globals = are_made (LedTo global_start global_long) (λ k. unused (global_value k.size k.init)) plan.keys (λ n k e. global_led k (all_get (λ k. length k.init ≤ k.size) plan.keys n k fit.keys e));
        table = refl;
      };
      hosts = refl;
      records = λ n r e. let no : ⊥ = cc in absurd no;
      calls = λ call. record {
        opens = λ o e. absurd (none_open o e);
        ran = λ r host bench order o used output ns e state_so. let no : ⊥ = cc in absurd no;
        idle = λ idle h ch. nothing_told plan h call ch;
      };
    }

request_ok : (plan : Plan) (w : World) (r : Request) → WorldOk plan w → WorldOk plan (requested w r)
request_ok plan w r ok =
    record {
      regions = table_regions plan w (length w.table.records) op ok.regions;
      hosts = ok.hosts;
      records = record_more w.table.records x refl refl ok.records;
      calls = λ call. call_alike plan w (requested w r) call (calm call) (children_more w.table.records (x ∷ [])) (ok.calls call);
    }
  where
    op : TableOperation
    op = submit_request r.function r.host r.input

    x : CallRecord
    x = queued_record w.table r.function r.host r.input

    told_same : (call h : ℕ) (ch : Channel) → told_at plan (requested w r) h call ch ≡ told_at plan w h call ch
    told_same call h (Local key) = refl
    told_same call h (Global key) = refl
    told_same call h OnTable = told_on_table_none (empty_table plan.hosts (callables plan)) w.table_history call (length w.table.records) (submit_request r.function r.host r.input) (λ r. refl)

    calm : (call : ℕ) → Calm plan w (requested w r) call
    calm call =
        record {
          told = told_same call;
          forward = forward_more w.table.records (queued_record w.table r.function r.host r.input) call;
          backward = backward_more w.table.records (queued_record w.table r.function r.host r.input) refl call;
          opens = table_opens w (length w.table.records) (submit_request r.function r.host r.input) call;
        }

requests_ok : (plan : Plan) (w : World) (rs : List Request) → WorldOk plan w → WorldOk plan (fold requested w rs)
requests_ok plan w [] ok = ok
requests_ok plan w (r ∷ rs) ok = requests_ok plan (requested w r) rs (request_ok plan w r ok)

-- ---- The law.

told_there : (plan : Plan) (w : World) (call : ℕ) (r : CallRecord) (host : ℕ) → slice_get w.table.records call ≡ Some r → host_of r.state ≡ Some host → (ch : Channel) → told plan w call ch ≡ told_at plan w host call ch
told_there plan w call r host at is ch =
    ap (λ o. elim (option_and_then (λ r. host_of r.state) o) as (λ o. List (Operation × Reply)) [ None ↦ [] | Some host ↦ told_at plan w host call ch ]) at
    ∙ ap (λ o. elim o as (λ o. List (Operation × Reply)) [ None ↦ [] | Some host ↦ told_at plan w host call ch ]) is

ran_by : (plan : Plan) (w : World) (call : ℕ) (r : CallRecord) (s : CallState) → CallOk plan w call → slice_get w.table.records call ≡ Some r → r.state ≡ s → RanBy plan w call r s
ran_by plan w call r (Finished host bench order o used output ns) ok at is =
    let t = ok.ran r host bench order o used output ns at is in
    let same = told_there plan w call r host at (ap host_of is) in
    record {
      function = t.function;
      function_so = t.function_so;
      runs = runs_alike t.function.function r.input (told_at plan w host call) (told plan w call) o output used same t.ran;
      counts_so = t.counts_so ∙ sym (counts_alike t.function.function.grants (told_at plan w host call) (told plan w call) same);
    }
ran_by plan w call r Queued ok at is = tt
ran_by plan w call r (Taken host bench order) ok at is = tt

pub world_ok : (plan : Plan) (events : List Event) (w : World) → CallsFit plan → Worlds plan events w → WorldOk plan w
world_ok plan events w fit made =
    subst (WorldOk plan) (sym made.world_so)
    (all_ok plan [] (first_world plan) events (functions_fit plan fit) (rooms_fit plan fit) (record { stand = tt; world_so = refl }) (requests_ok plan (start plan) plan.requests (start_ok plan fit)) made.stand)

pub calls_ran : (plan : Plan) (events : List Event) (w : World) → CallsFit plan → Worlds plan events w → CallsRan plan w
calls_ran plan events w fit made call r at = ran_by plan w call r r.state ((world_ok plan events w fit made).calls call) at refl
