-- In every world of a well-formed plan a call is open exactly where its record is taken and not finished.
use Rattle.std.proofs.Common.{◌≡◌, ◌⊎◌, inl, inr, ℕ, zero, suc, ◌<◌, Bool, true, false, cond, List, [], ◌∷◌, ◌++◌, Option, Some, None, refl, sym, ap, ◌∙◌, map, length, slice_get, slice_index_or, option_map, unwrap_or, is_some, subst, arith}
use Rattle.std.specs.Prelude.{fold, ◌==◌}
use Rattle.std.proofs.lemmas.Bool.{eqb-true, eqb-false}
use Rattle.std.proofs.lemmas.List.{length-map}
use Rattle.std.proofs.lemmas.Option.{slice_get_within}
use Rattle.faaslet_meaning.specs.declared.call.CallRecord.{CallRecord}
use Rattle.faaslet_meaning.specs.declared.call.CallState.{CallState}
use Rattle.faaslet_meaning.specs.declared.call.CallState.TheVariants.{Queued, Taken, Finished}
use Rattle.faaslet_meaning.specs.declared.outcome.Outcome.{Outcome}
use Rattle.faaslet_meaning.specs.Lists.{changed, passes_at}
use Rattle.faaslet_meaning.specs.Channels.{Question, entries}
use Rattle.faaslet_meaning.specs.CallState.{State, runs, asks, over, lost}
use Rattle.faaslet_meaning.specs.Records.{is_open, takes}
use Rattle.faaslet_meaning.specs.Table as table
use Rattle.faaslet_meaning.specs.Table.{Table, TableOperation, take_this, finish, finished_state, empty_table, next, queued_record}
use Rattle.faaslet_meaning.specs.History.{History, left, Leads, table_rules}
use Rattle.session_meaning.specs.declared.event.Event.{Event}
use Rattle.session_meaning.specs.declared.event.Event.TheVariants.{Take, Ask, End}
use Rattle.session_meaning.specs.Plan.{NamedFunction, Request, Plan, Names, is_function_of, Closed, callables}
use Rattle.session_meaning.specs.Draft.{drafted}
use Rattle.session_meaning.specs.WellFormed.{RequestFits, WellFormed}
use Rattle.session_meaning.specs.OpenCall.{Open, Machine, stands, is_broken, asking, Ended, ended, opened, answered}
use Rattle.session_meaning.specs.World.{World, on_table, entered, start, requested, first_world}
use Rattle.session_meaning.specs.Keeping.{HistoriesLead, CallsOpen}
use Rattle.session_meaning.specs.Events.{answer, open_at, put_call, open_of, took, asked, asked_by, finished, finished_by, step, Stand, Worlds}
use Rattle.session_meaning.specs.WorldTold.{told_at}
use Rattle.session_meaning.proofs.Kept.{length_changed}
use Rattle.session_meaning.proofs.WorldParts.{length_filled}
use Rattle.session_meaning.proofs.Worlds.{histories_lead}
use Rattle.session_meaning.proofs.LegalEntries.{get_here, get_apart}
use Rattle.session_meaning.proofs.Invariants.{push_back}
use Rattle.session_meaning.proofs.WorldInvariants.{Inv}
use Rattle.session_meaning.proofs.WorldEnds.{end_inv}
use Rattle.session_meaning.proofs.Family.{world_family}
use Rattle.session_meaning.proofs.OneEntry.{Left}
use Rattle.session_meaning.proofs.TableEntries.{table_opens}
use Rattle.session_meaning.proofs.RecordsKept.{Kin as Same}
use Rattle.session_meaning.proofs.OneQuestion.{KidsOk, question_served}
use Rattle.session_meaning.proofs.CallsAlike.{MachineOk, OpenOk, WorldOk, put_apart}
use Rattle.session_meaning.proofs.CallsRan.{FunctionsFit, all_get, functions_fit, look_stands, world_ok, worlds_more}
use Rattle.session_meaning.proofs.WellFits.{calls_fit, functions_fit as functions_of_plan}
use Rattle.session_meaning.specs.Cut.{part_of}

-- ---- All functions and all keys are a closed part.

abbrev any : Names
any name = true

there : {A : Type 0} (xs : List A) (n : ℕ) → n < length xs → (x : A) × (slice_get xs n ≡ Some x)
there [] n h = let no : ⊥ = omega (arith, h) in absurd no
there (x ∷ xs) zero h = (x, refl)
there (x ∷ xs) (suc n) h = there xs n (omega (arith, h))

some_same : {A : Type 0} {x y : A} → Some x ≡ Some y → x ≡ y
some_same e = cc

some_of : {A : Type 0} (xs : List A) (n : ℕ) (x : A) → slice_get xs n ≡ Some x → passes_at (λ y. true) xs n ≡ true
some_of xs n x e = ap (λ o. elim o as (λ o. Bool) [ None ↦ false | Some y ↦ true ]) e

some_there : {A : Type 0} (xs : List A) (n : ℕ) → passes_at (λ y. true) xs n ≡ true → (x : A) × (slice_get xs n ≡ Some x)
some_there {A} xs n h = by (slice_get xs n) refl h
  where
    by : (o : Option A) → slice_get xs n ≡ o → elim o as (λ o. Bool) [ None ↦ false | Some y ↦ true ] ≡ true → (x : A) × (slice_get xs n ≡ Some x)
    by None e h = let no : ⊥ = cc in absurd no
    by (Some x) e h = (x, e)

all_closed : (plan : Plan) → WellFormed plan → Closed plan any any
all_closed plan fine n d l =
    let fits = functions_of_plan plan fine n d l in
    record {
      grants = λ k g m. let grant = fits.grants k g m in some_of plan.keys (slice_index_or (slice_index_or plan.functions n d).function.grants k g).key grant.0 grant.1;
      callees = λ k g m. let f = there plan.functions (slice_index_or (slice_index_or plan.functions n d).function.callees k g) (fits.callees k g m) in some_of plan.functions _ f.0 f.1;
    }

all_inv : (plan : Plan) (es : List Event) (w : World) → WellFormed plan → Worlds plan es w → Inv (part_of plan any any w) plan w
all_inv plan es w fine made = end_inv plan any any es w (all_closed plan fine) made

-- the function of each record is one of the plan's, as that of its request is
known : (plan : Plan) (es : List Event) (w : World) → WellFormed plan → Worlds plan es w → (n : ℕ) (r : CallRecord) → slice_get w.table.records n ≡ Some r → (f : NamedFunction) × (slice_get plan.functions r.function ≡ Some f)
known plan es w fine made n r e =
    let family = world_family plan es w made in
    let like = ((all_inv plan es w fine made).kin n r e).request in
    let q = family.requests n r e in
    let first = family.first r.request q.0 q.1 in
    let one : like.0.function ≡ q.0.function = ap (λ x. x.function) (some_same (sym like.1 ∙ first.1)) ∙ first.2 in
    let fits = all_get (RequestFits (length (map drafted plan.functions)) plan.hosts) plan.requests r.request q.0 fine.limits.requests q.1 in
    let below = fits.function in
    let few = length-map plan.functions drafted in
    let f = there plan.functions q.0.function (omega (arith, below, few)) in
    some_there plan.functions r.function (sym like.2 ∙ ap (is_function_of plan any) one ∙ some_of plan.functions q.0.function f.0 f.1)

-- ---- A taken call of a function of the plan is open.

abbrev TakenOpen : Plan → World → Type 0
TakenOpen plan w = (call : ℕ) (r : CallRecord) (f : NamedFunction) → slice_get w.table.records call ≡ Some r → slice_get plan.functions r.function ≡ Some f → is_open r.state ≡ true → is_some (open_at w call) ≡ true

-- what is put at a place that is there
put_there : (w : World) (call : ℕ) (x : Option Open) → call < length w.calls → open_at (put_call w call x) call ≡ x
put_there w call x h = let c = there w.calls call h in ap (λ g. unwrap_or g None) (get_here w.calls call (λ old. x) ∙ ap (option_map (λ old. x)) c.1)

none_open : (s : CallState) (o : Outcome) (used : ℕ) (output counts : List ℕ) → is_open (finished_state s o used output counts) ≡ true → ⊥
none_open Queued o used output counts h = cc
none_open (Taken host bench order) o used output counts h = cc
none_open (Finished host bench order p v bs ns) o used output counts h = cc

-- one call is changed, and of the others each that is open in the records was so before
one_changed : (plan : Plan) (w w' : World) (call : ℕ) → TakenOpen plan w
    → ((c : ℕ) → (call == c) ≡ false → open_at w' c ≡ open_at w c)
    → ((c : ℕ) (s : CallRecord) → (call == c) ≡ false → slice_get w'.table.records c ≡ Some s → is_open s.state ≡ true → (r : CallRecord) × (slice_get w.table.records c ≡ Some r) × (s.function ≡ r.function) × (s.state ≡ r.state))
    → ((s : CallRecord) (f : NamedFunction) → slice_get w'.table.records call ≡ Some s → slice_get plan.functions s.function ≡ Some f → is_open s.state ≡ true → is_some (open_at w' call) ≡ true)
    → TakenOpen plan w'
one_changed plan w w' call old opens back own c s f e known_so h = by (call == c) refl
  where
    by : (b : Bool) → (call == c) ≡ b → is_some (open_at w' c) ≡ true
    by true i =
        let same = eqb-true call c i in
        subst (λ n. is_some (open_at w' n) ≡ true) same (own s f (ap (slice_get w'.table.records) same ∙ e) known_so h)
    by false i =
        let r = back c s i e h in
        ap is_some (opens c i) ∙ old c r.0 f r.1 (ap (slice_get plan.functions) (sym r.2) ∙ known_so) (ap is_open (sym r.3) ∙ h)

take_opens : (plan : Plan) (w : World) (call host : ℕ) (r : CallRecord) → slice_get w.table.records call ≡ Some r → length w.calls ≡ length w.table.records → TakenOpen plan w → TakenOpen plan (took plan w call host r)
take_opens plan w call host r here places old =
    one_changed plan w (took plan w call host r) call old
    (λ c i. put_apart (on_table w call (take_this call host call)) call c (open_of plan r host) i ∙ table_opens w call (take_this call host call) c)
    (λ c s i e h. (s, sym (get_apart w.table.records call c change (λ same. eqb-false call c i (sym same))) ∙ e, refl, refl))
    own
  where
    change : CallRecord → CallRecord
    change y = record y { state = Taken host call (takes w.table.records) }

    long : call < length (on_table w call (take_this call host call)).calls
    long =
        let inside = slice_get_within w.table.records call r here in
        let grown = length_changed w.table.records call change in
        let filled_so = length_filled (length (changed w.table.records call change)) w.calls (omega (arith, places, grown)) in
        omega (arith, inside, grown, filled_so)

    own : (s : CallRecord) (f : NamedFunction) → slice_get (changed w.table.records call change) call ≡ Some s → slice_get plan.functions s.function ≡ Some f → is_open s.state ≡ true → is_some (open_at (took plan w call host r) call) ≡ true
    own s f e known_so h =
        let same : record r { state = Taken host call (takes w.table.records) } ≡ s = some_same (sym (get_here w.table.records call change ∙ ap (option_map change) here) ∙ e) in
        let found : slice_get plan.functions r.function ≡ Some f = ap (λ x. slice_get plan.functions x.function) same ∙ known_so in
        ap is_some (put_there (on_table w call (take_this call host call)) call (open_of plan r host) long ∙ ap (option_map (λ f. opened f.function r.input host)) found)

end_opens : (plan : Plan) (w : World) (call : ℕ) (o : Open) (e : Ended) → TakenOpen plan w → TakenOpen plan (finished w call o e)
end_opens plan w call o x old =
    one_changed plan w (finished w call o x) call old
    (λ c i. put_apart (on_table w call (finish call x.outcome x.used x.output o.counts)) call c None i ∙ table_opens w call (finish call x.outcome x.used x.output o.counts) c)
    (λ c s i e h. (s, sym (get_apart w.table.records call c change (λ same. eqb-false call c i (sym same))) ∙ e, refl, refl))
    own
  where
    change : CallRecord → CallRecord
    change y = record y { state = finished_state y.state x.outcome x.used x.output o.counts }

    by : (s : CallRecord) (r : Option CallRecord) → option_map change r ≡ Some s → is_open s.state ≡ true → ⊥
    by s None e h = cc
    by s (Some r) e h = none_open r.state x.outcome x.used x.output o.counts (ap (λ y. is_open y.state) (some_same e) ∙ h)

    own : (s : CallRecord) (f : NamedFunction) → slice_get (changed w.table.records call change) call ≡ Some s → slice_get plan.functions s.function ≡ Some f → is_open s.state ≡ true → is_some (open_at (finished w call o x) call) ≡ true
    own s f e known_so h = absurd (by s (slice_get w.table.records call) (sym (get_here w.table.records call change) ∙ e) h)

queued_closed : (s : CallState) → s ≡ Queued → is_open s ≡ true → ⊥
queued_closed s e h = let no : false ≡ true = sym (ap is_open e) ∙ h in cc

ask_opens : (plan : Plan) (w : World) (call : ℕ) (o : Open) (s : State) (q : Question) → (h : OpenOk plan w call o) → Left plan w call o.host (entries q (answer w call o.host q)) (fold (entered call o.host) w (entries q (answer w call o.host q)))
    → length (asked w call o s q).calls ≡ length (asked w call o s q).table.records → TakenOpen plan w → TakenOpen plan (asked w call o s q)
ask_opens plan w call o s q h left places old =
    one_changed plan w (asked w call o s q) call old
    (λ c i. put_apart w' call c (Some (answered o s (answer w call o.host q) (entries q (answer w call o.host q)))) i ∙ left.opens c)
    (λ c x i e k. back c x k (left.backward c x e))
    (λ x f e known_so k. ap is_some (put_there w' call (Some (answered o s (answer w call o.host q) (entries q (answer w call o.host q)))) (long x e)))
  where
    w' : World
    w' = fold (entered call o.host) w (entries q (answer w call o.host q))

    back : (c : ℕ) (x : CallRecord) → is_open x.state ≡ true → ((r : CallRecord) × (slice_get w.table.records c ≡ Some r) × Same r x) ⊎ ((slice_get w.table.records c ≡ None) × (x.state ≡ Queued)) → (r : CallRecord) × (slice_get w.table.records c ≡ Some r) × (x.function ≡ r.function) × (x.state ≡ r.state)
    back c x k (inl r) = (r.0, r.1, r.2.function, r.2.state)
    back c x k (inr none) = absurd (queued_closed x.state none.1 k)

    long : (x : CallRecord) → slice_get w'.table.records call ≡ Some x → call < length w'.calls
    long x e =
        let inside = slice_get_within w'.table.records call x e in
        let same = length_changed w'.calls call (λ old. Some (answered o s (answer w call o.host q) (entries q (answer w call o.host q)))) in
        omega (arith, inside, same, places)

-- ---- Each event, and all of them.

step_opens : (plan : Plan) (w : World) (e : Event) → FunctionsFit plan → WorldOk plan w → HistoriesLead plan (step plan w e) → length w.calls ≡ length w.table.records → length (step plan w e).calls ≡ length (step plan w e).table.records → TakenOpen plan w → TakenOpen plan (step plan w e)
step_opens plan w (Take call host) fit ok lead places after old = by (slice_get w.table.records call) refl
  where
    by : (r : Option CallRecord) → slice_get w.table.records call ≡ r → TakenOpen plan (elim r as (λ r. World) [ None ↦ w | Some r ↦ took plan w call host r ])
    by None e = old
    by (Some r) e = take_opens plan w call host r e places old
step_opens plan w (End call) fit ok lead places after old = by (open_at w call)
  where
    at : (o : Open) (x : Option Ended) → TakenOpen plan (elim x as (λ x. World) [ None ↦ w | Some x ↦ finished w call o x ])
    at o None = old
    at o (Some x) = end_opens plan w call o x old

    by : (o : Option Open) → TakenOpen plan (elim o as (λ o. World) [ None ↦ w | Some o ↦ finished_by w call o ])
    by None = old
    by (Some o) = at o (ended o)
step_opens plan w (Ask call) fit ok lead places after old = by (open_at w call) refl lead after
  where
    Long : World → Type 0
    Long v = length v.calls ≡ length v.table.records

    at : (o : Open) → (h : OpenOk plan w call o) → (m : Machine) → MachineOk h.function.function h.r.input (told_at plan w o.host call) w.table.records call h.r.children m → HistoriesLead plan (elim (asking m) as (λ a. World) [ None ↦ w | Some a ↦ asked w call o a.0 a.1 ]) → Long (elim (asking m) as (λ a. World) [ None ↦ w | Some a ↦ asked w call o a.0 a.1 ]) → TakenOpen plan (elim (asking m) as (λ a. World) [ None ↦ w | Some a ↦ asked w call o a.0 a.1 ])
    at o h (stands (asks s q)) came lead long =
        let kids = subst (KidsOk w.table.records call h.r.children) (sym came.ok.0.2) came.kids_ok in
        ask_opens plan w call o s q h (question_served plan w call o.host s h.r ok.regions ok.records h.within h.here kids h.function.function h.r.input q (fit h.r.function h.function h.function_so) came.ok.2 (look_stands plan w call o s q ok.regions lead)).left long old
    at o h (stands (runs s)) came lead long = old
    at o h (stands (over s x)) came lead long = old
    at o h (stands lost) came lead long = old
    at o h (is_broken k) came lead long = old

    by : (o : Option Open) → open_at w call ≡ o → HistoriesLead plan (elim o as (λ o. World) [ None ↦ w | Some o ↦ asked_by w call o ]) → Long (elim o as (λ o. World) [ None ↦ w | Some o ↦ asked_by w call o ]) → TakenOpen plan (elim o as (λ o. World) [ None ↦ w | Some o ↦ asked_by w call o ])
    by None e lead long = old
    by (Some o) e lead long = let h = (ok.calls call).opens o e in at o h o.machine h.machine lead long

all_open : (plan : Plan) (before : List Event) (w : World) (es : List Event) → WellFormed plan → Worlds plan before w → TakenOpen plan w → Stand plan w es → TakenOpen plan (fold (step plan) w es)
all_open plan before w [] fine made old stand = old
all_open plan before w (e ∷ es) fine made old stand =
    let next = worlds_more plan before w e made stand.0 in
    all_open plan (before ++ e ∷ []) (step plan w e) es fine next
    (step_opens plan w e (functions_fit plan (calls_fit plan fine)) (world_ok plan before w (calls_fit plan fine) made) (histories_lead plan (before ++ e ∷ []) (step plan w e) next) (all_inv plan before w fine made).sizes (all_inv plan (before ++ e ∷ []) (step plan w e) fine next).sizes old)
    stand.1

-- ---- At first each call is queued.

abbrev AllQueued : World → Type 0
AllQueued w = (n : ℕ) (r : CallRecord) → slice_get w.table.records n ≡ Some r → r.state ≡ Queued

requests_queued : (w : World) (rs : List Request) → AllQueued w → AllQueued (fold requested w rs)
requests_queued w [] h = h
requests_queued w (r ∷ rs) h = requests_queued (requested w r) rs λ n x e. by n x (push_back w.table.records (queued_record w.table r.function r.host r.input) n x e)
  where
    by : (n : ℕ) (x : CallRecord) → (slice_get w.table.records n ≡ Some x) ⊎ (x ≡ queued_record w.table r.function r.host r.input) → x.state ≡ Queued
    by n x (inl e) = h n x e
    by n x (inr e) = ap (λ y. y.state) e

first_open : (plan : Plan) → TakenOpen plan (first_world plan)
first_open plan n r f e known_so h = absurd (queued_closed r.state (requests_queued (start plan) plan.requests (λ m x k. let no : ⊥ = cc in absurd no) n r e) h)

taken_open : (plan : Plan) (es : List Event) (w : World) → WellFormed plan → Worlds plan es w → TakenOpen plan w
taken_open plan es w fine made = subst (TakenOpen plan) (sym made.world_so) (all_open plan [] (first_world plan) es fine (record { stand = tt; world_so = refl }) (first_open plan) made.stand)

-- ---- The hosts and the functions of a table never change.

abbrev SamePlan : Table → Table → Type 0
SamePlan t u = (u.hosts ≡ t.hosts) × (u.functions ≡ t.functions)

after_same : (t : Table) (maker : ℕ) (op : TableOperation) → SamePlan t (table.after t maker op)
after_same t maker (table.submit_request f host input) = (refl, refl)
after_same t maker (table.submit parent f input) = by (slice_get t.records parent)
  where
    room : (p : CallRecord) (b : Bool) → SamePlan t (cond b (record t { records = changed t.records parent table.one_more_child ++ table.child_record t parent p f input ∷ [] }) t)
    room p true = (refl, refl)
    room p false = (refl, refl)

    by : (o : Option CallRecord) → SamePlan t (elim o as (λ o. Table) [ None ↦ t | Some p ↦ table.submitted t parent p f input ])
    by None = (refl, refl)
    by (Some p) = room p (table.has_room t p f input)
after_same t maker (table.take_next host bench) = by (next t host)
  where
    by : (o : Option ℕ) → SamePlan t (elim o as (λ o. Table) [ None ↦ t | Some call ↦ table.taken t call host bench ])
    by None = (refl, refl)
    by (Some call) = (refl, refl)
after_same t maker (table.take_this call host bench) = (refl, refl)
after_same t maker (table.finish call o used output counts) = (refl, refl)
after_same t maker (table.look parent child) = (refl, refl)

left_same : (t : Table) (h : History TableOperation) → SamePlan t (left table_rules t h)
left_same t [] = (refl, refl)
left_same t (e ∷ h) = let a = after_same t e.0 e.1 in let b = left_same (table.after t e.0 e.1) h in (b.0 ∙ a.0, b.1 ∙ a.1)

-- ---- The law.

pub calls_open : (plan : Plan) (es : List Event) (w : World) → WellFormed plan → Worlds plan es w → CallsOpen plan w
calls_open plan es w fine made =
    record {
      hosts = ap (λ t. t.hosts) lead.end_so ∙ same.0;
      functions = ap (λ t. t.functions) lead.end_so ∙ same.1;
      places = (all_inv plan es w fine made).sizes;
      opens = λ call. by call (open_at w call) refl;
    }
  where
    lead : Leads table_rules (empty_table plan.hosts (callables plan)) w.table_history w.table
    lead = (histories_lead plan es w made).table

    same : SamePlan (empty_table plan.hosts (callables plan)) (left table_rules (empty_table plan.hosts (callables plan)) w.table_history)
    same = left_same (empty_table plan.hosts (callables plan)) w.table_history

    closed : (call : ℕ) (r : Option CallRecord) → slice_get w.table.records call ≡ r → open_at w call ≡ None → elim r as (λ r. Bool) [ None ↦ false | Some r ↦ is_open r.state ] ≡ false
    closed call None e h = refl
    closed call (Some r) e h = at (is_open r.state) refl
      where
        at : (b : Bool) → is_open r.state ≡ b → b ≡ false
        at false i = refl
        at true i =
            let f = known plan es w fine made call r e in
            let no : false ≡ true = sym (ap is_some h) ∙ taken_open plan es w fine made call r f.0 e f.1 i in
            absurd cc

    by : (call : ℕ) (o : Option Open) → open_at w call ≡ o → is_some (open_at w call) ≡ passes_at (λ r. is_open r.state) w.table.records call
    by call (Some o) e =
        let h = ((world_ok plan es w (calls_fit plan fine) made).calls call).opens o e in
        ap is_some e ∙ sym (ap (λ r. elim r as (λ r. Bool) [ None ↦ false | Some r ↦ is_open r.state ]) h.here ∙ ap is_open h.state_so)
    by call None e = ap is_some e ∙ sym (closed call (slice_get w.table.records call) refl e)
