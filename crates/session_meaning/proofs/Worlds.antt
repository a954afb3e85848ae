-- In every world each history is legal and leads to what is there.
use Rattle.std.proofs.Common.{◌≡◌, ℕ, zero, suc, ◌-◌, List, [], ◌∷◌, length, map, replicate, refl, sym, subst, ap, ◌∙◌, Bool, true, false, cond, Option, Some, None}
use Rattle.std.proofs.lemmas.Bool.{eqb-true, eqb-false}
use Rattle.std.specs.Prelude.{fold, slice_get, option_map, unwrap_or, ◌==◌, nat_lt}
use Rattle.std.specs.List.{AllByRecursion, cons_option}
use Rattle.faaslet_meaning.specs.declared.call.CallRecord.{CallRecord}
use Rattle.session_meaning.specs.declared.event.Event.{Event}
use Rattle.session_meaning.specs.declared.event.Event.TheVariants.{Take, Ask, End}
use Rattle.session_meaning.specs.declared.event.Why.{Why}
use Rattle.session_meaning.specs.declared.event.Why.TheVariants as reason
use Rattle.faaslet_meaning.specs.declared.grant.Channel.{Channel}
use Rattle.faaslet_meaning.specs.declared.grant.Channel.TheVariants.{Local, Global, Table as OnTable}
use Rattle.faaslet_meaning.specs.Lists.{first, passes_at, changed}
use Rattle.faaslet_meaning.specs.Channels.{RegionOperation, Operation, on_region, Reply, Question, ask, fills, pulls, pushes, Entry, entry, entries}
use Rattle.faaslet_meaning.specs.CallState.{Invocation, State, runs, asks, over, lost, fresh_state}
use Rattle.faaslet_meaning.specs.Configuration.{Configuration}
use Rattle.faaslet_meaning.specs.Fresh.{Made, makes, breaks, nothing, fresh}
use Rattle.faaslet_meaning.specs.Runs.{invocation}
use Rattle.faaslet_meaning.specs.Region.{Region, Kind, reads, writes, kind, replica, global_value}
use Rattle.faaslet_meaning.specs.Table as table
use Rattle.faaslet_meaning.specs.Table.{TableOperation, submit_request, submit, take_this, finish, look}
use Rattle.faaslet_meaning.specs.Records.{is_open, is_queued}
use Rattle.faaslet_meaning.specs.History.{table_rules}
use Rattle.session_meaning.specs.Plan.{Key, NamedFunction, Request, Plan}
use Rattle.session_meaning.specs.OpenCall.{Machine, stands, is_broken, Open, opened, asking, Ended, ended, answered, machine_by}
use Rattle.session_meaning.specs.World.{World, on_local, on_global, on_table, entered, first_world, start, requested, unused}
use Rattle.session_meaning.specs.Events.{Obstacle, lock_on, answer, obstacle, open_at, why, why_of, why_ask, why_take, Obstacle, put_call, open_of, took, asked, asked_by, finished, finished_by, step, Stand, why_open, Worlds}
use Rattle.session_meaning.specs.Keeping.{ObjectsLead, HistoriesLead}
use Rattle.std.proofs.lemmas.List.{length-replicate}
use Rattle.session_meaning.proofs.Asked.{Belongs, Proper, quiet_proper, reply_proper}
use Rattle.session_meaning.proofs.LegalEntries.{Fits, MachineFits, entered_fits, filled_same, get_apart, get_here, is_open_at, leads_more, passes_apart, passes_more, table_more}

-- ---- The entries of a question.

first_none : {A : Type 0} (o : Option A) (rest : List A) → first (cons_option o rest) ≡ None → (o ≡ None) × (first rest ≡ None)
first_none None rest h = (refl, h)
first_none (Some x) rest h = let no : ⊥ = cc in absurd no

abbrev Fit : Plan → World → ℕ → ℕ → List Entry → Type 0
Fit plan w call host es = Fits plan (fold (entered call host) w es) × (is_open_at (fold (entered call host) w es) call ≡ true)

-- an entry of an operation that nothing stands in the way of
one_entry : (plan : Plan) (w : World) (call host : ℕ) (ch : Channel) (op : Operation) (r : Reply) → Fits plan w → is_open_at w call ≡ true → Belongs ch op → obstacle w call host (ask ch op) ≡ None → Fit plan w call host (entry ch op r ∷ [])
one_entry plan w call host (Local key) (on_region op) r fits is_so belongs free = entered_fits plan w call host (entry (Local key) (on_region op) r) fits is_so belongs (first_none (lock_on w call host (Local key) (kind op)) [] free).0
one_entry plan w call host (Global key) (on_region op) r fits is_so belongs free = entered_fits plan w call host (entry (Global key) (on_region op) r) fits is_so belongs (first_none (lock_on w call host (Global key) (kind op)) [] free).0
one_entry plan w call host (Local key) (Operation.submit f input) r fits is_so belongs free = let no : ⊥ = cc in absurd no
one_entry plan w call host (Local key) (Operation.look c) r fits is_so belongs free = let no : ⊥ = cc in absurd no
one_entry plan w call host (Global key) (Operation.submit f input) r fits is_so belongs free = let no : ⊥ = cc in absurd no
one_entry plan w call host (Global key) (Operation.look c) r fits is_so belongs free = let no : ⊥ = cc in absurd no
one_entry plan w call host OnTable (Operation.submit f input) r fits is_so belongs free = entered_fits plan w call host (entry OnTable (Operation.submit f input) r) fits is_so belongs refl
one_entry plan w call host OnTable (Operation.look c) r fits is_so belongs free = entered_fits plan w call host (entry OnTable (Operation.look c) r) fits is_so belongs free
one_entry plan w call host OnTable (on_region op) r fits is_so belongs free = absurd belongs

-- both halves of a move may stand, the local one and the global one
abbrev FreeHalves : World → ℕ → ℕ → ℕ → Kind → Kind → Type 0
FreeHalves w call host key local global = (lock_on w call host (Local key) local ≡ None) × (lock_on w call host (Global key) global ≡ None)

free_halves : (w : World) (call host key : ℕ) (local global : Kind) → first (cons_option (lock_on w call host (Local key) local) (cons_option (lock_on w call host (Global key) global) [])) ≡ None → FreeHalves w call host key local global
free_halves w call host key local global free =
    let here = first_none (lock_on w call host (Local key) local) (cons_option (lock_on w call host (Global key) global) []) free in
    (here.0, (first_none (lock_on w call host (Global key) global) [] here.1).0)

-- from the global value to the replica
inward : (plan : Plan) (w : World) (call host key : ℕ) (a b : RegionOperation) (r s : Reply) → Fits plan w → is_open_at w call ≡ true → FreeHalves w call host key (kind b) (kind a) → Fit plan w call host (entry (Global key) (on_region a) r ∷ entry (Local key) (on_region b) s ∷ [])
inward plan w call host key a b r s fits is_so free =
    let once = entered_fits plan w call host (entry (Global key) (on_region a) r) fits is_so refl free.1 in
    entered_fits plan (on_global w key call a) call host (entry (Local key) (on_region b) s) once.0 once.1 refl free.0

-- from the replica to the global value
outward : (plan : Plan) (w : World) (call host key : ℕ) (a b : RegionOperation) (r s : Reply) → Fits plan w → is_open_at w call ≡ true → FreeHalves w call host key (kind a) (kind b) → Fit plan w call host (entry (Local key) (on_region a) r ∷ entry (Global key) (on_region b) s ∷ [])
outward plan w call host key a b r s fits is_so free =
    let once = entered_fits plan w call host (entry (Local key) (on_region a) r) fits is_so refl free.0 in
    entered_fits plan (on_local w host key call a) call host (entry (Global key) (on_region b) s) once.0 once.1 refl free.1

question_fits : (plan : Plan) (w : World) (call host : ℕ) (q : Question) (r : Reply) → Fits plan w → is_open_at w call ≡ true → Proper q → obstacle w call host q ≡ None → Fit plan w call host (entries q r)
question_fits plan w call host q Reply.want fits is_so proper free = (fits, is_so)
question_fits plan w call host (ask ch op) r fits is_so proper free = one_entry plan w call host ch op r fits is_so proper free
question_fits plan w call host (fills key n) (Reply.bytes bs) fits is_so proper free = inward plan w call host key (RegionOperation.send 0 n) (RegionOperation.fill bs) (Reply.bytes bs) Reply.done fits is_so (free_halves w call host key reads reads free)
question_fits plan w call host (pulls key off len) (Reply.bytes bs) fits is_so proper free = inward plan w call host key (RegionOperation.send off len) (RegionOperation.take off bs) (Reply.bytes bs) Reply.done fits is_so (free_halves w call host key writes reads free)
question_fits plan w call host (pushes key off len) (Reply.bytes bs) fits is_so proper free = outward plan w call host key (RegionOperation.send off len) (RegionOperation.put off bs) (Reply.bytes bs) Reply.done fits is_so (free_halves w call host key reads writes free)
question_fits plan w call host q r fits is_so proper free = (fits, is_so)

-- ---- A call in its place.

some_in : (calls : List (Option Open)) (call : ℕ) (x : Option Open) (o : Open) → unwrap_or (slice_get (changed calls call (λ old. x)) call) None ≡ Some o → x ≡ Some o
some_in calls call x o h = by (slice_get calls call) (sym (ap (λ g. unwrap_or g None) (get_here calls call (λ old. x))) ∙ h)
  where
    by : (g : Option (Option Open)) → unwrap_or (option_map (λ old. x) g) None ≡ Some o → x ≡ Some o
    by None h = let no : ⊥ = cc in absurd no
    by (Some old) h = h

put_fits : (plan : Plan) (w : World) (call : ℕ) (x : Option Open) → Fits plan w → ((o : Open) → x ≡ Some o → (is_open_at w call ≡ true) × MachineFits o.machine) → Fits plan (put_call w call x)
put_fits plan w call x fits new =
    (record { table = fits.0.table; hosts = fits.0.hosts; locals = fits.0.locals; globals = fits.0.globals }, λ c o e. by c o (c == call) refl e)
  where
    by : (c : ℕ) (o : Open) (b : Bool) → (c == call) ≡ b → open_at (put_call w call x) c ≡ Some o → (is_open_at w c ≡ true) × MachineFits o.machine
    by c o true h e =
        let same = eqb-true c call h in
        subst (λ m. (is_open_at w m ≡ true) × MachineFits o.machine) (sym same) (new o (some_in w.calls call x o (subst (λ m. open_at (put_call w call x) m ≡ Some o) same e)))
    by c o false h e = fits.1 c o (sym (ap (λ g. unwrap_or g None) (get_apart w.calls call c (λ old. x) (eqb-false c call h))) ∙ e)

-- ---- Events.

asked_fits : (plan : Plan) (w : World) (call : ℕ) (o : Open) (s : State) (q : Question) → Fits plan w → is_open_at w call ≡ true → Proper q → obstacle w call o.host q ≡ None → Fits plan (asked w call o s q)
asked_fits plan w call o s q fits is_so proper free =
    let r = answer w call o.host q in
    let after = question_fits plan w call o.host q r fits is_so proper free in
    put_fits plan (fold (entered call o.host) w (entries q r)) call (Some (answered o s r (entries q r))) after.0 (λ p e. (after.1, subst (λ m. MachineFits m.machine) (some_same _ p e) (quiet_proper o.invocation _ (reply_proper o.invocation s r))))
  where
    some_same : (a b : Open) → Some a ≡ Some b → a ≡ b
    some_same a b e = cc

ask_fits : (plan : Plan) (w : World) (call : ℕ) (o : Open) → Fits plan w → (is_open_at w call ≡ true) × MachineFits o.machine → why_ask w call o ≡ None → Fits plan (asked_by w call o)
ask_fits plan w call o fits both free = by o.machine both.1 free
  where
    none_of : (x : Option Obstacle) → option_map why_of x ≡ None → x ≡ None
    none_of None h = refl
    none_of (Some x) h = let no : ⊥ = cc in absurd no

    by : (m : Machine) → MachineFits m → ◌≡◌ {A = Option Why} (elim (asking m) [ None ↦ Some reason.HasEnded | Some a ↦ option_map why_of (obstacle w call o.host a.1) ]) None → Fits plan (elim (asking m) [ None ↦ w | Some a ↦ asked w call o a.0 a.1 ])
    by (stands (asks s q)) proper free = asked_fits plan w call o s q fits both.0 proper (none_of (obstacle w call o.host q) free)
    by (stands (runs s)) proper free = fits
    by (stands (over s p)) proper free = fits
    by (stands lost) proper free = fits
    by (is_broken k) proper free = fits

none_some : (o : Open) → ◌≡◌ {A = Option Open} None (Some o) → ⊥
none_some o e = cc

end_fits : (plan : Plan) (w : World) (call : ℕ) (o : Open) (e : Ended) → Fits plan w → is_open_at w call ≡ true → Fits plan (finished w call o e)
end_fits plan w call o e fits is_so = (
  record {
    table = leads_more table_rules _ w.table w.table_history call op fits.0.table is_so;
    hosts = fits.0.hosts;
    locals = fits.0.locals;
    globals = fits.0.globals;
  },
  λ c p h. by c p (c == call) refl h,
)
  where
    op : TableOperation
    op = finish call e.outcome e.used e.output o.counts

    by : (c : ℕ) (p : Open) (b : Bool) → (c == call) ≡ b → open_at (finished w call o e) c ≡ Some p → (is_open_at (finished w call o e) c ≡ true) × MachineFits p.machine
    by c p true h k =
        let same = eqb-true c call h in
        let no : ⊥ = none_some p (some_in (on_table w call op).calls call None p (subst (λ m. open_at (finished w call o e) m ≡ Some p) same k)) in
        absurd no
    by c p false h k =
        let apart = eqb-false c call h in
        let before = sym (filled_same w.calls (length (table.after w.table call op).records - length w.calls) c) ∙ sym (ap (λ g. unwrap_or g None) (get_apart (on_table w call op).calls call c (λ old. None) apart)) ∙ k in
        let known = fits.1 c p before in
        (passes_apart (λ r. is_open r.state) w.table.records call c _ apart ∙ known.0, known.1)

opened_fits : (plan : Plan) (r : CallRecord) (host : ℕ) (o : Open) → open_of plan r host ≡ Some o → MachineFits o.machine
opened_fits plan r host o h = by (slice_get plan.functions r.function) h
  where
    fresh_fits : (j : Invocation) (m : Made Configuration) → MachineFits (machine_by j m)
    fresh_fits j (makes c) = quiet_proper j (runs (fresh_state c)) tt
    fresh_fits j (breaks k) = tt
    fresh_fits j nothing = tt

    by : (f : Option NamedFunction) → option_map (λ f. opened f.function r.input host) f ≡ Some o → MachineFits o.machine
    by None e = let no : ⊥ = cc in absurd no
    by (Some f) e = let same : opened f.function r.input host ≡ o = cc in subst (λ p. MachineFits p.machine) same (fresh_fits (invocation f.function r.input) (fresh f.function))

take_fits : (plan : Plan) (w : World) (call host : ℕ) (r : CallRecord) → Fits plan w → slice_get w.table.records call ≡ Some r → is_queued r.state ≡ true → Fits plan (took plan w call host r)
take_fits plan w call host r fits here queued =
    let v = table_more plan w call (take_this call host call) fits (ap (λ g. elim g [ None ↦ false | Some x ↦ is_queued x.state ]) here ∙ queued) (λ c h. stays c h (c == call) refl) in
    put_fits plan (on_table w call (take_this call host call)) call (open_of plan r host) v (λ o e. (opens, opened_fits plan r host o e))
  where
    opens : passes_at (λ r. is_open r.state) (table.taken w.table call host call).records call ≡ true
    opens = ap (λ g. elim g [ None ↦ false | Some x ↦ is_open x.state ]) (get_here w.table.records call _ ∙ ap (option_map _) here)

    stays : (c : ℕ) → is_open_at w c ≡ true → (b : Bool) → (c == call) ≡ b → passes_at (λ r. is_open r.state) (table.taken w.table call host call).records c ≡ true
    stays c h true e = subst (λ m. passes_at (λ r. is_open r.state) (table.taken w.table call host call).records m ≡ true) (sym (eqb-true c call e)) opens
    stays c h false e = passes_apart (λ r. is_open r.state) w.table.records call c _ (eqb-false c call e) ∙ h

-- ---- Whatever may stand.

step_fits : (plan : Plan) (w : World) (e : Event) → Fits plan w → why w e ≡ None → Fits plan (step plan w e)
step_fits plan w (Take call host) fits free = by (slice_get w.table.records call) refl free
  where
    queued : (r : CallRecord) (a b : Bool) → cond a (cond b None (Some reason.NotQueued)) (Some reason.NoHost) ≡ None → b ≡ true
    queued r true true h = refl
    queued r true false h = let no : ⊥ = cc in absurd no
    queued r false b h = let no : ⊥ = cc in absurd no

    by : (r : Option CallRecord) → slice_get w.table.records call ≡ r → ◌≡◌ {A = Option Why} (elim r [ None ↦ Some reason.NoCall | Some r ↦ why_take w r host ]) None → Fits plan (elim r [ None ↦ w | Some r ↦ took plan w call host r ])
    by None here h = fits
    by (Some r) here h = take_fits plan w call host r fits here (queued r (nat_lt host w.table.hosts) (is_queued r.state) h)
step_fits plan w (Ask call) fits free = by (slice_get w.table.records call) free
  where
    opened_at : (o : Option Open) → open_at w call ≡ o → ◌≡◌ {A = Option Why} (elim o [ None ↦ Some reason.NotOpen | Some o ↦ why_ask w call o ]) None → Fits plan (elim o [ None ↦ w | Some o ↦ asked_by w call o ])
    opened_at None here h = fits
    opened_at (Some o) here h = ask_fits plan w call o fits (fits.1 call o here) h

    by : (r : Option CallRecord) → ◌≡◌ {A = Option Why} (elim r [ None ↦ Some reason.NoCall | Some r ↦ why_open w call (why_ask w call) ]) None → Fits plan (step plan w (Ask call))
    by None h = let no : ⊥ = cc in absurd no
    by (Some r) h = opened_at (open_at w call) refl h
step_fits plan w (End call) fits free = by (open_at w call) refl
  where
    ends : (o : Open) (e : Option Ended) → is_open_at w call ≡ true → Fits plan (elim e [ None ↦ w | Some e ↦ finished w call o e ])
    ends o None is_so = fits
    ends o (Some e) is_so = end_fits plan w call o e fits is_so

    by : (o : Option Open) → open_at w call ≡ o → Fits plan (elim o [ None ↦ w | Some o ↦ finished_by w call o ])
    by None here = fits
    by (Some o) here = ends o (ended o) (fits.1 call o here).0

all_fit : (plan : Plan) (w : World) (es : List Event) → Fits plan w → Stand plan w es → Fits plan (fold (step plan) w es)
all_fit plan w [] fits stand = fits
all_fit plan w (e ∷ es) fits stand = all_fit plan (step plan w e) es (step_fits plan w e fits stand.0) stand.1

-- ---- The first world.

objects_start : (start : Key → Region) (ks : List Key) → ObjectsLead start ks (map (λ k. unused (start k)) ks)
objects_start start [] = tt
objects_start start (k ∷ ks) = (record { legal = tt; end_so = refl }, objects_start start ks)

hosts_start : (plan : Plan) (n : ℕ) → AllByRecursion (ObjectsLead (λ k. replica k.size) plan.keys) (replicate n (map (λ k. unused (replica k.size)) plan.keys))
hosts_start plan zero = tt
hosts_start plan (suc n) = (objects_start (λ k. replica k.size) plan.keys, hosts_start plan n)

start_fits : (plan : Plan) → Fits plan (start plan)
start_fits plan = (
  record {
    table = record { legal = tt; end_so = refl };
    hosts = length-replicate plan.hosts (map (λ k. unused (replica k.size)) plan.keys);
    locals = hosts_start plan plan.hosts;
    globals = objects_start (λ k. global_value k.size k.init) plan.keys;
  },
  λ c o e. let no : ⊥ = none_some o e in absurd no,
)

request_fits : (plan : Plan) (w : World) (r : Request) → Fits plan w → Fits plan (requested w r)
request_fits plan w r fits = table_more plan w (length w.table.records) (submit_request r.function r.host r.input) fits refl (λ c h. passes_more (λ r. is_open r.state) w.table.records _ c h)

requests_fit : (plan : Plan) (w : World) (rs : List Request) → Fits plan w → Fits plan (fold requested w rs)
requests_fit plan w [] fits = fits
requests_fit plan w (r ∷ rs) fits = requests_fit plan (requested w r) rs (request_fits plan w r fits)

pub histories_lead : (plan : Plan) (events : List Event) (w : World) → Worlds plan events w → HistoriesLead plan w
histories_lead plan events w h =
    subst (HistoriesLead plan) (sym h.world_so) (all_fit plan (first_world plan) events (requests_fit plan (start plan) plan.requests (start_fits plan)) h.stand).0
