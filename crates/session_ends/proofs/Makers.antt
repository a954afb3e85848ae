-- Who made which entry of a table: each call that was taken is on a bench of the plan, so questions come from benches, and whatever
-- else there is from others.
use Rattle.std.proofs.Common.{◌≡◌, ◌⊎◌, inl, inr, ℕ, ◌+◌, ◌<◌, ◌≤◌, Bool, true, false, cond, not, List, [], ◌∷◌, ◌++◌, Option, Some, None, refl, sym, ap, ap₂, ◌∙◌, subst, slice_get, arith, eqb-true}
use Rattle.std.specs.Prelude.{◌*◌, nat_lt}
use Rattle.std.specs.List.{AllByRecursion}
use Rattle.std.proofs.Math.Nat.{mul_assoc}
use Rattle.std.proofs.lemmas.Bool.{lt-ltb, le-ltb}
use Rattle.faaslet_meaning.specs.declared.call.CallRecord.{CallRecord}
use Rattle.faaslet_meaning.specs.declared.call.CallState.{CallState}
use Rattle.faaslet_meaning.specs.declared.call.CallState.TheVariants.{Queued, Taken, Finished}
use Rattle.faaslet_meaning.specs.declared.outcome.Outcome.{Outcome}
use Rattle.faaslet_meaning.specs.History.{History, Legal, Leads, left, table_rules}
use Rattle.faaslet_meaning.specs.Lists.{changed}
use Rattle.faaslet_meaning.specs.Records.{takes}
use Rattle.faaslet_meaning.specs.Spelling.{spelled_on_table, CodeFits, OperationFits}
use Rattle.faaslet_meaning.specs.Table as table
use Rattle.faaslet_meaning.specs.Table.{Table, TableOperation, has_room, queued_record, child_record, one_more_child, finished_state, taken, next, submit_request, submit, take_next, take_this, finish, look}
use Rattle.session_meaning.specs.Own.{benches}
use Rattle.session_meaning.specs.Plan.{Plan}
use Rattle.session_meaning.specs.Ran.{is_request, by_its_maker}
use Rattle.session_meaning.proofs.Invariants.{Back, changed_back, push_back}
use Rattle.session_meaning.proofs.Later.{submitted_by}
use Rattle.turn_cell.specs.declared.view.Entry.{Entry}
use Rattle.turn_cell.specs.History.{Stands}
use Rattle.call_table.specs.Makers as makers
use Rattle.call_table.specs.Makers.{is_on, keeper, session, RunsOn, Keeps, MayMake, MakesTable}
use Rattle.call_table.specs.Session.{SessionTable}
use Rattle.call_table.proofs.Places.{passes_there}
use Rattle.call_service.specs.Heard.{SpellsHistory}
use Rattle.call_service.proofs.Further.{goes_on}
use Rattle.session_ends.specs.Opened.{first_session}
use Rattle.session_ends.specs.Session.{pairs}

-- ---- Records.

-- the bench of a call that was taken is one of the plan's, and its result is an i32
abbrev pub Sits : Plan → CallState → Type 0
Sits plan Queued = Unit {0}
Sits plan (Taken host bench order) = bench < benches plan
Sits plan (Finished host bench order o used output counts) = (bench < benches plan) × CodeFits o

abbrev pub AllSit : Plan → List CallRecord → Type 0
AllSit plan rs = (n : ℕ) (r : CallRecord) → slice_get rs n ≡ Some r → Sits plan r.state

push_sits : (plan : Plan) (rs : List CallRecord) (x : CallRecord) → Sits plan x.state → AllSit plan rs → AllSit plan (rs ++ x ∷ [])
push_sits plan rs x sits all n r e = by (push_back rs x n r e)
  where
    by : (slice_get rs n ≡ Some r) ⊎ (r ≡ x) → Sits plan r.state
    by (inl h) = all n r h
    by (inr h) = subst (λ (y : CallRecord). Sits plan y.state) (sym h) sits

changed_sits : (plan : Plan) (rs : List CallRecord) (call : ℕ) (f : CallRecord → CallRecord) → ((r : CallRecord) → Sits plan r.state → Sits plan (f r).state) → AllSit plan rs → AllSit plan (changed rs call f)
changed_sits plan rs call f more all n r e = by (changed_back rs call f n r e)
  where
    by : Back rs call f n r → Sits plan r.state
    by (inl h) = all n r h
    by (inr h) = subst (λ (y : CallRecord). Sits plan y.state) (sym h.1.2) (more h.1.0 (all n h.1.0 h.1.1))

finished_sits : (plan : Plan) (s : CallState) (o : Outcome) (used : ℕ) (output counts : List ℕ) → CodeFits o → Sits plan s → Sits plan (finished_state s o used output counts)
finished_sits plan Queued o used output counts fits h = tt
finished_sits plan (Taken host bench order) o used output counts fits h = (h, fits)
finished_sits plan (Finished host bench order x n ys zs) o used output counts fits h = h

taken_sits : (plan : Plan) (t : Table) (call host bench : ℕ) → bench < benches plan → AllSit plan t.records → AllSit plan (taken t call host bench).records
taken_sits plan t call host bench low all = changed_sits plan t.records call (λ r. record r { state = Taken host bench (takes t.records) }) (λ r h. low) all

-- ---- What is so of a table of the session.

pub record Good (plan : Plan) (s : SessionTable) : Type 0 where
  pub hosts : s.table.hosts ≡ plan.hosts
  pub workers : s.workers ≡ plan.workers
  pub sit : AllSit plan s.table.records

pub benches_so : (plan : Plan) (s : SessionTable) → Good plan s → makers.benches s ≡ benches plan
benches_so plan s good = ap₂ (λ h w. 8 * (h * w)) good.hosts good.workers ∙ sym (mul_assoc 8 plan.hosts plan.workers)

after_sits : (plan : Plan) (s : SessionTable) (maker : ℕ) (op : TableOperation) → Good plan s → MayMake s maker op → OperationFits op → AllSit plan (table.after s.table maker op).records
after_sits plan s maker (submit_request f host input) good may fits = push_sits plan s.table.records (queued_record s.table f host input) tt good.sit
after_sits plan s maker (submit parent f input) good may fits = by (slice_get s.table.records parent)
  where
    t : Table
    t = s.table

    room : (p : CallRecord) (b : Bool) → AllSit plan (cond b (record t { records = changed t.records parent one_more_child ++ child_record t parent p f input ∷ [] }) t).records
    room p true = push_sits plan (changed t.records parent one_more_child) (child_record t parent p f input) tt (changed_sits plan t.records parent one_more_child (λ r h. h) good.sit)
    room p false = good.sit

    by : (o : Option CallRecord) → AllSit plan (submitted_by t parent f input o).records
    by None = good.sit
    by (Some p) = room p (has_room t p f input)
after_sits plan s maker (take_next host bench) good may fits = by (next s.table host)
  where
    by : (o : Option ℕ) → AllSit plan (elim o as (λ o. Table) [ None ↦ s.table | Some call ↦ taken s.table call host bench ]).records
    by None = good.sit
    by (Some call) = let low = may.bench_so in let same = benches_so plan s good in taken_sits plan s.table call host bench (omega (arith, low, same)) good.sit
after_sits plan s maker (take_this call host bench) good may fits = let low = may.bench_so in let same = benches_so plan s good in taken_sits plan s.table call host bench (omega (arith, low, same)) good.sit
after_sits plan s maker (finish call o used output counts) good may fits = changed_sits plan s.table.records call (λ r. record r { state = finished_state r.state o used output counts }) (λ r h. finished_sits plan r.state o used output counts fits h) good.sit
after_sits plan s maker (look parent child) good may fits = good.sit

good_step : (plan : Plan) (s t : SessionTable) (maker : ℕ) (entry : List ℕ) → Good plan s → MakesTable maker entry s t → Good plan t
good_step plan s t maker entry good made =
    let went = goes_on s t (record { maker = maker; numbers = entry } ∷ []) (t, made, refl) in
    record {
      hosts = went.hosts ∙ good.hosts;
      workers = went.workers ∙ good.workers;
      sit = subst (λ (u : Table). AllSit plan u.records) (sym made.table.after_so) (after_sits plan s maker made.table.operation good made.maker_so made.fits);
    }

pub good_first : (plan : Plan) → Good plan (first_session plan)
good_first plan = record { hosts = refl; workers = refl; sit = λ n r e. let no : ⊥ = cc in absurd no }

-- ---- Makers.

-- the entry is by whoever makes such entries, and a request comes from the session
abbrev pub WellMade : Plan → ℕ × TableOperation → Type 0
WellMade plan e = (by_its_maker plan e ≡ true) × (is_request e.1 ≡ true → e.0 ≡ session (first_session plan))

runs_low : (plan : Plan) (s : SessionTable) (call bench : ℕ) → Good plan s → RunsOn s.table call bench → bench < benches plan
runs_low plan s call bench good on =
    let p = passes_there (λ r. is_on bench r.state) s.table.records call on in
    by p.item.state p.passes (good.sit call p.item p.there)
  where
    by : (x : CallState) → is_on bench x ≡ true → Sits plan x → bench < benches plan
    by Queued e h = let no : ⊥ = cc in absurd no
    by (Taken host b order) e h = subst (λ n. n < benches plan) (eqb-true b bench e) h
    by (Finished host b order o used output counts) e h = let no : ⊥ = cc in absurd no

not_below : (m n : ℕ) → n ≤ m → not (nat_lt m n) ≡ true
not_below m n l = ap not (le-ltb m n l)

keeper_high : (plan : Plan) (s : SessionTable) (bench maker : ℕ) → Good plan s → maker ≡ keeper s bench → not (nat_lt maker (benches plan)) ≡ true
keeper_high plan s bench maker good e = let same = benches_so plan s good in not_below maker (benches plan) (omega (arith, e, same))

session_so : (plan : Plan) (s : SessionTable) → Good plan s → session s ≡ session (first_session plan)
session_so plan s good = ap₂ (λ h w. 8 * (h * w) + h * w) good.hosts good.workers

well_made : (plan : Plan) (s : SessionTable) (maker : ℕ) (op : TableOperation) → Good plan s → MayMake s maker op → WellMade plan (maker, op)
well_made plan s maker (submit_request f host input) good may = (let same = benches_so plan s good in let e = may.0 in not_below maker (benches plan) (omega (arith, e, same)), λ h. may.0 ∙ session_so plan s good)
well_made plan s maker (submit parent f input) good may = (lt-ltb maker (benches plan) (runs_low plan s parent maker good may), λ h. let no : ⊥ = cc in absurd no)
well_made plan s maker (take_next host bench) good may = (keeper_high plan s bench maker good may.maker_so, λ h. let no : ⊥ = cc in absurd no)
well_made plan s maker (take_this call host bench) good may = (keeper_high plan s bench maker good may.maker_so, λ h. let no : ⊥ = cc in absurd no)
well_made plan s maker (finish call o used output counts) good may = (keeper_high plan s may.0 maker good may.2, λ h. let no : ⊥ = cc in absurd no)
well_made plan s maker (look parent child) good may = (lt-ltb maker (benches plan) (runs_low plan s parent maker good may), λ h. let no : ⊥ = cc in absurd no)

-- ---- The history of a list that leads somewhere.

pub record WellLed (plan : Plan) (s t : SessionTable) (list : List Entry) : Type 0 where
  pub history : History TableOperation
  pub spells : SpellsHistory list history
  pub leads : Leads table_rules s.table history t.table
  pub made : AllByRecursion (WellMade plan) history
  pub good : Good plan t

pub well_led : (plan : Plan) (s t : SessionTable) (list : List Entry) → Good plan s → Stands MakesTable s list t → WellLed plan s t list
well_led plan s t [] good st = record { history = []; spells = record { spells = refl; fits = tt }; leads = record { legal = tt; end_so = ap (λ (u : SessionTable). u.table) (sym st) }; made = tt; good = subst (Good plan) st good }
well_led plan s t (e ∷ es) good st =
    let made = st.1.table in
    let rest = well_led plan st.0 t es (good_step plan s st.0 e.maker e.numbers good st.1) st.2 in
    let op = made.operation in
    record {
      history = (e.maker, op) ∷ rest.history;
      spells = record {
        spells = ap (λ x. (e.maker, x) ∷ pairs es) made.spelled_so ∙ ap (λ l. (e.maker, spelled_on_table op) ∷ l) rest.spells.spells;
        fits = (st.1.fits, rest.spells.fits);
      };
      leads = record {
        legal = (made.may_stand, subst (λ u. Legal table_rules u rest.history) made.after_so rest.leads.legal);
        end_so = rest.leads.end_so ∙ ap (λ u. left table_rules u rest.history) made.after_so;
      };
      made = (well_made plan s e.maker op good st.1.maker_so, rest.made);
      good = rest.good;
    }
