-- What is left of a session spells one that ran at most: the results of its calls, which stand in the records, are i32.
use Rattle.std.proofs.Common.{◌≡◌, ◌⊎◌, inl, inr, ℕ, zero, suc, Bool, true, false, cond, List, [], ◌∷◌, ◌++◌, Option, Some, None, refl, sym, ap, ◌∙◌, subst, slice_get, slice_set, option_map}
use Rattle.faaslet_meaning.specs.declared.call.CallRecord.{CallRecord}
use Rattle.faaslet_meaning.specs.declared.call.CallState.{CallState}
use Rattle.faaslet_meaning.specs.declared.call.CallState.TheVariants.{Queued, Taken, Finished}
use Rattle.faaslet_meaning.specs.declared.outcome.Outcome.{Outcome}
use Rattle.faaslet_meaning.specs.History.{History, Legal, left, table_rules}
use Rattle.faaslet_meaning.specs.Lists.{changed, passes_at}
use Rattle.faaslet_meaning.specs.Records.{is_queued, is_open, takes}
use Rattle.faaslet_meaning.specs.Spelling.{CodeFits, OperationFits}
use Rattle.faaslet_meaning.specs.Table as table
use Rattle.faaslet_meaning.specs.Table.{Table, TableOperation, empty_table, has_room, queued_record, child_record, one_more_child, finished_state, taken, next, submit_request, submit, take_next, take_this, finish, look}
use Rattle.session_meaning.specs.Own.{Session}
use Rattle.session_meaning.specs.Plan.{Plan, callables}
use Rattle.session_meaning.specs.Ran.{Ran}
use Rattle.session_meaning.specs.Seen.{ResultsFit, Seen, SpellsSession}
use Rattle.session_meaning.proofs.HistoryCuts.{next_queued}
use Rattle.session_meaning.proofs.Kept.{get_changed_here}
use Rattle.session_meaning.proofs.Later.{push_stays, submitted_by}
use Rattle.session_meaning.proofs.OneSession.{one_session}
use Rattle.call_table.proofs.Places.{passes_there}
use Rattle.session_ends.specs.Opened.{first_session}
use Rattle.session_ends.specs.Session.{EndedSession}
use Rattle.session_ends.proofs.Makers.{Sits, well_led, good_first}

-- ---- The result of a finished call is an i32.

abbrev Fit : CallState → Type 0
Fit Queued = Unit {0}
Fit (Taken host bench order) = Unit {0}
Fit (Finished host bench order o used output counts) = CodeFits o

abbrev AllFit : List CallRecord → Type 0
AllFit rs = (n : ℕ) (r : CallRecord) → slice_get rs n ≡ Some r → Fit r.state

sits_fit : (plan : Plan) (s : CallState) → Sits plan s → Fit s
sits_fit plan Queued h = tt
sits_fit plan (Taken host bench order) h = tt
sits_fit plan (Finished host bench order o used output counts) h = h.1

-- ---- So it was before, since what is finished stays.

push_back_fits : (rs ys : List CallRecord) → AllFit (rs ++ ys) → AllFit rs
push_back_fits rs ys all n r e = all n r (push_stays rs ys n r e)

-- a record that was changed, or the same
record There (rs xs : List CallRecord) (n : ℕ) (f : CallRecord → CallRecord) (m : ℕ) (r : CallRecord) : Type 0 where
  pub now : CallRecord
  pub at : slice_get xs m ≡ Some now
  pub how : (now ≡ r) ⊎ ((m ≡ n) × (now ≡ f r))

set_there : (rs : List CallRecord) (n : ℕ) (y : CallRecord) (f : CallRecord → CallRecord) (m : ℕ) (r : CallRecord) → slice_get rs n ≡ Some y → slice_get rs m ≡ Some r → There rs (slice_set rs n (f y)) n f m r
set_there [] n y f m r d e = let no : ⊥ = cc in absurd no
set_there (x ∷ rs) zero y f zero r d e = let same : y ≡ r = cc in record { now = f y; at = refl; how = inr (refl, ap f same) }
set_there (x ∷ rs) zero y f (suc m) r d e = record { now = r; at = e; how = inl refl }
set_there (x ∷ rs) (suc n) y f zero r d e = record { now = r; at = e; how = inl refl }
set_there (x ∷ rs) (suc n) y f (suc m) r d e = let t = set_there rs n y f m r d e in record { now = t.now; at = t.at; how = more t.now t.how }
  where
    more : (z : CallRecord) → (z ≡ r) ⊎ ((m ≡ n) × (z ≡ f r)) → (z ≡ r) ⊎ ((suc m ≡ suc n) × (z ≡ f r))
    more z (inl h) = inl h
    more z (inr h) = inr (ap suc h.0, h.1)

changed_there : (rs : List CallRecord) (n : ℕ) (f : CallRecord → CallRecord) (m : ℕ) (r : CallRecord) → slice_get rs m ≡ Some r → There rs (changed rs n f) n f m r
changed_there rs n f m r e = by (slice_get rs n) refl
  where
    by : (o : Option CallRecord) → slice_get rs n ≡ o → There rs (elim o [ None ↦ rs | Some x ↦ slice_set rs n (f x) ]) n f m r
    by None d = record { now = r; at = e; how = inl refl }
    by (Some y) d = set_there rs n y f m r d e

changed_back_fits : (rs : List CallRecord) (n : ℕ) (f : CallRecord → CallRecord) → ((r : CallRecord) → slice_get rs n ≡ Some r → Fit (f r).state → Fit r.state) → AllFit (changed rs n f) → AllFit rs
changed_back_fits rs n f back all m r e = let t = changed_there rs n f m r e in by t.now t.how (all m t.now t.at)
  where
    by : (z : CallRecord) → (z ≡ r) ⊎ ((m ≡ n) × (z ≡ f r)) → Fit z.state → Fit r.state
    by z (inl h) k = subst (λ (y : CallRecord). Fit y.state) h k
    by z (inr h) k = back r (ap (slice_get rs) (sym h.0) ∙ e) (subst (λ (y : CallRecord). Fit y.state) h.1 k)

queued_fits : (s : CallState) → is_queued s ≡ true → Fit s
queued_fits Queued e = tt
queued_fits (Taken host bench order) e = tt
queued_fits (Finished host bench order o used output counts) e = let no : ⊥ = cc in absurd no

open_fits : (s : CallState) → is_open s ≡ true → Fit s
open_fits Queued e = tt
open_fits (Taken host bench order) e = tt
open_fits (Finished host bench order o used output counts) e = let no : ⊥ = cc in absurd no

finished_code : (s : CallState) (o : Outcome) (used : ℕ) (output counts : List ℕ) → is_open s ≡ true → Fit (finished_state s o used output counts) → CodeFits o
finished_code Queued o used output counts e h = let no : ⊥ = cc in absurd no
finished_code (Taken host bench order) o used output counts e h = h
finished_code (Finished host bench order x n ys zs) o used output counts e h = let no : ⊥ = cc in absurd no

-- who passes a test at a place does so whenever it is read there
passing : (test : CallState → Bool) (rs : List CallRecord) (call : ℕ) (r : CallRecord) → passes_at (λ r. test r.state) rs call ≡ true → slice_get rs call ≡ Some r → test r.state ≡ true
passing test rs call r h e = sym (ap (λ (o : Option CallRecord). elim o as (λ o. Bool) [ None ↦ false | Some x ↦ test x.state ]) e) ∙ h

taken_back : (t : Table) (call host bench : ℕ) → passes_at (λ r. is_queued r.state) t.records call ≡ true → AllFit (taken t call host bench).records → AllFit t.records
taken_back t call host bench h all = changed_back_fits t.records call (λ r. record r { state = Taken host bench (takes t.records) }) (λ r e k. queued_fits r.state (passing is_queued t.records call r h e)) all

finish_code : (rs : List CallRecord) (call : ℕ) (o : Outcome) (used : ℕ) (output counts : List ℕ) → passes_at (λ r. is_open r.state) rs call ≡ true → AllFit (changed rs call (λ r. record r { state = finished_state r.state o used output counts })) → CodeFits o
finish_code rs call o used output counts h all =
    let p = passes_there (λ r. is_open r.state) rs call h in
    let f : CallRecord → CallRecord = λ r. record r { state = finished_state r.state o used output counts } in
    let at : slice_get (changed rs call f) call ≡ Some (f p.item) = get_changed_here rs call f ∙ ap (λ (z : Option CallRecord). option_map f z) p.there in
    finished_code p.item.state o used output counts p.passes (all call (f p.item) at)

back_fits : (t : Table) (m : ℕ) (op : TableOperation) → table.may t m op ≡ true → AllFit (table.after t m op).records → OperationFits op × AllFit t.records
back_fits t m (submit_request f host input) may all = (tt, push_back_fits t.records (queued_record t f host input ∷ []) all)
back_fits t m (submit parent f input) may all = (tt, by (slice_get t.records parent) all)
  where
    room : (p : CallRecord) (b : Bool) → AllFit (cond b (record t { records = changed t.records parent one_more_child ++ child_record t parent p f input ∷ [] }) t).records → AllFit t.records
    room p true h = changed_back_fits t.records parent one_more_child (λ r e k. k) (push_back_fits (changed t.records parent one_more_child) (child_record t parent p f input ∷ []) h)
    room p false h = h

    by : (o : Option CallRecord) → AllFit (submitted_by t parent f input o).records → AllFit t.records
    by None h = h
    by (Some p) h = room p (has_room t p f input) h
back_fits t m (take_next host bench) may all = (tt, by (next t host) refl all)
  where
    by : (o : Option ℕ) → next t host ≡ o → AllFit (elim o as (λ o. Table) [ None ↦ t | Some call ↦ taken t call host bench ]).records → AllFit t.records
    by None e h = h
    by (Some call) e h = taken_back t call host bench (next_queued t host call e) h
back_fits t m (take_this call host bench) may all = (tt, taken_back t call host bench may all)
back_fits t m (finish call o used output counts) may all = (
  finish_code t.records call o used output counts may all,
  changed_back_fits t.records call (λ r. record r { state = finished_state r.state o used output counts }) (λ r e k. open_fits r.state (passing is_open t.records call r may e)) all,
)
back_fits t m (look parent child) may all = (tt, all)

history_fits : (t : Table) (h : History TableOperation) → Legal table_rules t h → AllFit (left table_rules t h).records → ResultsFit h × AllFit t.records
history_fits t [] legal all = (tt, all)
history_fits t (e ∷ es) legal all =
    let rest = history_fits (table.after t e.0 e.1) es legal.1 all in
    let one = back_fits t e.0 e.1 legal.0 rest.1 in
    ((one.0, rest.0), one.1)

-- ---- So of each session that ran and has these records.

results_fit : (plan : Plan) (seen : Seen) (finals : List (List ℕ)) (s : Session) → EndedSession plan seen finals → SpellsSession seen s → Ran plan s finals → ResultsFit s.table_history
results_fit plan seen finals s x spells ran =
    let led = well_led plan (first_session plan) x.end x.table (good_first plan) x.on_table.stands in
    let same : x.end.table.records ≡ (left table_rules (empty_table plan.hosts (callables plan)) s.table_history).records =
    sym (ap (λ (z : Seen). z.records) x.seen_so) ∙ spells.records ∙ ran.table.records ∙ ap (λ (t : Table). t.records) ran.table.leads.end_so in
    let all : AllFit x.end.table.records = λ n r e. sits_fit plan r.state (led.good.sit n r e) in
    (history_fits (empty_table plan.hosts (callables plan)) s.table_history ran.table.leads.legal (subst AllFit same all)).0

pub ended_is_one : (plan : Plan) (seen : Seen) (finals : List (List ℕ)) → EndedSession plan seen finals → (s t : Session) → SpellsSession seen s → SpellsSession seen t → Ran plan s finals → Ran plan t finals → s ≡ t
ended_is_one plan seen finals x s t a b ran_s ran_t = one_session seen s t a b (results_fit plan seen finals s x a ran_s) (results_fit plan seen finals t x b ran_t)
