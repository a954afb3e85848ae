-- The history of the whole table: the requests come first, and all is made by whoever makes such entries.
use Rattle.std.proofs.Common.{◌≡◌, ◌≢◌, ℕ, suc, ◌<◌, Bool, true, false, cond, not, List, [], ◌∷◌, ◌++◌, refl, sym, ap, ap₂, ◌∙◌, subst, map, length, filter, filter_map}
use Rattle.std.specs.Prelude.{nat_lt, ◌==◌, ◌&&◌}
use Rattle.std.specs.List.{All, AllByRecursion, list_all, cons_option}
use Rattle.std.proofs.lemmas.Bool.{lt-ltb, eqb-true}
use Rattle.std.proofs.lemmas.List.{map-append}
use Rattle.std.proofs.lemmas.List.Elements.{All-head, All-tail}
use Rattle.faaslet_meaning.specs.Channels.{Reply}
use Rattle.faaslet_meaning.specs.History.{History, Leads, told_to, table_rules}
use Rattle.faaslet_meaning.specs.Spelling.{spelled_on_table}
use Rattle.faaslet_meaning.specs.Table as table
use Rattle.faaslet_meaning.specs.Table.{Table, TableOperation, submit_request, submit, take_next, take_this, finish, look}
use Rattle.session_meaning.specs.Answered.{Answered, of_table, asked_on_table}
use Rattle.session_meaning.specs.Own.{Session, benches, made_by}
use Rattle.session_meaning.specs.Plan.{Plan, Request}
use Rattle.session_meaning.specs.Ran.{is_question, is_request, by_its_maker, TableRan}
use Rattle.turn_cell.specs.declared.view.Entry.{Entry}
use Rattle.turn_cell.specs.History.{entry}
use Rattle.call_table.specs.Makers.{session}
use Rattle.call_table.specs.Session.{SessionTable}
use Rattle.call_service.proofs.Led.{spelling, Fit, Behind, behind}
use Rattle.session_ends.specs.Ended.{EndedTable}
use Rattle.session_ends.specs.Opened.{first_session, request_entries}
use Rattle.session_ends.specs.Session.{pairs}
use Rattle.session_ends.proofs.Makers.{WellMade, WellLed}

-- ---- Each entry of a history.

rest_made : (plan : Plan) (xs ys : History TableOperation) → AllByRecursion (WellMade plan) (xs ++ ys) → AllByRecursion (WellMade plan) ys
rest_made plan [] ys h = h
rest_made plan (x ∷ xs) ys h = rest_made plan xs ys h.1

all_made : (plan : Plan) (h : History TableOperation) → AllByRecursion (WellMade plan) h → list_all (by_its_maker plan) h ≡ true
all_made plan [] m = refl
all_made plan (e ∷ es) m = ap₂ (λ a b. a && b) m.0.0 (all_made plan es m.1)

-- ---- The requests.

abbrev asked : Plan → Request → ℕ × TableOperation
asked plan r = (session (first_session plan), submit_request r.function r.host r.input)

abbrev requests_of : Plan → List Request → History TableOperation
requests_of plan rs = map (asked plan) rs

entries_of : (plan : Plan) (rs : List Request) → pairs (map (λ r. entry (session (first_session plan)) (spelled_on_table (submit_request r.function r.host r.input))) rs) ≡ map spelling (requests_of plan rs)
entries_of plan [] = refl
entries_of plan (r ∷ rs) = ap (λ l. spelling (asked plan r) ∷ l) (entries_of plan rs)

requests_fit : (plan : Plan) (rs : List Request) → Fit (requests_of plan rs)
requests_fit plan [] = tt
requests_fit plan (r ∷ rs) = (tt, requests_fit plan rs)

requests_so : (plan : Plan) (rs : List Request) → map (λ e. e.1) (requests_of plan rs) ≡ map (λ r. submit_request r.function r.host r.input) rs
requests_so plan [] = refl
requests_so plan (r ∷ rs) = ap (λ l. submit_request r.function r.host r.input ∷ l) (requests_so plan rs)

-- behind them there is none, since each is the session's
no_request : (plan : Plan) (rest : List Entry) (h : History TableOperation) → pairs rest ≡ map spelling h → All (λ e. e.maker ≢ session (first_session plan)) rest → AllByRecursion (WellMade plan) h → list_all (λ e. not (is_request e.1)) h ≡ true
no_request plan rest [] e others made = refl
no_request plan [] (x ∷ h) e others made = let no : ⊥ = cc in absurd no
no_request plan (r ∷ rest) (x ∷ h) e others made =
    let head : ◌≡◌ {A = ℕ × List ℕ} (r.maker, r.numbers) (spelling x) = cc in
    let tail : pairs rest ≡ map spelling h = cc in
    let maker : r.maker ≡ x.0 = ap (λ (z : ℕ × List ℕ). z.0) head in
    by (is_request x.1) refl (λ i. All-head (λ (d : Entry). d.maker ≢ session (first_session plan)) r rest others (maker ∙ made.0.1 i)) (no_request plan rest h tail (All-tail (λ (d : Entry). d.maker ≢ session (first_session plan)) r rest others) made.1)
  where
    by : (b : Bool) → is_request x.1 ≡ b → (is_request x.1 ≡ true → ⊥) → list_all (λ e. not (is_request e.1)) h ≡ true → (not b && list_all (λ e. not (is_request e.1)) h) ≡ true
    by true i none k = absurd (none i)
    by false i none k = k

pub table_ran : (plan : Plan) (s : Session) (end : SessionTable) (list : List Entry) → EndedTable plan list end → (led : WellLed plan (first_session plan) end list) → s.table_history ≡ led.history → s.records ≡ end.table.records → TableRan plan s
table_ran plan s end list ended led history_so records_so =
    let x = ended.requests_first in
    let front = requests_of plan plan.requests in
    let parts : map spelling front ++ pairs x.0 ≡ map spelling led.history = ap (λ l. l ++ pairs x.0) (sym (entries_of plan plan.requests)) ∙ (sym (map-append (λ (e : Entry). (e.maker, e.numbers)) (request_entries plan) x.0) ∙ (ap pairs x.1 ∙ led.spells.spells)) in
    let b : Behind front led.history (pairs x.0) = behind front led.history (pairs x.0) (requests_fit plan plan.requests) led.spells.fits parts in
    record {
      requested = front;
      rest = b.back;
      split = history_so ∙ b.parts;
      requests = requests_so plan plan.requests;
      no_more = no_request plan x.0 b.back b.spells x.2 (rest_made plan front b.back (subst (AllByRecursion (WellMade plan)) b.parts led.made));
      makers = ap (list_all (by_its_maker plan)) history_so ∙ all_made plan led.history led.made;
      end = end.table;
      leads = subst (λ h. Leads table_rules (first_session plan).table h end.table) (sym history_so) led.leads;
      records = records_so;
    }

-- ---- A bench has as many entries as questions.

asks_one : (op : TableOperation) (r : Reply) (rest : List Answered) → is_question op ≡ true → length (cons_option (of_table (op, r)) rest) ≡ suc (length rest)
asks_one (submit parent f input) r rest i = refl
asks_one (look parent child) r rest i = refl
asks_one (submit_request f host input) r rest i = let no : ⊥ = cc in absurd no
asks_one (take_next host bench) r rest i = let no : ⊥ = cc in absurd no
asks_one (take_this call host bench) r rest i = let no : ⊥ = cc in absurd no
asks_one (finish call o used output counts) r rest i = let no : ⊥ = cc in absurd no

question_of : (plan : Plan) (e : ℕ × TableOperation) → nat_lt e.0 (benches plan) ≡ true → by_its_maker plan e ≡ true → is_question e.1 ≡ true
question_of plan e low made = by (is_question e.1) (nat_lt e.0 (benches plan)) low made
  where
    by : (b c : Bool) → c ≡ true → cond b c (not c) ≡ true → b ≡ true
    by true c l m = refl
    by false true l m = let no : ⊥ = cc in absurd no
    by false false l m = let no : ⊥ = cc in absurd no

pub bench_asks : (plan : Plan) (bench : ℕ) (t : Table) (h : History TableOperation) → bench < benches plan → AllByRecursion (WellMade plan) h → made_by bench h ≡ length (asked_on_table bench t h)
bench_asks plan bench t [] low made = refl
bench_asks plan bench t (e ∷ es) low made = by (e.0 == bench) refl (bench_asks plan bench (table.after t e.0 e.1) es low made.1)
  where
    rest : List (TableOperation × Reply)
    rest = told_to table_rules bench (table.after t e.0 e.1) es

    by : (b : Bool) → (e.0 == bench) ≡ b → made_by bench es ≡ length (filter_map of_table rest)
        → length {A = ℕ × TableOperation} (cond b (e ∷ filter (λ e. e.0 == bench) es) (filter (λ e. e.0 == bench) es)) ≡ length (filter_map of_table (cond b ((e.1, table.reply t e.0 e.1) ∷ rest) rest))
    by true i k =
        let own : nat_lt e.0 (benches plan) ≡ true = lt-ltb e.0 (benches plan) (subst (λ n. n < benches plan) (sym (eqb-true e.0 bench i)) low) in
        ap suc k ∙ sym (asks_one e.1 (table.reply t e.0 e.1) (filter_map of_table rest) (question_of plan e own made.0.0))
    by false i k = k
