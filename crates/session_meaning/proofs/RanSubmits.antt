-- In an ended session each call submits what its function may call, so the entries on calls of closed functions are a history of their
-- own.
use Rattle.std.proofs.Common.{◌≡◌, ℕ, zero, suc, Bool, true, false, List, [], ◌∷◌, ◌++◌, Some, refl, sym, ap, ap₂, ◌∙◌, slice_get, option_map, subst, eqb-true}
use Rattle.std.specs.Prelude.{◌==◌, ◌&&◌, ◌||◌}
use Rattle.std.specs.List.{list_all, list_any}
use Rattle.std.proofs.Math.Logic.{∥∥₁_elim}
use Rattle.std.proofs.Math.Bool.{Bool-set}
use Rattle.std.proofs.lemmas.Bool.{and_parts, eq-eqb}
use Rattle.std.proofs.lemmas.List.{append_assoc}
use Rattle.faaslet_meaning.specs.declared.call.CallRecord.{CallRecord}
use Rattle.faaslet_meaning.specs.declared.grant.Channel.TheVariants.{Local, Global, Table as OnTable}
use Rattle.faaslet_meaning.specs.declared.outcome.Outcome.{Outcome}
use Rattle.faaslet_meaning.specs.CallState.{Invocation, Progress, over}
use Rattle.faaslet_meaning.specs.Channels.{Operation, on_region, Reply, Question, ask, fills, pulls, pushes, Transcript, Told, entries, entries_of, on_channel, told_by}
use Rattle.faaslet_meaning.specs.Configuration.{Configuration}
use Rattle.faaslet_meaning.specs.Fresh.{Function, Made, makes, breaks, nothing, fresh}
use Rattle.faaslet_meaning.specs.Goes.{Goes, here, answered}
use Rattle.faaslet_meaning.specs.Goes as way
use Rattle.faaslet_meaning.specs.History.{History, left, table_rules}
use Rattle.faaslet_meaning.specs.Runs.{invocation, runs_by, Runs}
use Rattle.faaslet_meaning.specs.Table as table
use Rattle.faaslet_meaning.specs.Table.{Table, TableOperation, submit_request, submit, take_next, take_this, finish, look}
use Rattle.faaslet_meaning.proofs.Histories.{left_both}
use Rattle.faaslet_meaning.proofs.Ways.{parted, run_goes}
use Rattle.session_meaning.specs.Answered.{Answered}
use Rattle.session_meaning.specs.HistoryCut.{first_table, MayCall, CallsGranted, part_in, HistoryOfCut}
use Rattle.session_meaning.specs.Own.{Session, own, told}
use Rattle.session_meaning.specs.Plan.{Plan, Names, Closed}
use Rattle.session_meaning.specs.Ran.{Ran}
use Rattle.session_meaning.proofs.AsksGranted.{asks_granted}
use Rattle.session_meaning.proofs.Goes.{on_both}
use Rattle.session_meaning.proofs.HistoryCuts.{history_grows, history_of_cut}
use Rattle.session_meaning.proofs.Invariants.{Comes, begun, replying, Granted, HasCallee}
use Rattle.session_meaning.proofs.Invariants as comes_of
use Rattle.session_meaning.proofs.Kept.{get_map, all_at}
use Rattle.session_meaning.proofs.OwnUnlocks.{From, stood}
use Rattle.session_meaning.proofs.RanSections.{call_ran}
use Rattle.session_meaning.proofs.RanTables.{ran_requests_first, answered_of, asker_of, asks_bench, asked_at}

-- ---- What a run submits.

abbrev may_submit : List ℕ → Operation × Reply → Bool
may_submit callees (Operation.submit f input, r) = list_any (λ c. c == f) callees
may_submit callees (op, r) = true

any_at : (f : ℕ) (cs : List ℕ) (k : ℕ) → slice_get cs k ≡ Some f → list_any (λ c. c == f) cs ≡ true
any_at f [] k e = let no : ⊥ = cc in absurd no
any_at f (c ∷ cs) zero e = let same : c ≡ f = cc in ap (λ b. b || list_any (λ c. c == f) cs) (eq-eqb c f same)
any_at f (c ∷ cs) (suc k) e = by (c == f) (any_at f cs k e)
  where
    by : (b : Bool) → list_any (λ c. c == f) cs ≡ true → (b || list_any (λ c. c == f) cs) ≡ true
    by true h = refl
    by false h = h

any_there : (f : ℕ) (cs : List ℕ) → list_any (λ c. c == f) cs ≡ true → (k : ℕ) × (slice_get cs k ≡ Some f)
any_there f [] h = let no : ⊥ = cc in absurd no
any_there f (c ∷ cs) h = by (c == f) refl h (any_there f cs)
  where
    by : (b : Bool) → (c == f) ≡ b → (b || list_any (λ c. c == f) cs) ≡ true → (list_any (λ c. c == f) cs ≡ true → (k : ℕ) × (slice_get cs k ≡ Some f)) → (k : ℕ) × (slice_get (c ∷ cs) k ≡ Some f)
    by true e i go = (0, ap (λ n. Some n) (eqb-true c f e))
    by false e i go = let k = go i in (suc k.0, k.1)

table_submits : (j : Invocation) (op : Operation) (r : Reply) → Granted j (ask OnTable op) → may_submit j.callees (op, r) ≡ true
table_submits j (Operation.submit f input) r h = any_at f j.callees h.0 h.1
table_submits j (Operation.look child) r h = refl
table_submits j (on_region op) r h = refl

question_submits : (j : Invocation) (q : Question) (r : Reply) → Granted j q → list_all (may_submit j.callees) (on_channel OnTable (entries q r)) ≡ true
question_submits j q Reply.want h = refl
question_submits j (ask OnTable op) r h = ap (λ b. b && true) (table_submits j op r h)
question_submits j (ask (Local key) op) r h = refl
question_submits j (ask (Global key) op) r h = refl
question_submits j (fills key n) (Reply.bytes bs) h = refl
question_submits j (pulls key off len) (Reply.bytes bs) h = refl
question_submits j (pushes key off len) (Reply.bytes bs) h = refl
question_submits j q r h = refl

goes_comes : {j : Invocation} {p y : Progress} {t : Transcript} (c : Configuration) → Goes j p t y → Comes j c p → Comes j c y
goes_comes c here h = h
goes_comes c (way.stepped g) h = goes_comes c g (comes_of.stepped h)
goes_comes c (answered {r = r} fits g) h = goes_comes c g (replying r h)

all_both : {A : Type 0} (test : A → Bool) (xs ys : List A) → list_all test xs ≡ true → list_all test ys ≡ true → list_all test (xs ++ ys) ≡ true
all_both test [] ys h k = k
all_both test (x ∷ xs) ys h k = let p = and_parts (test x) (list_all test xs) h in ap₂ (λ a b. a && b) p.0 (all_both test xs ys p.1 k)

submits_way : (f : Function) (input : List ℕ) (c : Configuration) (end : Progress) (v u : Transcript) → fresh f ≡ makes c → From (invocation f input) c end (u ++ v) end → list_all (may_submit f.callees) (told_by v OnTable) ≡ true
submits_way f input c end [] u made g = refl
submits_way f input c end (x ∷ t) u made g =
    let j = invocation f input in
    let parts = parted u (x ∷ t) g in
    let at = stood j c end x.0 x.1 t u refl parts.2 parts.1 in
    let first = question_submits j x.0 x.1 (asks_granted f input c at.0 x.0 made (goes_comes c at.1 begun)) in
    let later = submits_way f input c end t (u ++ x ∷ []) made (subst (λ v. From j c end v end) (sym (append_assoc u (x ∷ []) t)) g) in
    ap (list_all (may_submit f.callees)) (on_both OnTable (entries x.0 x.1) (entries_of t)) ∙ all_both (may_submit f.callees) (on_channel OnTable (entries x.0 x.1)) (told_by t OnTable) first later

runs_submit : (f : Function) (input : List ℕ) (told : Told) (o : Outcome) (output : List ℕ) (used : ℕ) → Runs f input told o output used → list_all (may_submit f.callees) (told OnTable) ≡ true
runs_submit f input told o output used run = by (fresh f) refl run
  where
    by : (m : Made Configuration) → fresh f ≡ m → runs_by f m input told o output used → list_all (may_submit f.callees) (told OnTable) ≡ true
    by (makes c) e k = ap (list_all (may_submit f.callees)) (k.told_so OnTable) ∙ submits_way f input c (over k.last o) k.transcript [] e (run_goes k.run)
    by (breaks b) e k = ap (list_all (may_submit f.callees)) (k.1 OnTable)
    by nothing e k = absurd k

-- ---- So each Submit of the history is of what its call may call.

some_same : {A : Type 0} {x y : A} → Some x ≡ Some y → x ≡ y
some_same e = cc

submit_granted : (plan : Plan) (s : Session) (finals : List (List ℕ)) (before behind : History TableOperation) (m parent f : ℕ) (input : List ℕ) → Ran plan s finals → s.table_history ≡ before ++ (m, submit parent f input) ∷ behind → MayCall plan (left table_rules (first_table plan) before) (submit parent f input)
submit_granted plan s finals before behind m parent f input ran at p there =
    let op = submit parent f input in
    let q : ℕ × Operation = (parent, Operation.submit f input) in
    let t = left table_rules (first_table plan) before in
    let r = table.reply t m op in
    let a = asker_of plan s finals m _ (answered_of q r) ran (asks_bench plan s finals before behind (m, op) q ran at refl) (asked_at plan s before behind (m, op) q at refl) in
    let found = a.found_so in
    let c = call_ran plan s 0 found.call s.records found.r ran.calls found.here in
    let its : slice_get (told plan s found.r OnTable) a.spot ≡ Some (Operation.submit f input, r) = get_map (λ (x : Answered). (x.operation, x.reply)) (own plan s found.r OnTable) a.spot ∙ ap (option_map (λ (x : Answered). (x.operation, x.reply))) a.its in
    let may : list_any (λ c. c == f) c.function.function.callees ≡ true =
    ∥∥₁_elim c.runs (Bool-set (list_any (λ c. c == f) c.function.function.callees) true)
    (λ run. all_at (may_submit c.function.function.callees) (told plan s found.r OnTable) a.spot (Operation.submit f input, r) (runs_submit c.function.function found.r.input (told plan s found.r) c.outcome c.output c.used run) its) in
    let callee = any_there f c.function.function.callees may in
    let call_so : parent ≡ found.call = eqb-true parent found.call a.is_its in
    let records : s.records ≡ (left table_rules t ((m, op) ∷ behind)).records =
    ran.table.records ∙ ap (λ t. t.records) (ran.table.leads.end_so ∙ ap (left table_rules (first_table plan)) at ∙ left_both table_rules (first_table plan) before ((m, op) ∷ behind)) in
    let later = history_grows t ((m, op) ∷ behind) parent p there in
    let same : later.0 ≡ found.r = some_same (sym later.1 ∙ sym (ap (λ rs. slice_get rs parent) records) ∙ ap (slice_get s.records) call_so ∙ found.here) in
    let function_so : p.function ≡ found.r.function = sym later.2 ∙ ap (λ (x : CallRecord). x.function) same in
    (c.function, ap (slice_get plan.functions) function_so ∙ c.function_so, callee.0, callee.1)

entry_granted : (plan : Plan) (s : Session) (finals : List (List ℕ)) (before behind : History TableOperation) (e : ℕ × TableOperation) → Ran plan s finals → s.table_history ≡ before ++ e ∷ behind → MayCall plan (left table_rules (first_table plan) before) e.1
entry_granted plan s finals before behind (m, submit parent f input) ran at = submit_granted plan s finals before behind m parent f input ran at
entry_granted plan s finals before behind (m, submit_request f host input) ran at = tt
entry_granted plan s finals before behind (m, take_next host bench) ran at = tt
entry_granted plan s finals before behind (m, take_this call host bench) ran at = tt
entry_granted plan s finals before behind (m, finish call o used output counts) ran at = tt
entry_granted plan s finals before behind (m, look parent child) ran at = tt

all_granted : (plan : Plan) (s : Session) (finals : List (List ℕ)) (before es : History TableOperation) → Ran plan s finals → s.table_history ≡ before ++ es → CallsGranted plan (left table_rules (first_table plan) before) es
all_granted plan s finals before [] ran at = tt
all_granted plan s finals before (e ∷ es) ran at = (
  entry_granted plan s finals before es e ran at,
  subst (λ t. CallsGranted plan t es) (left_both table_rules (first_table plan) before (e ∷ [])) (all_granted plan s finals (before ++ e ∷ []) es ran (at ∙ sym (append_assoc before (e ∷ []) es))),
)

pub ran_history : (plan : Plan) (functions keys : Names) (s : Session) (finals : List (List ℕ)) → Closed plan functions keys → Ran plan s finals → HistoryOfCut plan (part_in plan functions keys s.table_history) s.table_history
ran_history plan functions keys s finals closed ran = history_of_cut plan functions keys s.table_history closed (ran_requests_first plan s finals ran) (all_granted plan s finals [] s.table_history ran refl)
