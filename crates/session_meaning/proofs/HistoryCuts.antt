-- The cut of a table history goes along with the history: it is legal, leaves the cut, and its calls are answered alike.
use Rattle.std.proofs.Common.{◌≡◌, ◌⊎◌, inl, inr, ℕ, ◌+◌, Bool, true, false, cond, not, List, [], ◌∷◌, ◌++◌, Option, Some, None, refl, sym, ap, ap₂, ◌∙◌, map, length, option_map, filter, filter_map, slice_get, subst, arith}
use Rattle.std.specs.Prelude.{◌&&◌, ◌==◌}
use Rattle.std.specs.List.{list_all, cons_option}
use Rattle.std.proofs.lemmas.Bool.{and_parts, ne_eqb, true≢false}
use Rattle.std.proofs.lemmas.List.{length-append}
use Rattle.faaslet_meaning.specs.declared.call.CallRecord.{CallRecord}
use Rattle.faaslet_meaning.specs.Lists.{first, places, passes_at}
use Rattle.faaslet_meaning.specs.Channels.{Operation, Reply}
use Rattle.faaslet_meaning.specs.Records.{is_queued, queue, queued_calls}
use Rattle.faaslet_meaning.specs.Table as table
use Rattle.faaslet_meaning.specs.Table.{Table, TableOperation, queued_record, taken, next, submit_request, submit, take_next, take_this, finish, look}
use Rattle.faaslet_meaning.specs.History.{History, Legal, left, table_rules}
use Rattle.session_meaning.specs.Plan.{Plan, Names, Closed, is_function_of}
use Rattle.session_meaning.specs.Cut.{Part, rank, cut_operation, cut_table, blank_table, only, cut_table_operation, cut_plan}
use Rattle.session_meaning.specs.HistoryCut.{first_table, is_request, requests_first, MayCall, CallsGranted, explicit, all_explicit, cut_history, asks, asked_in, told_in, cut_told, part_in, HistoryOfCut}
use Rattle.session_meaning.proofs.Kept.{rank_eq, all_push}
use Rattle.session_meaning.proofs.Tables.{AllFit, get_end, spot, first_place, found_at}
use Rattle.session_meaning.proofs.Whole.{all, everything, fit_all}
use Rattle.session_meaning.proofs.FoldedCut.{first_depth, filter_whole, callables_cut}
use Rattle.session_meaning.proofs.Invariants.{ClosedIn, Grows, grows_on, push_front, Kin, KinAt, Like, kin_push, Goes, take_goes, submit_goes, submit_grows, finish_goes}
use Rattle.session_meaning.proofs.TwoWorlds.{closed_by_names}
use Rattle.session_meaning.proofs.WorldInvariants.{Agrees, agrees_before, all_fit}
use Rattle.session_meaning.proofs.TableCuts.{Fine, CutSo, renamed, AskSo, MaySo, is_next, after_cut, ask_cut, may_cut, table_whole, cut_whole}

-- ---- One entry, and the one that the cut has in its place.

record KeptFacts (part : Part) (t t' : Table) (m : ℕ) (op o : TableOperation) : Type 0 where
  pub leaves : cut_table part (table.after t m op) ≡ blank_table (table.after t' 0 o)
  pub same : asks o ≡ option_map (renamed part) (asks op)
  pub kept : (a : ℕ × Operation) → asks op ≡ Some a → part.calls a.0 ≡ true
  pub answer : (a : ℕ × Operation) → asks op ≡ Some a → table.reply t m op ≡ table.reply t' 0 o
  pub may : table.may t m op ≡ true → table.may t' 0 o ≡ true

abbrev Facts : Part → Table → Table → ℕ → TableOperation → Option TableOperation → Type 0
Facts part t t' m op None = (cut_table part (table.after t m op) ≡ cut_table part t) × ((a : ℕ × Operation) → asks op ≡ Some a → part.calls a.0 ≡ false)
Facts part t t' m op (Some o) = KeptFacts part t t' m op o

not_next : (o : TableOperation) → cut_table_operation everything o ≡ Some o → is_next o ≡ false
not_next (take_next host bench) h = let no : ⊥ = cc in absurd no
not_next o h = refl

fine_all : (t : Table) (o : TableOperation) → (is_request o ≡ true → list_all first_depth t.records ≡ true) → Fine everything t o
fine_all t (submit_request f host input) h = h refl
fine_all t (submit parent f input) h = λ p e. refl
fine_all t (take_next host bench) h = tt
fine_all t (take_this call host bench) h = tt
fine_all t (finish call o used output counts) h = tt
fine_all t (look parent child) h = tt

facts_by : (part : Part) (t t' : Table) (m : ℕ) (op : TableOperation) (x : Option TableOperation) → cut_table_operation part op ≡ x → CutSo part t m op x → AskSo part t m op x → MaySo part t m op x → ((o : TableOperation) → x ≡ Some o → is_request o ≡ true → list_all first_depth t'.records ≡ true) → cut_table part t ≡ blank_table t' → Facts part t t' m op x
facts_by part t t' m op None e c a y firsts same = (c, a)
facts_by part t t' m op (Some o) e c a y firsts same =
    let w = cut_whole part op o e in
    let fine = fine_all t' o (firsts o refl) in
    let after : CutSo everything t' 0 o (Some o) = subst (CutSo everything t' 0 o) w (after_cut everything t' 0 o (not_next o w) (fit_all t'.records) (fit_all (table.after t' 0 o).records) fine) in
    let ask : AskSo everything t' 0 o (Some o) = subst (AskSo everything t' 0 o) w (ask_cut everything t' 0 o (fit_all t'.records) fine) in
    let may : MaySo everything t' 0 o (Some o) = subst (MaySo everything t' 0 o) w (may_cut everything t' 0 o (fit_all t'.records)) in
    let cuts : cut_table part t ≡ cut_table everything t' = same ∙ sym (table_whole t') in
    record {
      leaves = c 0 ∙ ap (λ u. blank_table (table.after u 0 o)) cuts ∙ sym (after 0) ∙ table_whole (table.after t' 0 o);
      same = a.same;
      kept = a.kept;
      answer = λ n i. a.answer n i 0 ∙ ap (λ u. table.reply u 0 o) cuts ∙ sym (ask.answer (renamed part n) (a.same ∙ ap (option_map (renamed part)) i) 0);
      may = λ h. sym (may 0) ∙ ap (λ u. table.may u 0 o) (sym cuts) ∙ y 0 ∙ h;
    }

request_stays : (part : Part) (op o : TableOperation) → cut_table_operation part op ≡ Some o → is_request o ≡ true → is_request op ≡ true
request_stays part op o e h = by op e
  where
    other : (b : Bool) (x : TableOperation) → is_request x ≡ false → only b x ≡ Some o → ⊥
    other true x f k = let same : x ≡ o = cc in let no : true ≡ false = sym h ∙ sym (ap is_request same) ∙ f in let bad : ⊥ = cc in bad
    other false x f k = let no : ⊥ = cc in no

    by : (op : TableOperation) → cut_table_operation part op ≡ Some o → is_request op ≡ true
    by (submit_request f host input) e = refl
    by (submit parent f input) e = absurd (other (part.calls parent) (submit (rank part.calls parent) (rank part.functions f) input) refl e)
    by (take_next host bench) e = let no : ⊥ = cc in absurd no
    by (take_this call host bench) e = absurd (other (part.calls call) (take_this (rank part.calls call) host 0) refl e)
    by (finish call x used output counts) e = absurd (other (part.calls call) (finish (rank part.calls call) x used output counts) refl e)
    by (look parent child) e = absurd (other (part.calls parent) (look (rank part.calls parent) child) refl e)

facts_plain : (part : Part) (t t' : Table) (m : ℕ) (op : TableOperation) → is_next op ≡ false → AllFit part t.records → AllFit part (table.after t m op).records → Fine part t op → (is_request op ≡ true → list_all first_depth t'.records ≡ true) → cut_table part t ≡ blank_table t' → Facts part t t' m op (cut_table_operation part op)
facts_plain part t t' m op n fit fit' fine firsts same = facts_by part t t' m op (cut_table_operation part op) refl (after_cut part t m op n fit fit' fine) (ask_cut part t m op fit fine) (may_cut part t m op fit) (λ o e h. firsts (request_stays part op o e h)) same

-- ---- A TakeNext takes a queued call.

first_both : (xs ys : List ℕ) → first (xs ++ ys) ≡ elim (first xs) as (λ o. Option ℕ) [ None ↦ first ys | Some x ↦ Some x ]
first_both [] ys = refl
first_both (x ∷ xs) ys = refl

place_passes : (test : CallRecord → Bool) (rs : List CallRecord) (n : ℕ) → first (places test rs) ≡ Some n → (r : CallRecord) × (slice_get rs n ≡ Some r) × (test r ≡ true)
place_passes test rs n e = found_at test rs n (by (spot test rs) (sym (first_place 0 test rs) ∙ e))
  where
    by : (o : Option ℕ) → option_map (λ k. 0 + k) o ≡ Some n → o ≡ Some n
    by None h = let no : ⊥ = cc in absurd no
    by (Some k) h = let same : 0 + k ≡ n = cc in ap (λ x. Some x) (omega (arith, same))

queued_at : (test : CallRecord → Bool) (rs : List CallRecord) (n : ℕ) (r : CallRecord) → slice_get rs n ≡ Some r → test r ≡ true → passes_at test rs n ≡ true
queued_at test rs n r e h = ap (λ o. elim o as (λ o. Bool) [ None ↦ false | Some r ↦ test r ]) e ∙ h

pub next_queued : (t : Table) (host n : ℕ) → next t host ≡ Some n → passes_at (λ r. is_queued r.state) t.records n ≡ true
next_queued t host n e = by (first (queue t.records host)) refl (sym (first_both (queue t.records host) (queued_calls t.records)) ∙ e)
  where
    by : (o : Option ℕ) → first (queue t.records host) ≡ o → elim o as (λ o. Option ℕ) [ None ↦ first (queued_calls t.records) | Some x ↦ Some x ] ≡ Some n → passes_at (λ r. is_queued r.state) t.records n ≡ true
    by None i h = let p = place_passes (λ r. is_queued r.state) t.records n h in queued_at (λ r. is_queued r.state) t.records n p.0 p.1 p.2
    by (Some x) i h =
        let p = place_passes (λ r. is_queued r.state && (r.placed == host)) t.records n (i ∙ h) in
        queued_at (λ r. is_queued r.state) t.records n p.0 p.1 (and_parts (is_queued p.0.state) (p.0.placed == host) p.2).0

abbrev taken_by : Table → ℕ → ℕ → Option ℕ → Table
taken_by t host bench o = elim o [ None ↦ t | Some call ↦ taken t call host bench ]

-- what the facts on one operation say of another that leaves the same and asks nothing
facts_instead : (part : Part) (t t' : Table) (m : ℕ) (op op' : TableOperation) (x : Option TableOperation) → table.after t m op ≡ table.after t m op' → asks op ≡ None → asks op' ≡ None → (table.may t m op ≡ true → table.may t m op' ≡ true) → Facts part t t' m op' x → Facts part t t' m op x
facts_instead part t t' m op op' None same a b may f = (ap (cut_table part) same ∙ f.0, λ c e. let no : ⊥ = cc in absurd no)
facts_instead part t t' m op op' (Some o) same a b may f =
    record {
      leaves = ap (cut_table part) same ∙ f.leaves;
      same = f.same ∙ ap (option_map (renamed part)) (b ∙ sym a);
      kept = λ c e. let no : ⊥ = cc in absurd no;
      answer = λ c e. let no : ⊥ = cc in absurd no;
      may = λ h. f.may (may h);
    }

facts_next : (part : Part) (t t' : Table) (m host bench : ℕ) → AllFit part t.records → AllFit part (table.after t m (take_next host bench)).records → cut_table part t ≡ blank_table t' → Facts part t t' m (take_next host bench) (cut_table_operation part (explicit t (take_next host bench)))
facts_next part t t' m host bench fit fit' same = by (next t host) refl
  where
    by : (o : Option ℕ) → next t host ≡ o → Facts part t t' m (take_next host bench) (cut_table_operation part (elim o as (λ o. TableOperation) [ None ↦ take_next host bench | Some call ↦ take_this call host bench ]))
    by None e = (ap (λ o. cut_table part (taken_by t host bench o)) e, λ c i. let no : ⊥ = cc in absurd no)
    by (Some call) e =
        let after : table.after t m (take_next host bench) ≡ table.after t m (take_this call host bench) = ap (taken_by t host bench) e in
        facts_instead part t t' m (take_next host bench) (take_this call host bench) (cut_table_operation part (take_this call host bench)) after refl refl (λ h. next_queued t host call e)
        (facts_plain part t t' m (take_this call host bench) refl fit (subst (λ u. AllFit part u.records) after fit') tt (λ h. let no : ⊥ = cc in absurd no) same)

facts : (part : Part) (t t' : Table) (m : ℕ) (op : TableOperation) → AllFit part t.records → AllFit part (table.after t m op).records → Fine part t op → (is_request op ≡ true → list_all first_depth t'.records ≡ true) → cut_table part t ≡ blank_table t' → Facts part t t' m op (cut_table_operation part (explicit t op))
facts part t t' m (submit_request f host input) fit fit' fine firsts same = facts_plain part t t' m (submit_request f host input) refl fit fit' fine firsts same
facts part t t' m (submit parent f input) fit fit' fine firsts same = facts_plain part t t' m (submit parent f input) refl fit fit' fine firsts same
facts part t t' m (take_next host bench) fit fit' fine firsts same = facts_next part t t' m host bench fit fit' same
facts part t t' m (take_this call host bench) fit fit' fine firsts same = facts_plain part t t' m (take_this call host bench) refl fit fit' fine firsts same
facts part t t' m (finish call o used output counts) fit fit' fine firsts same = facts_plain part t t' m (finish call o used output counts) refl fit fit' fine firsts same
facts part t t' m (look parent child) fit fit' fine firsts same = facts_plain part t t' m (look parent child) refl fit fit' fine firsts same

-- ---- Records grow, and stay kin.

same_goes : (functions : ℕ → Bool) (t : Table) → Goes functions t t
same_goes functions t = record { grows = λ n r e. (r, e, refl); longer = omega arith; kin = λ k. k }

request_goes : (functions : ℕ → Bool) (t : Table) (m f host : ℕ) (input : List ℕ) → list_all first_depth t.records ≡ true → Goes functions t (table.after t m (submit_request f host input))
request_goes functions t m f host input firsts =
    let x = queued_record t f host input in
    let number : x.request ≡ length t.records = ap length (filter_whole first_depth t.records firsts) in
    let more = length-append t.records (x ∷ []) in
    let kin_at : KinAt functions (t.records ++ x ∷ []) x =
    record { parent = λ p h. let no : ⊥ = cc in absurd no; request = subst (λ q. Like functions (t.records ++ x ∷ []) q f) (sym number) (x, get_end t.records x (length t.records) refl, refl) } in
    record { grows = push_front t.records x; longer = omega (arith, more); kin = λ k. kin_push functions t.records x k kin_at }

next_goes : (functions : ℕ → Bool) (t : Table) (m host bench : ℕ) → Goes functions t (table.after t m (take_next host bench))
next_goes functions t m host bench = by (next t host)
  where
    by : (o : Option ℕ) → Goes functions t (taken_by t host bench o)
    by None = same_goes functions t
    by (Some call) = take_goes functions t m call host bench

grows_by : (t : Table) (m : ℕ) (op : TableOperation) → Grows t.records (table.after t m op).records
grows_by t m (submit_request f host input) = push_front t.records (queued_record t f host input)
grows_by t m (submit parent f input) = submit_grows t m parent f input
grows_by t m (take_next host bench) = (next_goes all t m host bench).grows
grows_by t m (take_this call host bench) = (take_goes all t m call host bench).grows
grows_by t m (finish call o used output counts) = (finish_goes all t m call o used output counts).grows
grows_by t m (look parent child) = λ n r e. (r, e, refl)

pub history_grows : (t : Table) (es : History TableOperation) → Grows t.records (left table_rules t es).records
history_grows t [] = λ n r e. (r, e, refl)
history_grows t (e ∷ es) = grows_on t.records (table.after t e.0 e.1).records (left table_rules t (e ∷ es)).records (grows_by t e.0 e.1) (history_grows (table.after t e.0 e.1) es)

-- the function of a call may call what is kept with it
same_function : (part : Part) (plan : Plan) (t : Table) (parent f : ℕ) (input : List ℕ) → ClosedIn plan part.functions part.keys → MayCall plan t (submit parent f input) → (p : CallRecord) → slice_get t.records parent ≡ Some p → part.functions p.function ≡ part.functions f
same_function part plan t parent f input closed may p e = let g = may p e in sym ((closed p.function g.0 g.1).callees g.2 f g.3)

goes : (part : Part) (plan : Plan) (t : Table) (m : ℕ) (op : TableOperation) → ClosedIn plan part.functions part.keys → MayCall plan t op → (is_request op ≡ true → list_all first_depth t.records ≡ true) → Goes part.functions t (table.after t m op)
goes part plan t m (submit_request f host input) closed may firsts = request_goes part.functions t m f host input (firsts refl)
goes part plan t m (submit parent f input) closed may firsts = submit_goes part.functions t m parent f input (same_function part plan t parent f input closed may)
goes part plan t m (take_next host bench) closed may firsts = next_goes part.functions t m host bench
goes part plan t m (take_this call host bench) closed may firsts = take_goes part.functions t m call host bench
goes part plan t m (finish call o used output counts) closed may firsts = finish_goes part.functions t m call o used output counts
goes part plan t m (look parent child) closed may firsts = same_goes part.functions t

fine : (part : Part) (plan : Plan) (t : Table) (op : TableOperation) → ClosedIn plan part.functions part.keys → Agrees part t.records → MayCall plan t op → (is_request op ≡ true → list_all first_depth t.records ≡ true) → Fine part t op
fine part plan t (submit_request f host input) closed agrees may firsts = firsts refl
fine part plan t (submit parent f input) closed agrees may firsts = λ p e. sym (same_function part plan t parent f input closed may p e) ∙ agrees parent p e
fine part plan t (take_next host bench) closed agrees may firsts = tt
fine part plan t (take_this call host bench) closed agrees may firsts = tt
fine part plan t (finish call o used output counts) closed agrees may firsts = tt
fine part plan t (look parent child) closed agrees may firsts = tt

-- ---- The requests come first.

abbrev none_left : History TableOperation → Bool
none_left es = list_all (λ e. not (is_request e.1)) es

-- either only requests were made so far, or none is left
abbrev Phase : Table → Table → History TableOperation → Type 0
Phase t t' es = ((list_all first_depth t.records ≡ true) × (list_all first_depth t'.records ≡ true) × (requests_first es ≡ true)) ⊎ (none_left es ≡ true)

firsts_push : (t : Table) (m : ℕ) (op : TableOperation) → is_request op ≡ true → list_all first_depth t.records ≡ true → list_all first_depth (table.after t m op).records ≡ true
firsts_push t m (submit_request f host input) i h = all_push first_depth t.records (queued_record t f host input) h refl
firsts_push t m op i h = let no : ⊥ = cc in absurd no

not_so : (b : Bool) → not b ≡ true → b ≡ true → ⊥
not_so true h k = let no : ⊥ = cc in no
not_so false h k = let no : ⊥ = cc in no

phase_here : (t t' : Table) (e : ℕ × TableOperation) (es : History TableOperation) → Phase t t' (e ∷ es) → is_request e.1 ≡ true → (list_all first_depth t.records ≡ true) × (list_all first_depth t'.records ≡ true)
phase_here t t' e es (inl h) i = (h.0, h.1)
phase_here t t' e es (inr h) i = absurd (not_so (is_request e.1) (and_parts (not (is_request e.1)) (none_left es) h).0 i)

-- what the cut has in its place is a request where this is one
phase_next : (t t' u' : Table) (e : ℕ × TableOperation) (es : History TableOperation) → (is_request e.1 ≡ true → list_all first_depth t'.records ≡ true → list_all first_depth u'.records ≡ true) → Phase t t' (e ∷ es) → Phase (table.after t e.0 e.1) u' es
phase_next t t' u' e es more (inl h) = by (is_request e.1) refl h.2
  where
    by : (b : Bool) → is_request e.1 ≡ b → cond b (requests_first es) (none_left es) ≡ true → Phase (table.after t e.0 e.1) u' es
    by true i k = inl (firsts_push t e.0 e.1 i h.0, more i h.1, k)
    by false i k = inr k
phase_next t t' u' e es more (inr h) = inr (and_parts (not (is_request e.1)) (none_left es) h).1

request_too : (part : Part) (t : Table) (op o : TableOperation) → cut_table_operation part (explicit t op) ≡ Some o → is_request op ≡ true → is_request o ≡ true
request_too part t (submit_request f host input) o e i = by (part.functions f) e
  where
    by : (b : Bool) → only b (submit_request (rank part.functions f) host input) ≡ Some o → is_request o ≡ true
    by true h = let same : submit_request (rank part.functions f) host input ≡ o = cc in ap is_request (sym same)
    by false h = let no : ⊥ = cc in absurd no
request_too part t op o e i = let no : ⊥ = cc in absurd no

-- ---- All entries.

abbrev renumbered : Part → List (ℕ × (Operation × Reply)) → List (ℕ × (Operation × Reply))
renumbered part all = map (λ a. (rank part.calls a.0, cut_told part a.1)) (filter (λ a. part.calls a.0) all)

record Follows (part : Part) (t t' : Table) (es cs : History TableOperation) : Type 0 where
  pub legal : Legal table_rules t es → Legal table_rules t' cs
  pub leaves : cut_table part (left table_rules t es) ≡ blank_table (left table_rules t' cs)
  pub told : asked_in t' cs ≡ renumbered part (asked_in t es)

abbrev with_asks : Option (ℕ × Operation) → Reply → List (ℕ × (Operation × Reply)) → List (ℕ × (Operation × Reply))
with_asks o r rest = elim o [ None ↦ rest | Some a ↦ (a.0, (a.1, r)) ∷ rest ]

abbrev kept_when : Part → ℕ × Operation → Reply → List (ℕ × (Operation × Reply)) → Bool → List (ℕ × (Operation × Reply))
kept_when part a r rest b = map (λ a. (rank part.calls a.0, cut_told part a.1)) (cond b ((a.0, (a.1, r)) ∷ filter (λ a. part.calls a.0) rest) (filter (λ a. part.calls a.0) rest))

left_out : (part : Part) (o : Option (ℕ × Operation)) (r : Reply) (rest : List (ℕ × (Operation × Reply))) → ((a : ℕ × Operation) → o ≡ Some a → part.calls a.0 ≡ false) → renumbered part rest ≡ renumbered part (with_asks o r rest)
left_out part None r rest h = refl
left_out part (Some a) r rest h = sym (ap (kept_when part a r rest) (h a refl))

answered : (part : Part) (o o' : Option (ℕ × Operation)) (r r' : Reply) (rest rest' : List (ℕ × (Operation × Reply))) → o' ≡ option_map (renamed part) o → ((a : ℕ × Operation) → o ≡ Some a → part.calls a.0 ≡ true) → ((a : ℕ × Operation) → o ≡ Some a → r ≡ r') → rest' ≡ renumbered part rest → with_asks o' r' rest' ≡ renumbered part (with_asks o r rest)
answered part None o' r r' rest rest' e k a h = ap (λ o. with_asks o r' rest') e ∙ h
answered part (Some c) o' r r' rest rest' e k a h =
    ap (λ o. with_asks o r' rest') e
    ∙ ap₂ (λ x xs. (rank part.calls c.0, (cut_operation part.functions c.1, x)) ∷ xs) (sym (a c refl)) h
    ∙ sym (ap (kept_when part c r rest) (k c refl))

abbrev blank_makers : List TableOperation → History TableOperation
blank_makers ops = map (λ op. (0, op)) ops

follows : (part : Part) (plan : Plan) → ClosedIn plan part.functions part.keys → (es : History TableOperation) (t t' : Table) → Agrees part (left table_rules t es).records → Kin part.functions t.records → CallsGranted plan t es → Phase t t' es → cut_table part t ≡ blank_table t' → Follows part t t' es (cut_history part t es)
follows part plan closed [] t t' agrees kin granted phase same = record { legal = λ h. tt; leaves = same; told = refl }
follows part plan closed (e ∷ es) t t' agrees kin granted phase same =
    let u = table.after t e.0 e.1 in
    let later = agrees_before part u.records (left table_rules u es).records (history_grows u es) agrees in
    let here = agrees_before part t.records u.records (grows_by t e.0 e.1) later in
    let firsts = λ (h : is_request e.1 ≡ true). phase_here t t' e es phase h in
    let g = goes part plan t e.0 e.1 closed granted.0 (λ h. (firsts h).0) in
    let kin' = g.kin kin in
    let fit = all_fit part t.records here kin in
    let fit' = all_fit part u.records later kin' in
    by (cut_table_operation part (explicit t e.1)) refl
    (facts part t t' e.0 e.1 fit fit' (fine part plan t e.1 closed here granted.0 (λ h. (firsts h).0)) (λ h. (firsts h).1) same)
    (λ u' p s. follows part plan closed es u u' agrees kin' granted.1 p s)
  where
    after : Table
    after = table.after t e.0 e.1

    by : (x : Option TableOperation) → cut_table_operation part (explicit t e.1) ≡ x → Facts part t t' e.0 e.1 x → ((u' : Table) → Phase after u' es → cut_table part after ≡ blank_table u' → Follows part after u' es (cut_history part after es)) → Follows part t t' (e ∷ es) (blank_makers (cons_option x (filter_map (cut_table_operation part) (all_explicit after es))))
    by None i f go =
        let rest = go t' (phase_next t t' t' e es (λ h k. k) phase) (f.0 ∙ same) in
        record {
          legal = λ h. rest.legal h.1;
          leaves = rest.leaves;
          told = rest.told ∙ left_out part (asks e.1) (table.reply t e.0 e.1) (asked_in after es) f.1;
        }
    by (Some o) i f go =
        let rest = go (table.after t' 0 o) (phase_next t t' (table.after t' 0 o) e es (λ h k. firsts_push t' 0 o (request_too part t e.1 o i h) k) phase) f.leaves in
        record {
          legal = λ h. (f.may h.0, rest.legal h.1);
          leaves = rest.leaves;
          told = answered part (asks e.1) (asks o) (table.reply t e.0 e.1) (table.reply t' 0 o) (asked_in after es) (asked_in (table.after t' 0 o) (cut_history part after es)) f.same f.kept f.answer rest.told;
        }

-- ---- One call.

abbrev picked : ℕ × (Operation × Reply) → List (ℕ × (Operation × Reply)) → Bool → List (Operation × Reply)
picked a rest b = map (λ a. a.1) (cond b (a ∷ rest) rest)

each_so : (part : Part) (c : ℕ) → part.calls c ≡ true → (all : List (ℕ × (Operation × Reply))) → told_in (rank part.calls c) (renumbered part all) ≡ map (cut_told part) (told_in c all)
each_so part c i [] = refl
each_so part c i (a ∷ all) = by (part.calls a.0) refl (each_so part c i all)
  where
    rest : List (ℕ × (Operation × Reply))
    rest = filter (λ a. a.0 == c) all

    small : List (ℕ × (Operation × Reply))
    small = filter (λ a. a.0 == rank part.calls c) (renumbered part all)

    pick : (b : Bool) → map (λ a. a.1) small ≡ map (cut_told part) (map (λ a. a.1) rest) → picked (rank part.calls a.0, cut_told part a.1) small b ≡ map (cut_told part) (picked a rest b)
    pick true h = ap (λ rs. cut_told part a.1 ∷ rs) h
    pick false h = h

    by : (b : Bool) → part.calls a.0 ≡ b → map (λ a. a.1) small ≡ map (cut_told part) (map (λ a. a.1) rest) → told_in (rank part.calls c) (map (λ a. (rank part.calls a.0, cut_told part a.1)) (cond b (a ∷ filter (λ a. part.calls a.0) all) (filter (λ a. part.calls a.0) all))) ≡ map (cut_told part) (picked a rest (a.0 == c))
    by true k h = ap (picked (rank part.calls a.0, cut_told part a.1) small) (rank_eq part.calls a.0 c k i) ∙ pick (a.0 == c) h
    by false k h = h ∙ sym (ap (λ b. map (cut_told part) (picked a rest b)) (ne_eqb a.0 c (λ e. true≢false (sym i ∙ sym (ap part.calls e) ∙ k))))

-- ---- The theorem.

first_table_cut : (part : Part) (plan : Plan) → cut_table part (first_table plan) ≡ blank_table (first_table (cut_plan part plan))
first_table_cut part plan = ap (λ fs. record (cut_table part (first_table plan)) { functions = fs }) (callables_cut part plan.functions)

agrees_in : (plan : Plan) (functions keys : Names) (es : History TableOperation) → Agrees (part_in plan functions keys es) (left table_rules (first_table plan) es).records
agrees_in plan functions keys es n r e = sym (ap (λ o. elim o as (λ o. Bool) [ None ↦ false | Some r ↦ is_function_of plan functions r.function ]) e)

pub history_of_cut : (plan : Plan) (functions keys : Names) (es : History TableOperation) → Closed plan functions keys → requests_first es ≡ true → CallsGranted plan (first_table plan) es → HistoryOfCut plan (part_in plan functions keys es) es
history_of_cut plan functions keys es closed firsts granted =
    let part = part_in plan functions keys es in
    let f = follows part plan (closed_by_names plan functions keys closed) es (first_table plan) (first_table (cut_plan part plan)) (agrees_in plan functions keys es) (λ n r e. let no : ⊥ = cc in absurd no) granted (inl (refl, refl, firsts)) (first_table_cut part plan) in
    record {
      legal = f.legal;
      leaves = f.leaves;
      told = f.told;
      each_call = λ c i. ap (told_in (rank part.calls c)) f.told ∙ each_so part c i (asked_in (first_table plan) es);
    }
