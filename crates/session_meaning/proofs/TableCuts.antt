-- One table operation under a cut: on a kept call it leaves, and is answered, what its cut leaves and is answered on the cut table, and
-- on another call it leaves no trace there.
use Rattle.std.proofs.Common.{◌≡◌, ℕ, Bool, true, false, cond, List, [], ◌∷◌, ◌++◌, Option, Some, None, refl, sym, ap, ap₂, ◌∙◌, map, option_map, slice_get, subst}
use Rattle.std.specs.Prelude.{◌&&◌}
use Rattle.std.specs.List.{list_all}
use Rattle.std.proofs.lemmas.List.{map-append, append-nil}
use Rattle.faaslet_meaning.specs.declared.call.CallRecord.{CallRecord}
use Rattle.faaslet_meaning.specs.declared.call.CallState.{CallState}
use Rattle.faaslet_meaning.specs.declared.call.CallState.TheVariants.{Queued, Taken, Finished}
use Rattle.faaslet_meaning.specs.Lists.{passes_at}
use Rattle.faaslet_meaning.specs.Channels.{Operation, Reply}
use Rattle.faaslet_meaning.specs.Table as table
use Rattle.faaslet_meaning.specs.Table.{Table, TableOperation, queued_record, submitted, submit_request, submit, take_next, take_this, finish, look}
use Rattle.faaslet_meaning.specs.Records.{is_open, is_queued, is_finished, child_of}
use Rattle.session_meaning.specs.Cut.{Part, kept, rank, cut_operation, cut_record, blank_record, blank_state, cut_table, blank_table, only, cut_table_operation}
use Rattle.session_meaning.specs.HistoryCut.{asks}
use Rattle.session_meaning.proofs.Kept.{kept_push}
use Rattle.session_meaning.proofs.Tables.{AllFit, get_cut, passes_cut, child_of_cut, child_of_kept, blank_cut, take_cut, finish_cut, submit_cut, submit_reply_cut, look_reply_cut, take_left, finish_left, submit_left}
use Rattle.session_meaning.proofs.Whole.{everything, kept_all, rank_all, records_all}
use Rattle.session_meaning.proofs.FoldedCut.{first_depth, queued_cut, end_fit}

-- ---- What an operation on a kept call leaves.

request_kept : (part : Part) (t : Table) (m m' f host : ℕ) (input : List ℕ) → part.functions f ≡ true → list_all first_depth t.records ≡ true → AllFit part (table.after t m (submit_request f host input)).records → cut_table part (table.after t m (submit_request f host input)) ≡ blank_table (table.after (cut_table part t) m' (submit_request (rank part.functions f) host input))
request_kept part t m m' f host input i h fit' =
    let x = queued_record t f host input in
    let y = queued_record (cut_table part t) (rank part.functions f) host input in
    let ks = kept part.calls t.records in
    ap (λ rs. record (cut_table part t) { records = rs })
    (ap (map (cut_record part)) (kept_push part.calls t.records x ∙ ap (λ b. ks ++ cond b (x ∷ []) []) (sym (end_fit part t.records x fit') ∙ i))
    ∙ map-append (cut_record part) ks (x ∷ [])
    ∙ ap₂ (λ xs z. xs ++ z ∷ []) (sym (blank_cut part ks)) (queued_cut part t f host input i h)
    ∙ sym (map-append blank_record (map (cut_record part) ks) (y ∷ [])))

request_left : (part : Part) (t : Table) (m f host : ℕ) (input : List ℕ) → part.functions f ≡ false → AllFit part (table.after t m (submit_request f host input)).records → cut_table part (table.after t m (submit_request f host input)) ≡ cut_table part t
request_left part t m f host input i fit' =
    let x = queued_record t f host input in
    let ks = kept part.calls t.records in
    ap (λ rs. record (cut_table part t) { records = map (cut_record part) rs }) (kept_push part.calls t.records x ∙ ap (λ b. ks ++ cond b (x ∷ []) []) (sym (end_fit part t.records x fit') ∙ i) ∙ append-nil ks)

no_blanks : (part : Part) (t : Table) → cut_table part t ≡ blank_table (cut_table part t)
no_blanks part t = ap (λ rs. record (cut_table part t) { records = rs }) (sym (blank_cut part (kept part.calls t.records)))

-- what an operation needs: a request comes while there are only requests, and a call submits what is kept with it
abbrev pub Fine : Part → Table → TableOperation → Type 0
Fine part t (submit_request f host input) = list_all first_depth t.records ≡ true
Fine part t (submit parent f input) = (p : CallRecord) → slice_get t.records parent ≡ Some p → part.functions f ≡ part.calls parent
Fine part t op = Unit {0}

abbrev submitted_by : Table → ℕ → ℕ → List ℕ → Option CallRecord → Table
submitted_by t parent f input o = elim o [ None ↦ t | Some p ↦ submitted t parent p f input ]

submit_kept : (part : Part) (t : Table) (m m' parent f : ℕ) (input : List ℕ) → part.calls parent ≡ true → AllFit part t.records → AllFit part (table.after t m (submit parent f input)).records → Fine part t (submit parent f input) → cut_table part (table.after t m (submit parent f input)) ≡ blank_table (table.after (cut_table part t) m' (submit (rank part.calls parent) (rank part.functions f) input))
submit_kept part t m m' parent f input i fit fit' fine = by (slice_get t.records parent) refl
  where
    by : (o : Option CallRecord) → slice_get t.records parent ≡ o → cut_table part (table.after t m (submit parent f input)) ≡ blank_table (table.after (cut_table part t) m' (submit (rank part.calls parent) (rank part.functions f) input))
    by None e =
        ap (λ o. cut_table part (submitted_by t parent f input o)) e
        ∙ no_blanks part t
        ∙ sym (ap (λ o. blank_table (submitted_by (cut_table part t) (rank part.calls parent) (rank part.functions f) input o)) (get_cut part t.records parent i ∙ ap (option_map (cut_record part)) e))
    by (Some p) e = submit_cut part t m m' parent p f input e fit fit' i (fine p e ∙ i)

-- the operation that the cut has in its place
abbrev pub CutSo : Part → Table → ℕ → TableOperation → Option TableOperation → Type 0
CutSo part t m op None = cut_table part (table.after t m op) ≡ cut_table part t
CutSo part t m op (Some o) = (m' : ℕ) → cut_table part (table.after t m op) ≡ blank_table (table.after (cut_table part t) m' o)

only_so : (part : Part) (t : Table) (m : ℕ) (op o : TableOperation) (b : Bool) → (b ≡ true → (m' : ℕ) → cut_table part (table.after t m op) ≡ blank_table (table.after (cut_table part t) m' o)) → (b ≡ false → cut_table part (table.after t m op) ≡ cut_table part t) → CutSo part t m op (only b o)
only_so part t m op o true k l = k refl
only_so part t m op o false k l = l refl

abbrev pub is_next : TableOperation → Bool
is_next (take_next host bench) = true
is_next op = false

pub after_cut : (part : Part) (t : Table) (m : ℕ) (op : TableOperation) → is_next op ≡ false → AllFit part t.records → AllFit part (table.after t m op).records → Fine part t op → CutSo part t m op (cut_table_operation part op)
after_cut part t m (submit_request f host input) n fit fit' fine = only_so part t m (submit_request f host input) (submit_request (rank part.functions f) host input) (part.functions f) (λ i m'. request_kept part t m m' f host input i fine fit') (λ i. request_left part t m f host input i fit')
after_cut part t m (submit parent f input) n fit fit' fine = only_so part t m (submit parent f input) (submit (rank part.calls parent) (rank part.functions f) input) (part.calls parent) (λ i m'. submit_kept part t m m' parent f input i fit fit' fine) (λ i. submit_left part t m parent f input fit' i)
after_cut part t m (take_next host bench) n fit fit' fine = let no : ⊥ = cc in absurd no
after_cut part t m (take_this call host bench) n fit fit' fine = only_so part t m (take_this call host bench) (take_this (rank part.calls call) host 0) (part.calls call) (λ i m'. take_cut part t m m' call host bench 0 i) (λ i. take_left part t m call host bench i)
after_cut part t m (finish call o used output counts) n fit fit' fine = only_so part t m (finish call o used output counts) (finish (rank part.calls call) o used output counts) (part.calls call) (λ i m'. finish_cut part t m m' call o used output counts i) (λ i. finish_left part t m call o used output counts i)
after_cut part t m (look parent child) n fit fit' fine = only_so part t m (look parent child) (look (rank part.calls parent) child) (part.calls parent) (λ i m'. no_blanks part t) (λ i. refl)

-- ---- What it is answered.

submit_answer : (part : Part) (t : Table) (m m' parent f : ℕ) (input : List ℕ) → part.calls parent ≡ true → AllFit part t.records → Fine part t (submit parent f input) → table.reply t m (submit parent f input) ≡ table.reply (cut_table part t) m' (submit (rank part.calls parent) (rank part.functions f) input)
submit_answer part t m m' parent f input i fit fine = by (slice_get t.records parent) refl
  where
    answers : Table → ℕ → Option CallRecord → Reply
    answers u g o = elim o [ None ↦ Reply.done | Some p ↦ cond (table.has_room u p g input) (Reply.child p.children) Reply.chain_full ]

    by : (o : Option CallRecord) → slice_get t.records parent ≡ o → table.reply t m (submit parent f input) ≡ table.reply (cut_table part t) m' (submit (rank part.calls parent) (rank part.functions f) input)
    by None e = ap (answers t f) e ∙ sym (ap (answers (cut_table part t) (rank part.functions f)) (get_cut part t.records parent i ∙ ap (option_map (cut_record part)) e))
    by (Some p) e = sym (submit_reply_cut part t m m' parent f input fit i (fine p e ∙ i))

-- what a kept call asks, numbered anew
abbrev pub renamed : Part → ℕ × Operation → ℕ × Operation
renamed part a = (rank part.calls a.0, cut_operation part.functions a.1)

pub record Asked (part : Part) (t : Table) (m : ℕ) (op o : TableOperation) : Type 0 where
  pub same : asks o ≡ option_map (renamed part) (asks op)
  pub kept : (a : ℕ × Operation) → asks op ≡ Some a → part.calls a.0 ≡ true
  pub answer : (a : ℕ × Operation) → asks op ≡ Some a → (m' : ℕ) → table.reply t m op ≡ table.reply (cut_table part t) m' o

abbrev pub AskSo : Part → Table → ℕ → TableOperation → Option TableOperation → Type 0
AskSo part t m op None = (a : ℕ × Operation) → asks op ≡ Some a → part.calls a.0 ≡ false
AskSo part t m op (Some o) = Asked part t m op o

some_same : {A : Type 0} {x y : A} → Some x ≡ Some y → x ≡ y
some_same e = cc

asks_only : (part : Part) (t : Table) (m : ℕ) (op o : TableOperation) (b : Bool) → (b ≡ true → Asked part t m op o) → (b ≡ false → (a : ℕ × Operation) → asks op ≡ Some a → part.calls a.0 ≡ false) → AskSo part t m op (only b o)
asks_only part t m op o true k l = k refl
asks_only part t m op o false k l = l refl

silent : (part : Part) (t : Table) (m : ℕ) (op o : TableOperation) → asks op ≡ None → asks o ≡ None → Asked part t m op o
silent part t m op o h k = record { same = k ∙ sym (ap (option_map (renamed part)) h); kept = λ a e. let no : ⊥ = cc in absurd no; answer = λ a e. let no : ⊥ = cc in absurd no }

never : (part : Part) (op : TableOperation) → asks op ≡ None → (a : ℕ × Operation) → asks op ≡ Some a → part.calls a.0 ≡ false
never part op h a e = let no : ⊥ = cc in absurd no

by_parent : (part : Part) (parent : ℕ) (q : Operation) (a : ℕ × Operation) (b : Bool) → part.calls parent ≡ b → ◌≡◌ {A = Option (ℕ × Operation)} (Some (parent, q)) (Some a) → part.calls a.0 ≡ b
by_parent part parent q a b i e = ap (λ x. part.calls x.0) (sym (some_same e)) ∙ i

pub ask_cut : (part : Part) (t : Table) (m : ℕ) (op : TableOperation) → AllFit part t.records → Fine part t op → AskSo part t m op (cut_table_operation part op)
ask_cut part t m (submit_request f host input) fit fine = asks_only part t m (submit_request f host input) (submit_request (rank part.functions f) host input) (part.functions f) (λ i. silent part t m _ _ refl refl) (λ i. never part (submit_request f host input) refl)
ask_cut part t m (submit parent f input) fit fine =
    asks_only part t m (submit parent f input) (submit (rank part.calls parent) (rank part.functions f) input) (part.calls parent)
    (λ i. record { same = refl; kept = λ a e. by_parent part parent (Operation.submit f input) a true i e; answer = λ a e m'. submit_answer part t m m' parent f input i fit fine })
    (λ i a e. by_parent part parent (Operation.submit f input) a false i e)
ask_cut part t m (take_next host bench) fit fine = never part (take_next host bench) refl
ask_cut part t m (take_this call host bench) fit fine = asks_only part t m (take_this call host bench) (take_this (rank part.calls call) host 0) (part.calls call) (λ i. silent part t m _ _ refl refl) (λ i. never part (take_this call host bench) refl)
ask_cut part t m (finish call o used output counts) fit fine = asks_only part t m (finish call o used output counts) (finish (rank part.calls call) o used output counts) (part.calls call) (λ i. silent part t m _ _ refl refl) (λ i. never part (finish call o used output counts) refl)
ask_cut part t m (look parent child) fit fine =
    asks_only part t m (look parent child) (look (rank part.calls parent) child) (part.calls parent)
    (λ i. record { same = refl; kept = λ a e. by_parent part parent (Operation.look child) a true i e; answer = λ a e m'. sym (look_reply_cut part t m m' parent child fit i) })
    (λ i a e. by_parent part parent (Operation.look child) a false i e)

-- ---- Whether it may stand.

open_blank : (s : CallState) → is_open (blank_state s) ≡ is_open s
open_blank Queued = refl
open_blank (Taken host bench order) = refl
open_blank (Finished host bench order o used output counts) = refl

queued_blank : (s : CallState) → is_queued (blank_state s) ≡ is_queued s
queued_blank Queued = refl
queued_blank (Taken host bench order) = refl
queued_blank (Finished host bench order o used output counts) = refl

finished_blank : (s : CallState) → is_finished (blank_state s) ≡ is_finished s
finished_blank Queued = refl
finished_blank (Taken host bench order) = refl
finished_blank (Finished host bench order o used output counts) = refl

abbrev pub MaySo : Part → Table → ℕ → TableOperation → Option TableOperation → Type 0
MaySo part t m op None = Unit {0}
MaySo part t m op (Some o) = (m' : ℕ) → table.may (cut_table part t) m' o ≡ table.may t m op

may_only : (part : Part) (t : Table) (m : ℕ) (op o : TableOperation) (b : Bool) → (b ≡ true → (m' : ℕ) → table.may (cut_table part t) m' o ≡ table.may t m op) → MaySo part t m op (only b o)
may_only part t m op o true k = k refl
may_only part t m op o false k = tt

look_may : (part : Part) (t : Table) (parent child : ℕ) → part.calls parent ≡ true → AllFit part t.records → elim (child_of (cut_table part t).records (rank part.calls parent) child) as (λ o. Bool) [ None ↦ false | Some call ↦ passes_at (λ r. is_finished r.state) (cut_table part t).records call ] ≡ elim (child_of t.records parent child) as (λ o. Bool) [ None ↦ false | Some call ↦ passes_at (λ r. is_finished r.state) t.records call ]
look_may part t parent child i fit = ap (λ o. elim o as (λ o. Bool) [ None ↦ false | Some call ↦ passes_at (λ r. is_finished r.state) (cut_table part t).records call ]) (child_of_cut part t.records parent child fit i) ∙ by (child_of t.records parent child) refl
  where
    by : (o : Option ℕ) → child_of t.records parent child ≡ o → elim (option_map (rank part.calls) o) as (λ o. Bool) [ None ↦ false | Some call ↦ passes_at (λ r. is_finished r.state) (cut_table part t).records call ] ≡ elim o as (λ o. Bool) [ None ↦ false | Some call ↦ passes_at (λ r. is_finished r.state) t.records call ]
    by None e = refl
    by (Some c) e = passes_cut part (λ r. is_finished r.state) t.records c (λ r. finished_blank r.state) (child_of_kept part t.records parent child c fit i e)

pub may_cut : (part : Part) (t : Table) (m : ℕ) (op : TableOperation) → AllFit part t.records → MaySo part t m op (cut_table_operation part op)
may_cut part t m (submit_request f host input) fit = may_only part t m (submit_request f host input) (submit_request (rank part.functions f) host input) (part.functions f) (λ i m'. refl)
may_cut part t m (submit parent f input) fit = may_only part t m (submit parent f input) (submit (rank part.calls parent) (rank part.functions f) input) (part.calls parent) (λ i m'. passes_cut part (λ r. is_open r.state) t.records parent (λ r. open_blank r.state) i)
may_cut part t m (take_next host bench) fit = tt
may_cut part t m (take_this call host bench) fit = may_only part t m (take_this call host bench) (take_this (rank part.calls call) host 0) (part.calls call) (λ i m'. passes_cut part (λ r. is_queued r.state) t.records call (λ r. queued_blank r.state) i)
may_cut part t m (finish call o used output counts) fit = may_only part t m (finish call o used output counts) (finish (rank part.calls call) o used output counts) (part.calls call) (λ i m'. passes_cut part (λ r. is_open r.state) t.records call (λ r. open_blank r.state) i)
may_cut part t m (look parent child) fit = may_only part t m (look parent child) (look (rank part.calls parent) child) (part.calls parent) (λ i m'. ap₂ (λ a b. a && b) (passes_cut part (λ r. is_open r.state) t.records parent (λ r. open_blank r.state) i) (look_may part t parent child i fit))

-- ---- The cut to everything.

pub table_whole : (t : Table) → cut_table everything t ≡ blank_table t
table_whole t = ap₂ (λ fs rs. record t { functions = fs; records = rs }) (kept_all t.functions) (records_all t.records)

-- what a cut has is the same when it is cut to everything
pub cut_whole : (part : Part) (op : TableOperation) → (o : TableOperation) → cut_table_operation part op ≡ Some o → cut_table_operation everything o ≡ Some o
cut_whole part op o e = by op e
  where
    tested : (b : Bool) (x : TableOperation) → cut_table_operation everything x ≡ Some x → only b x ≡ Some o → cut_table_operation everything o ≡ Some o
    tested true x h k = subst (λ y. cut_table_operation everything y ≡ Some y) (some_same k) h
    tested false x h k = let no : ⊥ = cc in absurd no

    by : (op : TableOperation) → cut_table_operation part op ≡ Some o → cut_table_operation everything o ≡ Some o
    by (submit_request f host input) e = tested (part.functions f) (submit_request (rank part.functions f) host input) (ap (λ n. Some (submit_request n host input)) (rank_all (rank part.functions f))) e
    by (submit parent f input) e = tested (part.calls parent) (submit (rank part.calls parent) (rank part.functions f) input) (ap₂ (λ p n. Some (submit p n input)) (rank_all (rank part.calls parent)) (rank_all (rank part.functions f))) e
    by (take_next host bench) e = let no : ⊥ = cc in absurd no
    by (take_this call host bench) e = tested (part.calls call) (take_this (rank part.calls call) host 0) (ap (λ n. Some (take_this n host 0)) (rank_all (rank part.calls call))) e
    by (finish call x used output counts) e = tested (part.calls call) (finish (rank part.calls call) x used output counts) (ap (λ n. Some (finish n x used output counts)) (rank_all (rank part.calls call))) e
    by (look parent child) e = tested (part.calls parent) (look (rank part.calls parent) child) (ap (λ n. Some (look n child)) (rank_all (rank part.calls parent))) e
