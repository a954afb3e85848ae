-- Which calls may end, by lists of entries.
use Rattle.std.proofs.Common.{◌≡◌, ℕ, ◌≤◌, List, [], ◌∷◌, ◌++◌, length, true, Some, slice_get, refl, sym, ap, ◌∙◌, subst, eqb-true, eq-eqb}
use Rattle.std.specs.Prelude.{nat_le, ◌==◌, unwrap_or}
use Rattle.std.proofs.lemmas.Bool.{le-leb}
use Rattle.faaslet_meaning.specs.declared.call.CallRecord.{CallRecord}
use Rattle.faaslet_meaning.specs.declared.call.CallState.{CallState}
use Rattle.faaslet_meaning.specs.declared.call.CallState.TheVariants.{Queued, Taken, Finished}
use Rattle.faaslet_meaning.specs.declared.outcome.Outcome.{Outcome}
use Rattle.faaslet_meaning.specs.Channels.{Reply}
use Rattle.faaslet_meaning.specs.Records.{takes}
use Rattle.faaslet_meaning.specs.Spelling.{spelled_on_table, CodeFits}
use Rattle.faaslet_meaning.specs.Table.{Table, TableOperation, callable, finish}
use Rattle.turn_cell.specs.declared.view.Entry.{Entry}
use Rattle.turn_cell.specs.History.{Stands, entry}
use Rattle.call_table.specs.Made.{Made}
use Rattle.call_table.specs.Makers.{MakesTable, RunsOn, is_on, keeper}
use Rattle.call_table.specs.Mine.{is_of}
use Rattle.call_table.specs.Session.{SessionTable}
use Rattle.call_table.specs.declared.jobs.Job.{Job}
use Rattle.call_table.proofs.Places.{passes_there, passes_so}
use Rattle.call_service.proofs.Further.{part}
use Rattle.call_service.proofs.Led.{one_table}
use Rattle.held_calls.specs.Places.{SameOn}
use Rattle.worker_turns.specs.Ending.{MayEnd, MayEndBy, MayFinish, RunsBy, Finishes}
use Rattle.worker_turns.specs.Taking.{TookJob}
use Rattle.worker_turns.specs.Turned.{AtItsTurn, Entered}
use Rattle.held_calls.proofs.Turned.{made_finish, made_finish_others}
use Rattle.held_calls.proofs.Walks.{list_same}
use Rattle.worker_turns.proofs.Turning.{functions_so, keeper_so, entered_so}

on_of : (b : ℕ) (s : CallState) → is_on b s ≡ true → is_of b s ≡ true
on_of b Queued e = let no : ⊥ = cc in absurd no
on_of b (Taken host bench order) e = e
on_of b (Finished host bench order outcome used output counts) e = let no : ⊥ = cc in absurd no

on_once : (a b : ℕ) (s : CallState) → is_on a s ≡ true → is_on b s ≡ true → a ≡ b
on_once a b Queued x y = let no : ⊥ = cc in absurd no
on_once a b (Taken host bench order) x y = sym (eqb-true bench a x) ∙ eqb-true bench b y
on_once a b (Finished host bench order outcome used output counts) x y = let no : ⊥ = cc in absurd no

-- a call runs on one bench
pub runs_once : (t : Table) (call a b : ℕ) → RunsOn t call a → RunsOn t call b → a ≡ b
runs_once t call a b x y =
    let p = passes_there (λ r. is_on a r.state) t.records call x in
    on_once a b p.item.state p.passes (sym (passes_so (λ r. is_on b r.state) t.records call p.item p.there) ∙ y)

-- what the record of the call says
may_end_at : (t : Table) (call bench output counts : ℕ) (r : CallRecord) → slice_get t.records call ≡ Some r → is_on bench r.state ≡ true → nat_le output r.room ≡ true → (counts == (callable t r.function).channels) ≡ true → MayEnd t call bench output counts
may_end_at t call bench output counts r there on room channels = record {
  runs = passes_so (λ x. is_on bench x.state) t.records call r there ∙ on;
  output_fits = passes_so (λ x. nat_le output x.room) t.records call r there ∙ room;
  counts_fit = passes_so (λ x. counts == (callable t x.function).channels) t.records call r there ∙ channels;
}

channels_so : (t u : Table) (a b : ℕ) → u.functions ≡ t.functions → b ≡ a → (callable u b).channels ≡ (callable t a).channels
channels_so t u a b fs same = λ i. (unwrap_or (slice_get (fs i) (same i)) (record { fuel = 0; room = 0; channels = 0 })).channels

pub may_end_stays : (t u : Table) (call bench output counts : ℕ) → u.functions ≡ t.functions → SameOn bench t.records u.records → MayEnd t call bench output counts → MayEnd u call bench output counts
may_end_stays t u call bench output counts fs same m =
    let p = passes_there (λ r. is_on bench r.state) t.records call m.runs in
    let s = same.stays call p.item p.there (on_of bench p.item.state p.passes) in
    let state : p.item.state ≡ s.0.state = ap (λ (r : CallRecord). r.state) s.2 in
    let room : p.item.room ≡ s.0.room = ap (λ (r : CallRecord). r.room) s.2 in
    let function : p.item.function ≡ s.0.function = ap (λ (r : CallRecord). r.function) s.2 in
    may_end_at u call bench output counts s.0 s.1
    (ap (is_on bench) (sym state) ∙ p.passes)
    (ap (nat_le output) (sym room) ∙ (sym (passes_so (λ x. nat_le output x.room) t.records call p.item p.there) ∙ m.output_fits))
    (ap (λ n. counts == n) (channels_so t u p.item.function s.0.function fs (sym function)) ∙ (sym (passes_so (λ x. counts == (callable t x.function).channels) t.records call p.item p.there) ∙ m.counts_fit))

-- ---- By lists.

pub by_others : (start t : SessionTable) (call bench output counts : ℕ) (old new : List Entry) → AtItsTurn start (keeper start bench) old new t → MayEndBy start old call bench output counts → MayEndBy start new call bench output counts
by_others start t call bench output counts old new turn m u st =
    let p = part start u old turn.others.0 (subst (λ (l : List Entry). Stands MakesTable start l u) (sym turn.others.1) st) in
    may_end_stays p.mid.table u.table call bench output counts (functions_so start u new st ∙ sym (functions_so start p.mid old p.to_mid)) (list_same start p.mid u old new bench p.to_mid st turn.others) (m p.mid p.to_mid)

pub by_own : (start : SessionTable) (call bench output counts : ℕ) (old new : List Entry) (made : TableOperation × Reply) → (e : Entered start (keeper start bench) old new made) → SameOn bench e.before.table.records e.after.table.records → MayEndBy start old call bench output counts → MayEndBy start new call bench output counts
by_own start call bench output counts old new made e same m u st =
    let was = by_others start e.before call bench output counts old e.list e.turn m e.before e.turn.leads in
    let now = may_end_stays e.before.table e.after.table call bench output counts (functions_so start e.after new e.leads ∙ sym (functions_so start e.before e.list e.turn.leads)) same was in
    subst (λ (x : SessionTable). MayEnd x.table call bench output counts) (one_table start e.after u new e.leads st) now

pub taken_may_end : (start : SessionTable) (maker host bench : ℕ) (o : TableOperation) (old new : List Entry) (job : Job) (before after : List ℕ) (output counts : ℕ)
    → TookJob start maker host bench o old new job before after → output ≤ job.room → counts ≡ (callable start.table job.function).channels → MayEndBy start new job.call bench output counts
taken_may_end start maker host bench o old new job before after output counts t low many u st =
    let e = t.entered in
    let rs = e.before.table.records in
    let took = t.took in
    let handed = t.handed in
    let same : handed.of ≡ took.of = let s : Some handed.of ≡ Some took.of = sym handed.there ∙ took.there in cc in
    let room : job.room ≡ took.of.room = handed.room_so ∙ ap (λ (r : CallRecord). r.room) same in
    let function : job.function ≡ took.of.function = handed.function_so ∙ ap (λ (r : CallRecord). r.function) same in
    let now = may_end_at e.after.table job.call bench output counts (record took.of { state = Taken host bench (takes rs) }) took.now
    (eq-eqb bench bench refl)
    (le-leb output took.of.room (subst (λ n. output ≤ n) room low))
    (eq-eqb counts (callable e.after.table took.of.function).channels (many ∙ channels_so e.after.table start.table took.of.function job.function (sym (functions_so start e.after new e.leads)) function)) in
    subst (λ (x : SessionTable). MayEnd x.table job.call bench output counts) (one_table start e.after u new e.leads st) now

-- at the turn of its worker
pub at_its_turn : (start s : SessionTable) (maker call output counts : ℕ) (old list : List Entry) (m : MayFinish start maker old call output counts) → AtItsTurn start maker old list s → MayEnd s.table call m.bench output counts
at_its_turn start s maker call output counts old list m turn =
    by_others start s call m.bench output counts old list (subst (λ n. AtItsTurn start n old list s) m.maker_so turn) m.may_end s turn.leads

-- the bench of which it is known is that one
pub its_bench : (start s : SessionTable) (maker call output counts bench : ℕ) (old list : List Entry) (m : MayFinish start maker old call output counts) → AtItsTurn start maker old list s → RunsBy start old call bench → m.bench ≡ bench
its_bench start s maker call output counts bench old list m turn runs =
    let p = part start s old turn.others.0 (subst (λ (l : List Entry). Stands MakesTable start l s) (sym turn.others.1) turn.leads) in
    runs_once p.mid.table call m.bench bench (m.may_end p.mid p.to_mid).runs (runs p.mid p.to_mid)

pub worker_may : (start s : SessionTable) (maker call output counts : ℕ) (old list : List Entry) (m : MayFinish start maker old call output counts) → AtItsTurn start maker old list s
    → (bench : ℕ) × RunsOn s.table call bench × (maker ≡ keeper s bench)
worker_may start s maker call output counts old list m turn =
    (m.bench, (at_its_turn start s maker call output counts old list m turn).runs, m.maker_so ∙ sym (keeper_so start s list m.bench turn.leads))

pub finishes_so : (start s after : SessionTable) (maker call : ℕ) (outcome : Outcome) (used : ℕ) (output counts : List ℕ) (old list new : List Entry) (m : MayFinish start maker old call (length output) (length counts)) → AtItsTurn start maker old list s
    → (bench : ℕ) → RunsBy start old call bench → CodeFits outcome → Made s (finish call outcome used output counts) after Reply.done
    → new ≡ list ++ entry maker (spelled_on_table (finish call outcome used output counts)) ∷ [] → Finishes start maker bench call outcome used output counts old new
finishes_so start s after maker call outcome used output counts old list new m turn bench runs fits made is =
    let may = worker_may start s maker call (length output) (length counts) old list m turn in
    let on = subst (RunsOn s.table call) (its_bench start s maker call (length output) (length counts) bench old list m turn runs) (at_its_turn start s maker call (length output) (length counts) old list m turn).runs in
    record {
      entered = entered_so start s after maker old list new (finish call outcome used output counts) Reply.done turn made may fits is;
      ended = made_finish s after call bench outcome used output counts Reply.done on made;
      others = made_finish_others s after call bench outcome used output counts Reply.done on made;
    }
