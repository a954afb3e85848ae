-- A question on the call table that was served, or whose child isn't finished, and the call that goes on.
use Rattle.std.proofs.Common.{◌≡◌, ℕ, ◌≤◌, Bool, true, false, cond, List, [], ◌∷◌, ◌++◌, Option, Some, None, refl, sym, ap, ◌∙◌, subst, append_assoc, length, take, slice_get, arith}
use Rattle.std.specs.Prelude.{IsTrue, nat_le}
use Rattle.std.proofs.lemmas.List.{append-nil}
use Rattle.std.proofs.lemmas.Option.{same_Some}
use Rattle.std.proofs.lemmas.Bool.{leb-true}
use Rattle.faaslet_meaning.specs.declared.ask.Ask.{Ask}
use Rattle.faaslet_meaning.specs.declared.ask.Ask.TheVariants as an_ask
use Rattle.faaslet_meaning.specs.declared.ask.Reply as coded
use Rattle.faaslet_meaning.specs.declared.grant.Channel.TheVariants.{Local, Global, Table}
use Rattle.faaslet_meaning.specs.Asks.{front, question_of_ask, submit_of}
use Rattle.faaslet_meaning.specs.Call.{fits}
use Rattle.faaslet_meaning.specs.CallState.{Invocation}
use Rattle.faaslet_meaning.specs.Channels.{Operation, Question, Reply, Transcript, ask, entries, on_channel, told_by}
use Rattle.faaslet_meaning.specs.Table.{TableOperation}
use Rattle.faaslet_meaning.specs.Asks.{RepliesAs}
use Rattle.faaslet_meaning.specs.CallState.{asks}
use Rattle.faaslet_run.specs.Places.{StandsAt}
use Rattle.faaslet_run.proofs.Standing.{kept_stands}
use Rattle.faaslet_run.specs.Turns.{GoesOn}
use Rattle.faaslet_run.specs.declared.faaslet.Faaslet.{Faaslet}
use Rattle.call_service.specs.Asked as service
use Rattle.call_service.specs.Asked.{told_as}
use Rattle.call_service.specs.May.{MayCall}
use Rattle.call_service.specs.Served.{Answers, Awaited, Made, Serves}
use Rattle.call_service.specs.declared.service.Service.TheVariants as came
use Rattle.host_worker.specs.Halts.{AwaitsChild}
use Rattle.host_worker.specs.Busy.{Went}
use Rattle.call_service.proofs.Further.{part}
use Rattle.call_service.proofs.Listens.{heard_stays, made_heard}
use Rattle.call_table.specs.Makers.{MakesTable, RunsOn}
use Rattle.faaslet_meaning.specs.Records.{child_of}
use Rattle.call_table.specs.Session.{SessionTable}
use Rattle.granted_asks.specs.LiesIn.{LiesIn}
use Rattle.session_meaning.proofs.Goes.{told_more}
use Rattle.told_asks.specs.Knows.{KnowsBy}
use Rattle.told_asks.specs.Seen.{seen_by}
use Rattle.told_asks.proofs.Known.{answer_fits, answer_known, looks_at, stay_known}
use Rattle.told_asks.proofs.Seen.{seen_both, seen_so}
use Rattle.turn_cell.specs.declared.view.Entry.{Entry}
use Rattle.turn_cell.specs.Cell.{IsPassOf, pass_list, pass_number, start_of}
use Rattle.turn_cell.specs.History.{Extends, Stands}
use Rattle.host_worker.specs.Asking.{Asking, OnTable}
use Rattle.host_worker.specs.Busy.{Busy, Errand, first_of, function_of, invocation_of}
use Rattle.host_worker.specs.Seats.{HeardBy}
use Rattle.host_worker.specs.declared.bench.Bench.{Bench}
use Rattle.host_worker.specs.declared.bench.Tiers.{Tiers}
use Rattle.host_worker.proofs.Forms.{table_quiet}
use Rattle.host_worker.proofs.Keys.{lies}
use Rattle.host_worker.proofs.Parts.{busy_at, stays}
use Rattle.host_worker.proofs.Told.{told_as_both}

-- ---- Lists of the table.

pub stays_heard : (start : SessionTable) (n : ℕ) (old new : List Entry) (told : List (TableOperation × Reply)) → Extends n old new → HeardBy start n old told → HeardBy start n new told
stays_heard start n old new told x h t st =
    let p = part start t old x.0 (subst (λ (l : List Entry). Stands MakesTable start l t) (sym x.1) st) in
    heard_stays start t n old new told x st (h p.mid p.to_mid)

pub stays_known : (start : SessionTable) (n call : ℕ) (old new : List Entry) (kids : List (Option ℕ)) → Extends n old new → KnowsBy start old call kids → KnowsBy start new call kids
stays_known start n call old new kids x k = subst (λ (l : List Entry). KnowsBy start l call kids) x.1 (stay_known start call kids old x.0 k)

made_list : (start : SessionTable) (n call : ℕ) (old new : List Entry) (made told : List (TableOperation × Reply)) → Made start n call old new made → HeardBy start n old told → HeardBy start n new (told ++ made)
made_list start n call old new [] told m h t st =
    let p = part start m.0 old m.1.others.0 (subst (λ (l : List Entry). Stands MakesTable start l m.0) (sym m.1.others.1) m.1.leads) in
    made_heard start n call old new [] told m (h p.mid p.to_mid)
made_list start n call old new (x ∷ []) told m h t st =
    let p = part start m.before old m.turn.others.0 (subst (λ (l : List Entry). Stands MakesTable start l m.before) (sym m.turn.others.1) m.turn.leads) in
    made_heard start n call old new (x ∷ []) told m (h p.mid p.to_mid)
made_list start n call old new (x ∷ y ∷ more) told m h t st = absurd m

-- ---- The question.

-- a Submit is of a callable function, and its input is there
record IsSubmit (callees : List ℕ) (f len : ℕ) (scratch : List ℕ) (q : Question) : Type 0 where
  function : ℕ
  is_callee : slice_get callees f ≡ Some function
  there : len ≤ length scratch
  is : q ≡ ask Table (Operation.submit function (take len scratch))

submit_so : (callees : List ℕ) (f len : ℕ) (scratch : List ℕ) (q : Question) → submit_of (slice_get callees f) (front len scratch) ≡ Some q → IsSubmit callees f len scratch q
submit_so callees f len scratch q e = by (slice_get callees f) refl (nat_le len (length scratch)) refl e
  where
    by : (o : Option ℕ) → slice_get callees f ≡ o → (b : Bool) → nat_le len (length scratch) ≡ b → submit_of o (cond b (Some (take len scratch)) None) ≡ Some q → IsSubmit callees f len scratch q
    by (Some g) at true low s = record { function = g; is_callee = at; there = leb-true len (length scratch) low; is = sym (same_Some _ _ s) }
    by (Some g) at false low s = let no : ⊥ = cc in absurd no
    by None at b low s = let no : ⊥ = cc in absurd no

pub may_call : (tiers : Tiers) (b : Bench) (e : Errand) (t : Transcript) (a : Ask) (h : Asking tiers b e t a) → OnTable a → length b.faaslet.scratch ≡ 65536 → MayCall b.callees.now (start_of tiers.table.now) b.call a (pass_list b.passes.table) b.faaslet.scratch
may_call tiers b e t (an_ask.Submit f len) h on long =
    let s = submit_so (function_of e).callees f len b.faaslet.scratch h.asks.question h.asks.is in
    let of = subst (LiesIn e.plan (function_of e) h.asks.state) s.is (lies tiers b e t (an_ask.Submit f len) h) in
    let there = s.there in
    let known = of.is_there in
    let functions = h.busy.table.functions in
    record {
      function = s.function;
      is_callee = ap (λ cs. slice_get cs f) h.busy.callees ∙ s.is_callee;
      known = omega (arith, known, functions);
      there = s.there;
      short = omega (arith, there, long);
    }
may_call tiers b e t (an_ask.Look child) h on long =
    let is : h.asks.question ≡ ask Table (Operation.look child) = sym (same_Some _ _ h.asks.is) in
    let low = subst (LiesIn e.plan (function_of e) h.asks.state) is (lies tiers b e t (an_ask.Look child) h) in
    let kids = seen_so (function_of e) e.input e.config t h.asks.state h.asks.question h.busy.errand.begins h.asks.at.way in
    let many = ap length kids in
    (looks_at (start_of tiers.table.now) b.call child (seen_by [] t) (pass_list b.passes.table) h.busy.table.counts h.busy.knows (omega (arith, low, many)), omega (arith, long))
may_call tiers b e t (an_ask.Region ch o) h on long = absurd on
may_call tiers b e t (an_ask.Move key kind) h on long = absurd on

-- the question that was served is the one that was asked, and one on the table
pub same_on_table : (j : Invocation) (callees : List ℕ) (a : Ask) (scratch : List ℕ) (p q : Question) → callees ≡ j.callees → OnTable a → service.question_of callees a scratch ≡ Some p → question_of_ask j a scratch ≡ Some q → (p ≡ q) × ((o : Operation) × (p ≡ ask Table o))
same_on_table j callees (an_ask.Submit f len) scratch p q same on is asked =
    let s = submit_so callees f len scratch p is in
    (same_Some _ _ (sym is ∙ (ap (λ cs. submit_of (slice_get cs f) (front len scratch)) same ∙ asked)), (_, s.is))
same_on_table j callees (an_ask.Look child) scratch p q same on is asked = (same_Some _ _ (sym is ∙ asked), (_, sym (same_Some _ _ is)))
same_on_table j callees (an_ask.Region ch o) scratch p q same on is asked = absurd on
same_on_table j callees (an_ask.Move key kind) scratch p q same on is asked = absurd on

-- ---- Once it was served.

module _ (tiers : Tiers) (b : Bench) (e : Errand) (t : Transcript) (a : Ask) (h : Asking tiers b e t a) (on : OnTable a) (new : List Entry) (code : coded.Reply) (told : List ℕ)
    (s : Answers b.callees.now (start_of tiers.table.now) b.number b.call a (pass_list b.passes.table) new code b.faaslet.scratch told) where
  pub table_question : (s.question ≡ h.asks.question) × ((o : Operation) × (s.question ≡ ask Table o))
  table_question = same_on_table (invocation_of e) b.callees.now a b.faaslet.scratch s.question h.asks.question h.busy.callees on s.question_so h.asks.is

  kids : h.asks.state.children ≡ seen_by [] t
  kids = seen_so (function_of e) e.input e.config t h.asks.state h.asks.question h.busy.errand.begins h.asks.at.way

  pub table_fits : length told ≤ 65536 → IsTrue (fits h.asks.state s.question s.answer)
  table_fits short =
      answer_fits b.callees.now (start_of tiers.table.now) b.number b.call a (pass_list b.passes.table) new code b.faaslet.scratch told h.asks.state h.busy.table.counts short
      (subst (KnowsBy (start_of tiers.table.now) (pass_list b.passes.table) b.call) (sym kids) h.busy.knows) s

  pub table_asked : (bytes : List ℕ) → StandsAt (record b.faaslet { scratch = bytes }) (invocation_of e) (first_of e) t (asks h.asks.state s.question)
  table_asked bytes = kept_stands b.faaslet (invocation_of e) (first_of e) t (asks h.asks.state s.question) bytes (subst (λ q. StandsAt b.faaslet (invocation_of e) (first_of e) t (asks h.asks.state q)) (sym table_question.0) h.asks.at)

  pub table_laid : (bytes : List ℕ) → bytes ≡ told → RepliesAs s.question code bytes s.answer
  table_laid bytes is = subst (λ x. RepliesAs s.question code x s.answer) (sym is) s.replies

  abbrev pub table_more : Transcript
  table_more = (s.question, s.answer) ∷ []

  quiet : (key : ℕ) → (on_channel (Local key) (entries s.question s.answer) ≡ []) × (on_channel (Global key) (entries s.question s.answer) ≡ [])
  quiet key = subst (λ q. (on_channel (Local key) (entries q s.answer) ≡ []) × (on_channel (Global key) (entries q s.answer) ≡ [])) (sym table_question.1.1) (table_quiet key table_question.1.0 s.answer)

  told_local : (key : ℕ) → told_by t (Local key) ≡ told_by (t ++ table_more) (Local key)
  told_local key = sym (told_more t s.question s.answer (Local key) ∙ (ap (λ l. told_by t (Local key) ++ l) (quiet key).0 ∙ append-nil (told_by t (Local key))))

  told_global : (key : ℕ) → told_by t (Global key) ≡ told_by (t ++ table_more) (Global key)
  told_global key = sym (told_more t s.question s.answer (Global key) ∙ (ap (λ l. told_by t (Global key) ++ l) (quiet key).1 ∙ append-nil (told_by t (Global key))))

  pub knows_more : KnowsBy (start_of tiers.table.now) new b.call (seen_by [] (t ++ table_more))
  knows_more = subst (KnowsBy (start_of tiers.table.now) new b.call) (sym (seen_both [] t table_more))
      (answer_known b.callees.now (start_of tiers.table.now) b.number b.call a (pass_list b.passes.table) new code b.faaslet.scratch told (seen_by [] t) h.busy.knows s)

  told_table : (e.before.table ++ told_as b.call (told_by t Table)) ++ told_as b.call (on_channel Table (entries s.question s.answer)) ≡ e.before.table ++ told_as b.call (told_by (t ++ table_more) Table)
  told_table = append_assoc e.before.table (told_as b.call (told_by t Table)) (told_as b.call (on_channel Table (entries s.question s.answer)))
      ∙ ap (λ l. e.before.table ++ l) (sym (told_as_both b.call (told_by t Table) (on_channel Table (entries s.question s.answer))) ∙ ap (told_as b.call) (sym (told_more t s.question s.answer Table)))

  pub table_busy : (n : Bench) → n.number ≡ b.number → n.call ≡ b.call → n.callees ≡ b.callees → n.passes.state ≡ b.passes.state → pass_list n.passes.table ≡ new → IsPassOf n.passes.table tiers.table.now → pass_number n.passes.table ≡ b.number
      → GoesOn n.faaslet (invocation_of e) (first_of e) (t ++ table_more) → Busy tiers n e (t ++ table_more)
  table_busy n number call callees state list cell own goes = busy_at tiers b e t (t ++ table_more) h.busy n number call callees state cell own goes
      (λ key. ap (λ l. e.before.local key ++ l) (told_local key)) (λ key. ap (λ l. e.before.global key ++ l) (told_global key))
      (subst (λ (l : List Entry). HeardBy (start_of tiers.table.now) b.number l (e.before.table ++ told_as b.call (told_by (t ++ table_more) Table))) (sym list)
      (subst (HeardBy (start_of tiers.table.now) b.number new) told_table (made_list (start_of tiers.table.now) b.number b.call (pass_list b.passes.table) new _ _ s.made h.busy.heards.table)))
      (subst (λ (l : List Entry). KnowsBy (start_of tiers.table.now) l b.call (seen_by [] (t ++ table_more))) (sym list) knows_more)

-- ---- Where the child isn't finished.

-- then it looks at a child
record Looks (callees : List ℕ) (start : SessionTable) (maker call : ℕ) (a : Ask) (old new : List Entry) (n : ℕ) : Type 0 where
  child : ℕ
  is : a ≡ an_ask.Look child
  awaited : Awaited start maker call child old new n

looks_so : (callees : List ℕ) (start : SessionTable) (maker call : ℕ) (a : Ask) (old new : List Entry) (n : ℕ) (scratch told : List ℕ) → Serves callees start maker call a old new (came.Awaits n) scratch told → Looks callees start maker call a old new n
looks_so callees start maker call (an_ask.Look child) old new n scratch told s = record { child = child; is = refl; awaited = s.0 }
looks_so callees start maker call (an_ask.Submit f len) old new n scratch told s = absurd s
looks_so callees start maker call (an_ask.Region ch o) old new n scratch told s = absurd s
looks_so callees start maker call (an_ask.Move key kind) old new n scratch told s = absurd s

pub table_awaits : (tiers : Tiers) (b : Bench) (e : Errand) (t : Transcript) (a : Ask) (h : Asking tiers b e t a) (new : List Entry) (n : ℕ) (told : List ℕ) → Serves b.callees.now (start_of tiers.table.now) b.number b.call a (pass_list b.passes.table) new (came.Awaits n) b.faaslet.scratch told
    → (x : Bench) (bytes : List ℕ) → x.number ≡ b.number → x.call ≡ b.call → x.callees ≡ b.callees → x.passes.state ≡ b.passes.state → pass_list x.passes.table ≡ new → IsPassOf x.passes.table tiers.table.now → pass_number x.passes.table ≡ b.number
    → x.faaslet ≡ record b.faaslet { scratch = bytes } → (w : Went tiers x e t) × AwaitsChild tiers x e (t ++ w.trail) n
table_awaits tiers b e t a h new n told s x bytes number call callees state list cell own faaslet =
    let l = looks_so b.callees.now (start_of tiers.table.now) b.number b.call a (pass_list b.passes.table) new n b.faaslet.scratch told s in
    let asked : h.asks.question ≡ ask Table (Operation.look l.child) = sym (same_Some _ _ (sym (ap (λ y. question_of_ask (invocation_of e) y b.faaslet.scratch) l.is) ∙ h.asks.is)) in
    let f : Faaslet = record b.faaslet { scratch = bytes } in
    let at = kept_stands b.faaslet (invocation_of e) (first_of e) t (asks h.asks.state h.asks.question) bytes h.asks.at in
    let goes : GoesOn f (invocation_of e) (first_of e) t = record { progress = asks h.asks.state h.asks.question; at = at; ready = h.asks.ready } in
    let turn = l.awaited.turn in
    let heard = stays_heard (start_of tiers.table.now) b.number (pass_list b.passes.table) new _ turn.others h.busy.heards.table in
    let known = stays_known (start_of tiers.table.now) b.number b.call (pass_list b.passes.table) new _ turn.others h.busy.knows in
    let busy = busy_at tiers b e t t h.busy x number call callees state cell own (subst (λ (y : Faaslet). GoesOn y (invocation_of e) (first_of e) t) (sym faaslet) goes) (λ key. refl) (λ key. refl)
    (subst (λ (y : List Entry). HeardBy (start_of tiers.table.now) b.number y (e.before.table ++ told_as b.call (told_by t Table))) (sym list) heard)
    (subst (λ (y : List Entry). KnowsBy (start_of tiers.table.now) y b.call (seen_by [] t)) (sym list) known) in
    stays tiers x e t (λ u. AwaitsChild tiers x e u n) busy (record {
      child = l.child;
      state = h.asks.state;
      at = subst (λ (y : Faaslet). StandsAt y (invocation_of e) (first_of e) t (asks h.asks.state (ask Table (Operation.look l.child)))) (sym faaslet) (subst (λ q. StandsAt f (invocation_of e) (first_of e) t (asks h.asks.state q)) asked at);
      table = l.awaited.table;
      leads = subst (λ (y : List Entry). Stands MakesTable (start_of tiers.table.now) y l.awaited.table) (sym list) turn.leads;
      runs = subst (λ (m : ℕ). RunsOn l.awaited.table.table x.call m) (sym number) (subst (λ (m : ℕ). RunsOn l.awaited.table.table m b.number) (sym call) turn.runs);
      is_child = subst (λ (m : ℕ). child_of l.awaited.table.table.records m l.child ≡ Some n) (sym call) l.awaited.is_child;
      unfinished = l.awaited.unfinished;
    })
