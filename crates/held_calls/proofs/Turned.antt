-- A take and a Finish, at the place of their call; and the call stays there.
use Rattle.std.proofs.Common.{◌≡◌, ℕ, zero, suc, List, [], ◌∷◌, ◌++◌, true, Option, Some, None, slice_get, slice_set, unwrap_or, refl, sym, ap, ◌∙◌, subst}
use Rattle.std.specs.Prelude.{not}
use Rattle.std.proofs.lemmas.Bool.{eq-eqb}
use Rattle.std.proofs.lemmas.Option.{same_Some}
use Rattle.faaslet_meaning.specs.declared.call.CallRecord.{CallRecord}
use Rattle.faaslet_meaning.specs.declared.call.CallState.{CallState}
use Rattle.faaslet_meaning.specs.declared.call.CallState.TheVariants.{Queued, Taken, Finished}
use Rattle.faaslet_meaning.specs.declared.outcome.Outcome.{Outcome}
use Rattle.faaslet_meaning.specs.Channels.{Reply}
use Rattle.faaslet_meaning.specs.Lists.{is_empty, first, passes_at}
use Rattle.faaslet_meaning.specs.Records.{is_queued, queue, queued_calls, takes}
use Rattle.faaslet_meaning.specs.Table as table
use Rattle.faaslet_meaning.specs.Table.{Table, taken, next, finished_state}
use Rattle.faaslet_meaning.specs.Table.TableOperation.{submit_request, submit, take_next, take_this, finish, look}
use Rattle.turn_cell.specs.declared.view.Entry.{Entry}
use Rattle.turn_cell.specs.History.{Stands, Extends}
use Rattle.call_table.specs.Made.{Made}
use Rattle.call_table.specs.Makers.{keeper, is_on, MakesTable, RunsOn}
use Rattle.call_table.specs.Mine.{is_of, Ordered}
use Rattle.call_table.specs.Session.{SessionTable}
use Rattle.call_table.proofs.Held.{changed_set}
use Rattle.call_table.proofs.Mine.{next_is_queued, next_leaves, took, ended}
use Rattle.call_table.proofs.Places.{passes_there, passes_so}
use Rattle.held_calls.specs.Places.{SameOn, StillAt, TookAt, EndedAt}
use Rattle.held_calls.proofs.Alike.{same_none}
use Rattle.held_calls.proofs.Steps.{request_same, submit_same, take_same, next_same, finish_same}
use Rattle.held_calls.proofs.Walks.{cut, list_ordered, list_same}

-- ---- A list with one item set.

set_here : (rs : List CallRecord) (n : ℕ) (r x : CallRecord) → slice_get rs n ≡ Some r → slice_get (slice_set rs n x) n ≡ Some x
set_here [] n r x e = let no : ⊥ = cc in absurd no
set_here (y ∷ rs) zero r x e = refl
set_here (y ∷ rs) (suc n) r x e = set_here rs n r x e

set_there : (rs : List CallRecord) (n m : ℕ) (x : CallRecord) → (m ≡ n → ⊥) → slice_get (slice_set rs n x) m ≡ slice_get rs m
set_there [] n m x ne = refl
set_there (y ∷ rs) zero zero x ne = absurd (ne refl)
set_there (y ∷ rs) zero (suc m) x ne = refl
set_there (y ∷ rs) (suc n) zero x ne = refl
set_there (y ∷ rs) (suc n) (suc m) x ne = set_there rs n m x (λ e. ne (ap suc e))

-- ---- A take.

is_Queued : (s : CallState) → is_queued s ≡ true → s ≡ Queued
is_Queued Queued e = refl
is_Queued (Taken host bench order) e = cc
is_Queued (Finished host bench order outcome used output counts) e = cc

pub took_at : (t : Table) (call host bench : ℕ) → passes_at (λ r. is_queued r.state) t.records call ≡ true → Ordered t.records → TookAt host bench call t.records (taken t call host bench).records
took_at t call host bench q ordered =
    let p = passes_there (λ r. is_queued r.state) t.records call q in
    let k = took t call host bench q in
    let same : p.item ≡ k.of = same_Some p.item k.of (sym p.there ∙ k.there) in
    let new : CallRecord = record k.of { state = Taken host bench (takes t.records) } in
    let set : (taken t call host bench).records ≡ slice_set t.records call new = changed_set t.records call k.of (λ r. record r { state = Taken host bench (takes t.records) }) k.there in
    record {
      of = k.of;
      there = k.there;
      queued = is_Queued k.of.state (ap (λ (r : CallRecord). is_queued r.state) (sym same) ∙ p.passes);
      now = ap (λ rs. slice_get rs call) set ∙ set_here t.records call k.of new k.there;
      below = ordered;
      others = λ n r ne e. sym (ap (λ rs. slice_get rs n) set ∙ set_there t.records call n new ne) ∙ e;
      front = k.front;
      back = k.back;
      old_is = k.old_is;
      new_is = k.new_is;
    }

-- where a call is queued there is a next one
some_next : (t : Table) (host : ℕ) → not (is_empty (queued_calls t.records)) ≡ true → next t host ≡ None → ⊥
some_next t host may e = by (queue t.records host) (queued_calls t.records) may e
  where
    by : (q all : List ℕ) → not (is_empty all) ≡ true → first (q ++ all) ≡ None → ⊥
    by [] [] m e = cc
    by [] (n ∷ all) m e = cc
    by (n ∷ q) all m e = cc

number_so : (a b : ℕ) → Reply.number a ≡ Reply.number b → a ≡ b
number_so a b e = cc

next_at : (t : Table) (host bench call : ℕ) → not (is_empty (queued_calls t.records)) ≡ true → call ≡ unwrap_or (next t host) 0 → Ordered t.records → TookAt host bench call t.records (next_leaves t host bench (next t host)).records
next_at t host bench call may is ordered = by (next t host) refl is
  where
    by : (x : Option ℕ) → next t host ≡ x → call ≡ unwrap_or x 0 → TookAt host bench call t.records (next_leaves t host bench x).records
    by None e is = absurd (some_next t host may e)
    by (Some n) e is = subst (λ m. TookAt host bench m t.records (taken t n host bench).records) (sym is) (took_at t n host bench (next_is_queued t host n e) ordered)

pub made_next : (start t after : SessionTable) (list : List Entry) (host bench call : ℕ) → Stands MakesTable start list t → Ordered start.table.records → Made t (take_next host bench) after (Reply.number call)
    → TookAt host bench call t.table.records after.table.records
made_next start t after list host bench call st ordered m =
    subst (λ (u : Table). TookAt host bench call t.table.records u.records) (sym (m.did.after_so 0))
    (next_at t.table host bench call (m.did.may_stand 0) (number_so call (unwrap_or (next t.table host) 0) (m.did.reply_so 0)) (list_ordered start t list st ordered))

pub made_next_others : (t after : SessionTable) (host bench : ℕ) (reply : Reply) → Made t (take_next host bench) after reply → (b : ℕ) → (b ≡ bench → ⊥) → SameOn b t.table.records after.table.records
made_next_others t after host bench reply m b ne = subst (λ (u : Table). SameOn b t.table.records u.records) (sym (m.did.after_so 0)) (next_same t.table host bench b ne)

pub made_this : (start t after : SessionTable) (list : List Entry) (call host bench : ℕ) (reply : Reply) → Stands MakesTable start list t → Ordered start.table.records → Made t (take_this call host bench) after reply
    → TookAt host bench call t.table.records after.table.records
made_this start t after list call host bench reply st ordered m =
    subst (λ (u : Table). TookAt host bench call t.table.records u.records) (sym (m.did.after_so 0)) (took_at t.table call host bench (m.did.may_stand 0) (list_ordered start t list st ordered))

pub made_this_others : (t after : SessionTable) (call host bench : ℕ) (reply : Reply) → Made t (take_this call host bench) after reply → (b : ℕ) → (b ≡ bench → ⊥) → SameOn b t.table.records after.table.records
made_this_others t after call host bench reply m b ne =
    subst (λ (u : Table). SameOn b t.table.records u.records) (sym (m.did.after_so 0)) (take_same t.table call host bench b (m.did.may_stand 0) ne)

-- ---- A Finish.

module _ (t after : SessionTable) (call bench : ℕ) (o : Outcome) (used : ℕ) (output counts : List ℕ) (reply : Reply) (on : RunsOn t.table call bench) (m : Made t (finish call o used output counts) after reply) where
  ended_at : EndedAt bench call o used output counts t.table.records (table.after t.table 0 (finish call o used output counts)).records
  ended_at =
      let rs = t.table.records in
      let p = passes_there (λ r. is_on bench r.state) rs call on in
      let k = ended t.table call bench o used output counts 0 on in
      let same : p.item ≡ k.of = same_Some p.item k.of (sym p.there ∙ k.there) in
      let new : CallRecord = record k.of { state = finished_state k.of.state o used output counts } in
      let set : (table.after t.table 0 (finish call o used output counts)).records ≡ slice_set rs call new = changed_set rs call k.of (λ r. record r { state = finished_state r.state o used output counts }) k.there in
      record {
        of = k.of;
        there = k.there;
        on = ap (λ (r : CallRecord). is_on bench r.state) (sym same) ∙ p.passes;
        now = ap (λ rs. slice_get rs call) set ∙ set_here rs call k.of new k.there;
        others = λ n r ne e. sym (ap (λ rs. slice_get rs n) set ∙ set_there rs call n new ne) ∙ e;
        front = k.front;
        back = k.back;
        old_is = k.old_is;
        new_is = k.new_is;
      }

  pub made_finish : EndedAt bench call o used output counts t.table.records after.table.records
  made_finish = subst (λ (u : Table). EndedAt bench call o used output counts t.table.records u.records) (sym (m.did.after_so 0)) ended_at

  pub made_finish_others : (b : ℕ) → (b ≡ bench → ⊥) → SameOn b t.table.records after.table.records
  made_finish_others b ne = subst (λ (u : Table). SameOn b t.table.records u.records) (sym (m.did.after_so 0)) (finish_same t.table call bench b o used output counts on ne)

-- ---- A call stays on its bench.

on_of : (b : ℕ) (s : CallState) → is_on b s ≡ true → is_of b s ≡ true
on_of b Queued e = cc
on_of b (Taken host bench order) e = e
on_of b (Finished host bench order outcome used output counts) e = cc

pub taken_runs : (host bench call : ℕ) (before after : Table) → TookAt host bench call before.records after.records → RunsOn after call bench
taken_runs host bench call before after t =
    passes_so (λ r. is_on bench r.state) after.records call (record t.of { state = Taken host bench (takes before.records) }) t.now ∙ eq-eqb bench bench refl

pub same_runs : (bench call : ℕ) (before after : Table) → SameOn bench before.records after.records → RunsOn before call bench → RunsOn after call bench
same_runs bench call before after s on =
    let p = passes_there (λ r. is_on bench r.state) before.records call on in
    let new = s.stays call p.item p.there (on_of bench p.item.state p.passes) in
    passes_so (λ r. is_on bench r.state) after.records call new.0 new.1 ∙ (ap (λ (r : CallRecord). is_on bench r.state) (sym new.2) ∙ p.passes)

pub lists_run : (start : SessionTable) (bench call : ℕ) (old new : List Entry) → ((t : SessionTable) → Stands MakesTable start old t → RunsOn t.table call bench) → Extends (keeper start bench) old new
    → (t : SessionTable) → Stands MakesTable start new t → RunsOn t.table call bench
lists_run start bench call old new runs ext t st =
    let front = cut start t old ext.0 (subst (λ (l : List Entry). Stands MakesTable start l t) (sym ext.1) st) in
    same_runs bench call front.0.table t.table (list_same start front.0 t old new bench front.1 st ext) (runs front.0 front.1)

pub same_still : (bench call : ℕ) (old : CallRecord) (before after : List CallRecord) → SameOn bench before after → slice_get before call ≡ Some old → is_of bench old.state ≡ true → StillAt call old after
same_still bench call old before after s e t =
    let new = s.stays call old e t in
    let same = sym new.2 in
    record {
      now = new.0;
      there = new.1;
      request_so = ap (λ (r : CallRecord). r.request) same;
      parent_so = ap (λ (r : CallRecord). r.parent) same;
      child_so = ap (λ (r : CallRecord). r.child) same;
      depth_so = ap (λ (r : CallRecord). r.depth) same;
      function_so = ap (λ (r : CallRecord). r.function) same;
      input_so = ap (λ (r : CallRecord). r.input) same;
      room_so = ap (λ (r : CallRecord). r.room) same;
      fuel_so = ap (λ (r : CallRecord). r.fuel) same;
      state_so = ap (λ (r : CallRecord). r.state) same;
    }

-- ---- Requests, Submits and Looks.

pub made_request : (t after : SessionTable) (function host : ℕ) (input : List ℕ) (reply : Reply) → Made t (submit_request function host input) after reply → (bench : ℕ) → SameOn bench t.table.records after.table.records
made_request t after function host input reply m b = subst (λ (u : Table). SameOn b t.table.records u.records) (sym (m.did.after_so 0)) (request_same t.table function host b input)

pub made_submit : (t after : SessionTable) (parent function : ℕ) (input : List ℕ) (reply : Reply) → Made t (submit parent function input) after reply → (bench : ℕ) → SameOn bench t.table.records after.table.records
made_submit t after parent function input reply m b = subst (λ (u : Table). SameOn b t.table.records u.records) (sym (m.did.after_so 0)) (submit_same t.table parent function b input)

pub made_look : (t after : SessionTable) (parent child : ℕ) (reply : Reply) → Made t (look parent child) after reply → (bench : ℕ) → SameOn bench t.table.records after.table.records
made_look t after parent child reply m b = subst (λ (u : Table). SameOn b t.table.records u.records) (sym (m.did.after_so 0)) (same_none b t.table.records)
