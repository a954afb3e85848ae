-- A take hands out a call of the table.
use Rattle.std.proofs.Common.{◌≡◌, ℕ, ◌<◌, ◌≤◌, List, [], ◌∷◌, ◌++◌, length, Some, slice_get, sym, ap, ◌∙◌, subst}
use Rattle.std.proofs.lemmas.Option.{slice_get_within}
use Rattle.faaslet_meaning.specs.declared.call.CallRecord.{CallRecord}
use Rattle.faaslet_meaning.specs.declared.call.CallState.TheVariants.{Taken}
use Rattle.faaslet_meaning.specs.Channels.{Reply}
use Rattle.faaslet_meaning.specs.Records.{takes}
use Rattle.faaslet_meaning.specs.Spelling.{spelled_on_table}
use Rattle.faaslet_meaning.specs.Table.{TableOperation, take_next, take_this}
use Rattle.turn_cell.specs.declared.view.Entry.{Entry}
use Rattle.turn_cell.specs.History.{entry}
use Rattle.call_table.specs.Handed.{Handed}
use Rattle.call_table.specs.Held.{IsHeld, piece_limit}
use Rattle.call_table.specs.Made.{Made}
use Rattle.call_table.specs.Makers.{Keeps}
use Rattle.call_table.specs.Mine.{Ordered}
use Rattle.call_table.specs.Session.{SessionTable}
use Rattle.call_table.specs.declared.jobs.Job.{Job}
use Rattle.held_calls.specs.Places.{SameOn, TookAt}
use Rattle.held_calls.proofs.Turned.{made_next, made_next_others, made_this, made_this_others}
use Rattle.worker_turns.specs.Taking.{TookJob}
use Rattle.worker_turns.specs.Turned.{AtItsTurn, Entered}
use Rattle.worker_turns.proofs.Turning.{functions_so, keeps_so, entered_so}

same_record : (x y : CallRecord) (rs : List CallRecord) (n : ℕ) → slice_get rs n ≡ Some x → slice_get rs n ≡ Some y → x ≡ y
same_record x y rs n e f = let s : Some x ≡ Some y = sym e ∙ f in cc

-- what holds of each record of a table
abbrev pub EachHeld : SessionTable → ℕ → Type 0
EachHeld s call = (r : CallRecord) → slice_get s.table.records call ≡ Some r → IsHeld s.table.hosts (length s.table.functions) (length s.table.records) r

pub call_low : (host bench call : ℕ) (before after : List CallRecord) → TookAt host bench call before after → call < length after
call_low host bench call before after t = slice_get_within after call (record t.of { state = Taken host bench (takes before) }) t.now

pub took_job : (start : SessionTable) (maker host bench : ℕ) (o : TableOperation) (old new : List Entry) (job : Job) (buffer told : List ℕ)
    → (e : Entered start maker old new (o, Reply.number job.call)) → Handed e.before.table.records job.call job buffer told
    → TookAt host bench job.call e.before.table.records e.after.table.records → ((b : ℕ) → (b ≡ bench → ⊥) → SameOn b e.before.table.records e.after.table.records)
    → EachHeld e.after job.call → TookJob start maker host bench o old new job buffer told
took_job start maker host bench o old new job buffer told e h t others held =
    let rs = e.before.table.records in
    let same : h.of ≡ t.of = same_record h.of t.of rs job.call h.there t.there in
    let new_is : CallRecord = record t.of { state = Taken host bench (takes rs) } in
    let is : IsHeld e.after.table.hosts (length e.after.table.functions) (length e.after.table.records) new_is = held new_is t.now in
    record {
      entered = e;
      handed = h;
      took = t;
      others = others;
      function = subst (λ n. n < length start.table.functions) (sym (h.function_so ∙ ap (λ (r : CallRecord). r.function) same))
          (subst (λ fs. t.of.function < length fs) (functions_so start e.after new e.leads) is.function);
      len = subst (λ n. n ≤ piece_limit) (sym (h.len_so ∙ ap (λ (r : CallRecord). length r.input) same)) is.small.input;
      room = subst (λ n. n ≤ piece_limit) (sym (h.room_so ∙ ap (λ (r : CallRecord). r.room) same)) is.small.room;
    }

-- ---- The takes.

module _ (start s after : SessionTable) (maker host bench : ℕ) (old list : List Entry) (turn : AtItsTurn start maker old list s) (keeps : Keeps start maker host bench) (ordered : Ordered start.table.records) where
  pub next_low : (call : ℕ) → Made s (take_next host bench) after (Reply.number call) → call < length after.table.records
  next_low call made = call_low host bench call s.table.records after.table.records (made_next start s after list host bench call turn.leads ordered made)

  pub this_low : (call : ℕ) (reply : Reply) → Made s (take_this call host bench) after reply → call < length after.table.records
  this_low call reply made = call_low host bench call s.table.records after.table.records (made_this start s after list call host bench reply turn.leads ordered made)

  pub next_job : (new : List Entry) (job : Job) (buffer told : List ℕ) → Made s (take_next host bench) after (Reply.number job.call) → Handed s.table.records job.call job buffer told
      → new ≡ list ++ entry maker (spelled_on_table (take_next host bench)) ∷ [] → EachHeld after job.call → TookJob start maker host bench (take_next host bench) old new job buffer told
  next_job new job buffer told made handed is held =
      took_job start maker host bench (take_next host bench) old new job buffer told
      (entered_so start s after maker old list new (take_next host bench) (Reply.number job.call) turn made (keeps_so start s list maker host bench turn.leads keeps) tt is) handed
      (made_next start s after list host bench job.call turn.leads ordered made) (made_next_others s after host bench (Reply.number job.call) made) held

  pub this_job : (new : List Entry) (call : ℕ) (job : Job) (buffer told : List ℕ) → Made s (take_this call host bench) after (Reply.number call) → Handed s.table.records call job buffer told
      → new ≡ list ++ entry maker (spelled_on_table (take_this call host bench)) ∷ [] → EachHeld after job.call → TookJob start maker host bench (take_this call host bench) old new job buffer told × (job.call ≡ call)
  this_job new call job buffer told made handed is held =
      let same : call ≡ job.call = sym handed.call_so in (
        took_job start maker host bench (take_this call host bench) old new job buffer told
            (entered_so start s after maker old list new (take_this call host bench) (Reply.number job.call) turn (subst (λ n. Made s (take_this call host bench) after (Reply.number n)) same made) (keeps_so start s list maker host bench turn.leads keeps) tt is)
            (subst (λ n. Handed s.table.records n job buffer told) same handed)
            (subst (λ n. TookAt host bench n s.table.records after.table.records) same (made_this start s after list call host bench (Reply.number call) turn.leads ordered made))
            (made_this_others s after call host bench (Reply.number call) made) held,
        handed.call_so,
      )
