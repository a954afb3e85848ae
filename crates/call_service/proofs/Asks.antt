-- What a turn leaves is what was asked.
use Rattle.std.proofs.Common.{◌≡◌, ℕ, ◌≤◌, cond, List, length, take, slice_get, get_or, Some, refl, sym, ap, ◌∙◌}
use Rattle.std.specs.Prelude as std
use Rattle.std.proofs.lemmas.Bool.{le-leb}
use Rattle.std.proofs.lemmas.Option.{get_or_from_slice_get}
use Rattle.faaslet_meaning.specs.declared.ask.Ask.TheVariants as an_ask
use Rattle.faaslet_meaning.specs.declared.ask.Reply as coded
use Rattle.faaslet_meaning.specs.declared.ask.Reply.TheVariants as a_reply
use Rattle.faaslet_meaning.specs.declared.grant.Channel.TheVariants.{Table}
use Rattle.faaslet_meaning.specs.Asks.{front, submit_of}
use Rattle.faaslet_meaning.specs.Channels.{Operation, Reply, ask}
use Rattle.faaslet_meaning.specs.Table.{has_room}
use Rattle.turn_cell.specs.declared.view.Entry.{Entry}
use Rattle.call_table.specs.Session.{SessionTable}
use Rattle.call_service.specs.Asked.{question_of}
use Rattle.call_service.specs.Served.{Answers, Serves}
use Rattle.call_service.specs.Turned.{Submits, Looks}
use Rattle.call_service.specs.declared.service.Service.{Service}
use Rattle.call_service.specs.declared.service.Service.TheVariants as service
use Rattle.call_service.proofs.Led.{one_table}

front_there : (len : ℕ) (scratch : List ℕ) → len ≤ length scratch → front len scratch ≡ Some (take len scratch)
front_there len scratch h = ap (λ b. cond b (Some (take len scratch)) std.None) (le-leb len (length scratch) h)

-- the function at a place of the list
pub callee_so : (callees : List ℕ) (f function : ℕ) → slice_get callees f ≡ Some function → slice_get callees f ≡ Some (get_or callees f 0)
callee_so callees f function e = e ∙ ap (λ n. Some n) (sym (get_or_from_slice_get callees f function 0 e))

submit_so : (callees : List ℕ) (f len function : ℕ) (scratch : List ℕ) → slice_get callees f ≡ Some function → len ≤ length scratch
    → question_of callees (an_ask.Submit f len) scratch ≡ Some (ask Table (Operation.submit function (take len scratch)))
submit_so callees f len function scratch e h = ap (λ o. submit_of o (front len scratch)) e ∙ ap (λ o. submit_of (Some function) o) (front_there len scratch h)

pub submit_serves : (callees : List ℕ) (start : SessionTable) (maker call f len function : ℕ) (old new : List Entry) (code : coded.Reply) (scratch : List ℕ) → slice_get callees f ≡ Some function → len ≤ length scratch
    → Submits start maker call function (take len scratch) old new code → Answers callees start maker call (an_ask.Submit f len) old new code scratch scratch
submit_serves callees start maker call f len function old new (a_reply.Child n) scratch e h s = record {
  question = ask Table (Operation.submit function (take len scratch));
  question_so = submit_so callees f len function scratch e h;
  answer = Reply.child n;
  form = refl;
  replies = refl;
  told_so = refl;
  made = s;
  want = λ w. cc;
}
submit_serves callees start maker call f len function old new a_reply.ChainFull scratch e h s = record {
  question = ask Table (Operation.submit function (take len scratch));
  question_so = submit_so callees f len function scratch e h;
  answer = Reply.chain_full;
  form = refl;
  replies = refl;
  told_so = refl;
  made = s;
  want = λ w. cc;
}
submit_serves callees start maker call f len function old new a_reply.Want scratch e h s = record {
  question = ask Table (Operation.submit function (take len scratch));
  question_so = submit_so callees f len function scratch e h;
  answer = Reply.want;
  form = refl;
  replies = refl;
  told_so = refl;
  made = (s.table, s.turn);
  want = λ w t p st there.
      let same : s.table ≡ t = one_table start s.table t new s.turn.leads st in
      ap (λ (u : SessionTable). has_room u.table p function (take len scratch)) (sym same) ∙ s.room p (ap (λ (u : SessionTable). slice_get u.table.records call) same ∙ there);
}
submit_serves callees start maker call f len function old new a_reply.Done scratch e h s = absurd s
submit_serves callees start maker call f len function old new a_reply.Full scratch e h s = absurd s
submit_serves callees start maker call f len function old new (a_reply.Present is_so) scratch e h s = absurd s
submit_serves callees start maker call f len function old new (a_reply.Bytes n) scratch e h s = absurd s
submit_serves callees start maker call f len function old new (a_reply.Number n) scratch e h s = absurd s
submit_serves callees start maker call f len function old new (a_reply.Finished outcome n) scratch e h s = absurd s

pub look_serves : (callees : List ℕ) (start : SessionTable) (maker call child : ℕ) (old new : List Entry) (came : Service) (scratch told : List ℕ) → Looks start maker call child old new came scratch told → Serves callees start maker call (an_ask.Look child) old new came scratch told
look_serves callees start maker call child old new (service.Replied code) scratch told l = record {
  question = ask Table (Operation.look child);
  question_so = refl;
  answer = Reply.finished l.outcome l.output;
  form = refl;
  replies = l.stands_for;
  told_so = l.told_so;
  made = l.entered;
  want = λ w. cc;
}
look_serves callees start maker call child old new (service.Awaits n) scratch told l = l
