-- A reply that stands for one of the form of the question belongs to the host call on state that asked.
use Rattle.std.proofs.Common.{◌≡◌, ℕ, ◌≤◌, Bool, true, false, List, [], Some, None, length, take, drop, refl, ap, ◌∙◌, sym, subst}
use Rattle.std.specs.Prelude.{if◌then◌else◌, nat_le, option_map}
use Rattle.std.proofs.lemmas.Bool.{leb-true, eqb-true}
use Rattle.std.proofs.lemmas.List.{length-take-le}
use Rattle.std.proofs.lemmas.Option.{same_Some}
use Rattle.faaslet_meaning.specs.declared.ask.Reply.{Reply}
use Rattle.faaslet_meaning.specs.declared.ask.Reply.TheVariants as reply
use Rattle.faaslet_meaning.specs.declared.grant.Channel.{Channel}
use Rattle.faaslet_meaning.specs.declared.grant.Mode.TheVariants as mode
use Rattle.faaslet_meaning.specs.Channels.{RegionOperation, on_region, Reply as Answer, Question, ask, has_form}
use Rattle.faaslet_meaning.specs.CallState.{Invocation, State, local, global}
use Rattle.faaslet_meaning.specs.Serve.{touch_question, channel}
use Rattle.faaslet_meaning.specs.Asked.{question_at}
use Rattle.faaslet_meaning.specs.Asks.{front, reply_of, RepliesAs}
use Rattle.host_calls.specs.declared.state_act.StateAct.{StateAct}
use Rattle.host_calls.specs.declared.state_act.StateAct.TheVariants as act
use Rattle.host_calls.specs.declared.state_call.StateStage.{StateStage}
use Rattle.host_calls.specs.declared.state_call.StateStage.TheVariants as stage
use Rattle.host_calls.specs.Acts.{held_for}
use Rattle.host_calls.specs.Known.{tier_of}
use Rattle.host_calls.specs.States.{Here, AtQuestion, ActBelongs, Belongs, IsAmid, act_question}
use Rattle.host_calls.proofs.Passing.{reading_touch, writing_touch}
use Rattle.host_calls.proofs.StateReplies.{asked_at, open_question, question_of_act}

-- ---- which reply stands for an answer

pub record Fronts (n : ℕ) (scratch : List ℕ) (F : List ℕ → Answer) (answer : Answer) : Type 0 where
  pub few : n ≤ length scratch
  pub is : F (take n scratch) ≡ answer

fronts : (n : ℕ) (scratch : List ℕ) (F : List ℕ → Answer) (answer : Answer) → option_map F (front n scratch) ≡ Some answer → Fronts n scratch F answer
fronts n scratch F answer e = by (nat_le n (length scratch)) refl e
  where
    by : (b : Bool) → nat_le n (length scratch) ≡ b → option_map F (if b then Some (take n scratch) else None) ≡ Some answer → Fronts n scratch F answer
    by true t e = record { few = leb-true n (length scratch) t; is = same_Some _ answer e }
    by false t e = absurd (cc)

said_done : (r : Reply) (scratch : List ℕ) → reply_of r scratch ≡ Some Answer.done → r ≡ reply.Done
said_done reply.Done scratch e = refl
said_done (reply.Bytes n) scratch e = absurd (let f = (fronts n scratch (λ bs. Answer.bytes bs) Answer.done e).is in cc)
said_done (reply.Finished o n) scratch e = absurd (let f = (fronts n scratch (λ bs. Answer.finished o bs) Answer.done e).is in cc)
said_done _ scratch e = absurd (cc)

pub record SaidBytes (r : Reply) (len : ℕ) : Type 0 where
  pub n : ℕ
  pub is : r ≡ reply.Bytes n
  pub long : n ≡ len

-- what an answer holds
abbrev held_bytes : Answer → List ℕ
held_bytes (Answer.bytes bs) = bs
held_bytes _ = []

said_bytes : (r : Reply) (scratch bs : List ℕ) (len : ℕ) → reply_of r scratch ≡ Some (Answer.bytes bs) → length bs ≡ len → SaidBytes r len
said_bytes (reply.Bytes n) scratch bs len e l =
    let f = fronts n scratch (λ bs. Answer.bytes bs) (Answer.bytes bs) e in
    record { n = n; is = refl; long = sym (length-take-le n scratch f.few) ∙ ap (λ a. length (held_bytes a)) f.is ∙ l }
said_bytes (reply.Finished o n) scratch bs len e l = absurd (let f = (fronts n scratch (λ ys. Answer.finished o ys) (Answer.bytes bs) e).is in cc)
said_bytes _ scratch bs len e l = absurd (cc)

abbrev is_there : Bool → Answer → Bool
is_there b (Answer.present x) = x
is_there b _ = b

said_present : (r : Reply) (scratch : List ℕ) (b : Bool) → reply_of r scratch ≡ Some (Answer.present b) → r ≡ reply.Present b
said_present (reply.Present c) scratch b e = ap reply.Present (ap (is_there b) (same_Some _ _ e))
said_present (reply.Bytes n) scratch b e = absurd (let f = (fronts n scratch (λ bs. Answer.bytes bs) (Answer.present b) e).is in cc)
said_present (reply.Finished o n) scratch b e = absurd (let f = (fronts n scratch (λ bs. Answer.finished o bs) (Answer.present b) e).is in cc)
said_present _ scratch b e = absurd (cc)

pub record SaidNumber (r : Reply) : Type 0 where
  pub n : ℕ
  pub is : r ≡ reply.Number n

said_number : (r : Reply) (scratch : List ℕ) (n : ℕ) → reply_of r scratch ≡ Some (Answer.number n) → SaidNumber r
said_number (reply.Number m) scratch n e = record { n = m; is = refl }
said_number (reply.Bytes m) scratch n e = absurd (let f = (fronts m scratch (λ bs. Answer.bytes bs) (Answer.number n) e).is in cc)
said_number (reply.Finished o m) scratch n e = absurd (let f = (fronts m scratch (λ bs. Answer.finished o bs) (Answer.number n) e).is in cc)
said_number _ scratch n e = absurd (cc)

said_full : (r : Reply) (scratch : List ℕ) → reply_of r scratch ≡ Some Answer.full → r ≡ reply.Full
said_full reply.Full scratch e = refl
said_full (reply.Bytes n) scratch e = absurd (let f = (fronts n scratch (λ bs. Answer.bytes bs) Answer.full e).is in cc)
said_full (reply.Finished o n) scratch e = absurd (let f = (fronts n scratch (λ bs. Answer.finished o bs) Answer.full e).is in cc)
said_full _ scratch e = absurd (cc)

-- ---- which answer has the form of a question

pub reads_form : (ch : Channel) (off len : ℕ) (r : Reply) (scratch : List ℕ) (answer : Answer) → reply_of r scratch ≡ Some answer → has_form (ask ch (on_region (RegionOperation.read off len))) answer ≡ true → SaidBytes r len
reads_form ch off len r scratch (Answer.bytes bs) e f = said_bytes r scratch bs len e (eqb-true (length bs) len f)
reads_form ch off len r scratch _ e f = absurd (cc)

pub writes_form : (ch : Channel) (off : ℕ) (bs : List ℕ) (r : Reply) (scratch : List ℕ) (answer : Answer) → reply_of r scratch ≡ Some answer → has_form (ask ch (on_region (RegionOperation.write off bs))) answer ≡ true → r ≡ reply.Done
writes_form ch off bs r scratch Answer.done e f = said_done r scratch e
writes_form ch off bs r scratch _ e f = absurd (cc)

pub record SaidPresent (r : Reply) : Type 0 where
  pub is_so : Bool
  pub is : r ≡ reply.Present is_so

pub probes_form : (ch : Channel) (r : Reply) (scratch : List ℕ) (answer : Answer) → reply_of r scratch ≡ Some answer → has_form (ask ch (on_region RegionOperation.probe)) answer ≡ true → SaidPresent r
probes_form ch r scratch (Answer.present b) e f = record { is_so = b; is = said_present r scratch b e }
probes_form ch r scratch _ e f = absurd (cc)

sizes_form : (ch : Channel) (r : Reply) (scratch : List ℕ) (answer : Answer) → reply_of r scratch ≡ Some answer → has_form (ask ch (on_region RegionOperation.size)) answer ≡ true → SaidNumber r
sizes_form ch r scratch (Answer.number n) e f = said_number r scratch n e
sizes_form ch r scratch _ e f = absurd (cc)

append_belongs : (ch : Channel) (len : ℕ) (bs : List ℕ) (r : Reply) (scratch : List ℕ) (answer : Answer) → reply_of r scratch ≡ Some answer → has_form (ask ch (on_region (RegionOperation.append bs))) answer ≡ true → ActBelongs (act.Append len) r
append_belongs ch len bs r scratch (Answer.number n) e f = let s = said_number r scratch n e in subst (λ x. ActBelongs (act.Append len) x) (sym s.is) tt
append_belongs ch len bs r scratch Answer.full e f = subst (λ x. ActBelongs (act.Append len) x) (sym (said_full r scratch e)) tt
append_belongs ch len bs r scratch _ e f = absurd (cc)

-- an operation on locks
abbrev IsPlain : RegionOperation → Type 0
IsPlain RegionOperation.lock_read = Unit {0}
IsPlain RegionOperation.lock_write = Unit {0}
IsPlain RegionOperation.unlock = Unit {0}
IsPlain _ = ⊥

done_form : (o : RegionOperation) (ch : Channel) (r : Reply) (scratch : List ℕ) (answer : Answer) → IsPlain o → reply_of r scratch ≡ Some answer → has_form (ask ch (on_region o)) answer ≡ true → r ≡ reply.Done
done_form RegionOperation.lock_read ch r scratch Answer.done p e f = said_done r scratch e
done_form RegionOperation.lock_write ch r scratch Answer.done p e f = said_done r scratch e
done_form RegionOperation.unlock ch r scratch Answer.done p e f = said_done r scratch e
done_form RegionOperation.lock_read ch r scratch _ p e f = absurd (cc)
done_form RegionOperation.lock_write ch r scratch _ p e f = absurd (cc)
done_form RegionOperation.unlock ch r scratch _ p e f = absurd (cc)
done_form _ ch r scratch answer p e f = absurd p

-- ---- what is done with a key

same_form : (q p : Question) (r : Reply) (scratch : List ℕ) (answer : Answer) → Some q ≡ Some p → RepliesAs p r scratch answer × (has_form p answer ≡ true) → RepliesAs q r scratch answer × (has_form q answer ≡ true)
same_form q p r scratch answer e h = subst (λ x. RepliesAs x r scratch answer × (has_form x answer ≡ true)) (sym (same_Some q p e)) h

pub act_belongs : (j : Invocation) (s : State) (k : ℕ) (a : StateAct) (aside scratch : List ℕ) (q : Question) (r : Reply) (answer : Answer) → act_question j s k a aside ≡ Some q → RepliesAs q r scratch answer × (has_form q answer ≡ true) → ActBelongs a r
act_belongs j s k act.Map aside scratch q r answer e h = absurd (cc)
act_belongs j s k (act.Read off b) aside scratch q r answer e h =
    let f = same_form _ q r scratch answer e h in
    let n = reads_form (channel j local k) off b.len r scratch answer f.0 f.1 in
    subst (λ x. ActBelongs (act.Read off b) x) (sym n.is) n.long
act_belongs j s k (act.Write off len) aside scratch q r answer e h =
    let f = same_form _ q r scratch answer e h in subst (λ x. ActBelongs (act.Write off len) x) (sym (writes_form (channel j local k) off (held_for (act.Write off len) aside) r scratch answer f.0 f.1)) tt
act_belongs j s k (act.Push off len) aside scratch q r answer e h =
    let f = same_form _ q r scratch answer e h in subst (λ x. ActBelongs (act.Push off len) x) (sym f.0.is_done) tt
act_belongs j s k (act.Pull off len) aside scratch q r answer e h =
    let f = same_form _ q r scratch answer e h in subst (λ x. ActBelongs (act.Pull off len) x) (sym f.0.is_done) tt
act_belongs j s k act.Used aside scratch q r answer e h =
    let f = same_form _ q r scratch answer e h in
    let n = sizes_form (channel j global k) r scratch answer f.0 f.1 in
    subst (λ x. ActBelongs act.Used x) (sym n.is) tt
act_belongs j s k (act.Append len) aside scratch q r answer e h = let f = same_form _ q r scratch answer e h in append_belongs (channel j global k) len (held_for (act.Append len) aside) r scratch answer f.0 f.1
act_belongs j s k (act.Lock t mode.Read) aside scratch q r answer e h =
    let f = same_form _ q r scratch answer e h in subst (λ x. ActBelongs (act.Lock t mode.Read) x) (sym (done_form RegionOperation.lock_read (channel j (tier_of t) k) r scratch answer tt f.0 f.1)) tt
act_belongs j s k (act.Lock t mode.Write) aside scratch q r answer e h =
    let f = same_form _ q r scratch answer e h in subst (λ x. ActBelongs (act.Lock t mode.Write) x) (sym (done_form RegionOperation.lock_write (channel j (tier_of t) k) r scratch answer tt f.0 f.1)) tt
act_belongs j s k (act.Unlock t) aside scratch q r answer e h =
    let f = same_form _ q r scratch answer e h in subst (λ x. ActBelongs (act.Unlock t) x) (sym (done_form RegionOperation.unlock (channel j (tier_of t) k) r scratch answer tt f.0 f.1)) tt

-- ---- the whole

pub belongs : (t : StateStage) (h : Here) (j : Invocation) (s : State) (q : Question) (r : Reply) (answer : Answer) → IsAmid t h s → AtQuestion t j.program.grants h.known h.memory → question_at j s ≡ Some q → RepliesAs q r h.scratch answer → has_form q answer ≡ true → Belongs t r
belongs (stage.Gives n) h j s q r answer a at e said form = absurd at
belongs (stage.Collects k p b) h j s q r answer a at e said form =
    let touched = reading_touch h.memory b h.aside at.1.piece at.1.at in
    let f = same_form _ q r h.scratch answer (sym (ap (λ o. option_map (touch_question j) o) touched) ∙ asked_at j s _ q a.stage_is e) (said, form) in
    let n = reads_form (channel j local at.1.piece.place) at.1.piece.off at.1.piece.len r h.scratch answer f.0 f.1 in
    subst (λ x. Belongs (stage.Collects k p b) x) (sym n.is) (n.long ∙ sym at.1.at.next)
belongs (stage.Probes k x) h j s q r answer a at e said form =
    let o = open_question _ _ q (asked_at j s _ q a.stage_is e) in
    let f = same_form _ q r h.scratch answer (ap (λ y. Some y) o) (said, form) in
    let p = probes_form (channel j local k) r h.scratch answer f.0 f.1 in
    subst (λ y. Belongs (stage.Probes k x) y) (sym p.is) tt
belongs (stage.Fills k x) h j s q r answer a at e said form =
    let f = same_form _ q r h.scratch answer (asked_at j s _ q a.stage_is e) (said, form) in
    subst (λ y. Belongs (stage.Fills k x) y) (sym f.0.is_done) tt
belongs (stage.Acts k x) h j s q r answer a at e said form = act_belongs j s k x h.aside h.scratch q r answer (question_of_act j s h k x q a.stage_is e) (said, form)
belongs (stage.Sends b) h j s q r answer a at e said form =
    let touched = writing_touch h.memory b h.aside at.piece at.at in
    let f = same_form _ q r h.scratch answer (sym (ap (λ o. option_map (touch_question j) o) touched) ∙ asked_at j s _ q a.stage_is e) (said, form) in
    subst (λ x. Belongs (stage.Sends b) x) (sym (writes_form (channel j local at.piece.place) at.piece.off (take at.piece.len (drop b.done h.aside)) r h.scratch answer f.0 f.1)) tt
