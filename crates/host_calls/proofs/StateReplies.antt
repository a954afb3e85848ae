-- A host call on state goes on after a reply.
use Rattle.std.proofs.Common.{◌≡◌, ℕ, ◌+◌, ◌<◌, ◌≤◌, Bool, true, false, List, [], ◌∷◌, Option, Some, None, length, take, refl, ap, arith, ◌∙◌, sym, subst}
use Rattle.std.specs.Prelude.{Ok, Err, if◌then◌else◌, option_map}
use Rattle.std.proofs.lemmas.List.{length-take-le}
use Rattle.std.proofs.lemmas.Option.{same_Some}
use Rattle.faaslet_meaning.specs.declared.ask.Reply.{Reply}
use Rattle.faaslet_meaning.specs.declared.ask.Reply.TheVariants as reply
use Rattle.faaslet_meaning.specs.declared.grant.Grant.{Grant}
use Rattle.faaslet_meaning.specs.declared.grant.Mode.{Mode}
use Rattle.faaslet_meaning.specs.declared.grant.Mode.TheVariants as mode
use Rattle.faaslet_meaning.specs.declared.outcome.Trap.{Trap}
use Rattle.faaslet_meaning.specs.declared.outcome.Trap.TheVariants.{AppendFull}
use Rattle.faaslet_meaning.specs.Memory.{Memory, IsMemory, over, grant_limit, reading, writing, touch_of, answered}
use Rattle.faaslet_meaning.specs.HostCalls.{HostCall}
use Rattle.faaslet_meaning.specs.Channels.{Reply as Answer, Question}
use Rattle.faaslet_meaning.specs.CallState.{Invocation, State, Stage, calling, without_lock}
use Rattle.faaslet_meaning.specs.Checks.{lock_limit}
use Rattle.faaslet_meaning.specs.Serve.{Served, through, go_on, passed, touch_question, reply_to}
use Rattle.faaslet_meaning.specs.Call.{served, serve, replied, reply_at}
use Rattle.faaslet_meaning.specs.Asked.{question_at, question_in}
use Rattle.faaslet_meaning.specs.Asks.{reply_of, RepliesAs, IsMoved}
use Rattle.host_calls.specs.declared.span.Span.{Span}
use Rattle.host_calls.specs.declared.state_act.Put.{Put}
use Rattle.host_calls.specs.declared.state_act.StateAct.{StateAct}
use Rattle.host_calls.specs.declared.state_act.StateAct.TheVariants as act
use Rattle.host_calls.specs.declared.state_call.StateStage.{StateStage}
use Rattle.host_calls.specs.declared.state_call.StateStage.TheVariants as stage
use Rattle.host_calls.specs.declared.state_known.Known.{Known}
use Rattle.host_calls.specs.declared.state_known.Tier.{Tier}
use Rattle.host_calls.specs.Acts.{whole_acts, held_for, act_put, lock_act}
use Rattle.host_calls.specs.Buffers.{IsWithin, reading_on, writing_on}
use Rattle.host_calls.specs.Calls.{IsFreshSpan, AtPiece}
use Rattle.host_calls.specs.Known.{kept, is_held, lock_of, locked_at, unlocked_at}
use Rattle.host_calls.specs.States.{Here, IsOf, work_of, IsAct, AtQuestion, Belongs, ActBelongs, IsAmid, IsBegun, IsFreshAct, EndsIt, acts_at, trap_at, holding, act_question, acted, goes, sends, collecting, sees, probed}
use Rattle.host_calls.proofs.Buffers.{reading_reply, writing_reply}
use Rattle.host_calls.proofs.CallSteps.{front_is}
use Rattle.host_calls.proofs.Keeping.{held_is, keeps_locked, keeps_unlocked}
use Rattle.host_calls.proofs.Lists.{length_over}
use Rattle.host_calls.proofs.Loops.{brought}
use Rattle.host_calls.proofs.CallReplies.{piece_room}
use Rattle.host_calls.proofs.Passing.{reading_first, writing_first, reading_touch, writing_touch}
use Rattle.host_calls.proofs.StateSteps.{is_now, serve_goes, serve_traps}
use Rattle.host_calls.proofs.StateMachines.{fresh_empty}

-- ---- what a reply stands for

same_question : (q p : Question) (r : Reply) (scratch : List ℕ) (answer : Answer) → Some q ≡ Some p → RepliesAs p r scratch answer → RepliesAs q r scratch answer
same_question q p r scratch answer e h = subst (λ x. RepliesAs x r scratch answer) (sym (same_Some q p e)) h

pub bytes_are : (n : ℕ) (scratch : List ℕ) (answer : Answer) → n ≤ length scratch → reply_of (reply.Bytes n) scratch ≡ Some answer → Answer.bytes (take n scratch) ≡ answer
bytes_are n scratch answer few e = same_Some _ answer (sym (ap (λ o. option_map (λ content. Answer.bytes content) o) (front_is n scratch few)) ∙ e)

-- ---- the reply to what is done with a key

-- bytes of the replica that go to a buffer
pub read_acted : (j : Invocation) (s : State) (h : Here) (k off n : ℕ) (b : Span) (q : Question) (answer : Answer) → IsOf h s → act_question j s k (act.Read off b) h.aside ≡ Some q → RepliesAs q (reply.Bytes n) h.scratch answer → n ≡ b.len → IsFreshSpan b → length h.scratch ≡ 65536 → length h.aside ≡ 65536 → acted j s h k (act.Read off b) answer ≡ sends j s (record h { aside = over h.aside 0 (take n h.scratch) }) b
read_acted j s h k off n b q answer i e r ne fresh ls la =
    let bs = take n h.scratch in
    let aside = over h.aside 0 bs in
    let few : n ≤ length h.scratch = omega (arith, fresh.short) in
    let said : reply_of (reply.Bytes n) h.scratch ≡ Some answer = same_question _ q (reply.Bytes n) h.scratch answer e r in
    let long : length bs ≡ n = length-take-le n h.scratch few in
    let held : bs ≡ take b.len aside = sym (brought h.aside bs n long) ∙ ap (λ i. take i aside) ne in
    let short : b.len ≤ length aside = omega (arith, fresh.short, length_over h.aside 0 bs (omega (arith, long))) in
    let Out : Memory → List ℕ → Served = λ m ys. passed j [] (go_on j []) (holding ys s) (writing m b.ptr (take b.len ys)) in
    ap (λ (x : Answer). acted j s h k (act.Read off b) x) (sym (bytes_are n h.scratch answer few said))
    ∙ ap (λ m. Out m bs) i.memory ∙ ap (Out h.memory) held
    ∙ ap (λ y. passed j [] (go_on j []) (holding (take b.len aside) s) y) (writing_first h.memory b aside (take b.len aside) fresh.none short refl)

-- it is through with this result, and knows what it knew
ends_as : (s : State) (h : Here) (v : Served) (o : Option ℕ) → IsOf h s → v ≡ through s (Ok o) → EndsIt s v (Ok o) h
ends_as s h v o i e = record { state = s; comes = e; now = is_now s h i }

number_is : (n : ℕ) (scratch : List ℕ) (answer : Answer) → reply_of (reply.Number n) scratch ≡ Some answer → Answer.number n ≡ answer
number_is n scratch answer e = same_Some _ answer e

done_is : (scratch : List ℕ) (answer : Answer) → reply_of reply.Done scratch ≡ Some answer → Answer.done ≡ answer
done_is scratch answer e = same_Some _ answer e

pub used_acted : (j : Invocation) (s : State) (h : Here) (k n : ℕ) (q : Question) (answer : Answer) → IsOf h s → act_question j s k act.Used h.aside ≡ Some q → RepliesAs q (reply.Number n) h.scratch answer → EndsIt s (acted j s h k act.Used answer) (Ok (Some n)) h
used_acted j s h k n q answer i e r =
    let said : reply_of (reply.Number n) h.scratch ≡ Some answer = same_question _ q (reply.Number n) h.scratch answer e r in
    ends_as s h _ (Some n) i (ap (λ (x : Answer). acted j s h k act.Used x) (sym (number_is n h.scratch answer said)))

pub append_acted : (j : Invocation) (s : State) (h : Here) (k len n : ℕ) (q : Question) (answer : Answer) → IsOf h s → act_question j s k (act.Append len) h.aside ≡ Some q → RepliesAs q (reply.Number n) h.scratch answer → EndsIt s (acted j s h k (act.Append len) answer) (Ok (Some n)) h
append_acted j s h k len n q answer i e r =
    let said : reply_of (reply.Number n) h.scratch ≡ Some answer = same_question _ q (reply.Number n) h.scratch answer e r in
    ends_as s h _ (Some n) i (ap (λ (x : Answer). acted j s h k (act.Append len) x) (sym (number_is n h.scratch answer said)))

pub full_acted : (j : Invocation) (s : State) (h : Here) (k len : ℕ) (q : Question) (answer : Answer) → IsOf h s → act_question j s k (act.Append len) h.aside ≡ Some q → RepliesAs q reply.Full h.scratch answer → EndsIt s (acted j s h k (act.Append len) answer) (Err AppendFull) h
full_acted j s h k len q answer i e r =
    let said : reply_of reply.Full h.scratch ≡ Some answer = same_question _ q reply.Full h.scratch answer e r in
    record {
      state = s;
      comes = ap (λ (x : Answer). acted j s h k (act.Append len) x) (sym (same_Some Answer.full answer said));
      now = is_now s h i;
    }

-- bytes that went to the replica, and moves
pub data IsGiven : StateAct → Type 0 where
  write : (off len : ℕ) → IsGiven (act.Write off len)
  push : (off len : ℕ) → IsGiven (act.Push off len)
  pull : (off len : ℕ) → IsGiven (act.Pull off len)

pub given_acted : (j : Invocation) (s : State) (h : Here) (k : ℕ) (a : StateAct) (q : Question) (answer : Answer) → IsGiven a → IsOf h s → act_question j s k a h.aside ≡ Some q → RepliesAs q reply.Done h.scratch answer → EndsIt s (acted j s h k a answer) (Ok None) h
given_acted j s h k (act.Write off len) q answer g i e r =
    let said : reply_of reply.Done h.scratch ≡ Some answer = same_question _ q reply.Done h.scratch answer e r in
    ends_as s h _ None i (ap (λ (x : Answer). acted j s h k (act.Write off len) x) (sym (done_is h.scratch answer said)))
given_acted j s h k (act.Push off len) q answer g i e r =
    let said : IsMoved reply.Done len answer = same_question _ q reply.Done h.scratch answer e r in
    ends_as s h _ None i (ap (λ (x : Answer). acted j s h k (act.Push off len) x) said.is_answer)
given_acted j s h k (act.Pull off len) q answer g i e r =
    let said : IsMoved reply.Done len answer = same_question _ q reply.Done h.scratch answer e r in
    ends_as s h _ None i (ap (λ (x : Answer). acted j s h k (act.Pull off len) x) said.is_answer)
given_acted j s h k act.Map q answer g i e r = absurd (elim g [ ])
given_acted j s h k (act.Read off b) q answer g i e r = absurd (elim g [ ])
given_acted j s h k act.Used q answer g i e r = absurd (elim g [ ])
given_acted j s h k (act.Append len) q answer g i e r = absurd (elim g [ ])
given_acted j s h k (act.Lock t m) q answer g i e r = absurd (elim g [ ])
given_acted j s h k (act.Unlock t) q answer g i e r = absurd (elim g [ ])

-- locks
lock_through : (j : Invocation) (s : State) (h : Here) (k : ℕ) (t : Tier) (m : Mode) → reply_to j (lock_act m t k) [] (holding (held_for (act.Lock t m) h.aside) s) Answer.done ≡ through (record s { locks = lock_of t k ∷ s.locks }) (Ok None)
lock_through j s h k t mode.Read = refl
lock_through j s h k t mode.Write = refl

lock_said : (j : Invocation) (s : State) (k : ℕ) (t : Tier) (m : Mode) (aside scratch : List ℕ) (q : Question) (answer : Answer) → act_question j s k (act.Lock t m) aside ≡ Some q → RepliesAs q reply.Done scratch answer → reply_of reply.Done scratch ≡ Some answer
lock_said j s k t mode.Read aside scratch q answer e r = same_question _ q reply.Done scratch answer e r
lock_said j s k t mode.Write aside scratch q answer e r = same_question _ q reply.Done scratch answer e r

pub lock_acted : (j : Invocation) (s : State) (h : Here) (k : ℕ) (t : Tier) (m : Mode) (q : Question) (answer : Answer) → k < grant_limit → is_held (kept h.known k) t ≡ false → IsOf h s → act_question j s k (act.Lock t m) h.aside ≡ Some q → RepliesAs q reply.Done h.scratch answer → EndsIt s (acted j s h k (act.Lock t m) answer) (Ok None) (record h { known = locked_at h.known k t })
lock_acted j s h k t m q answer few free i e r =
    record {
      state = record s { locks = lock_of t k ∷ s.locks };
      comes = ap (λ (x : Answer). acted j s h k (act.Lock t m) x) (sym (done_is h.scratch answer (lock_said j s k t m h.aside h.scratch q answer e r))) ∙ lock_through j s h k t m;
      now = record {
        only = ap (λ (x : Memory). record s { config = record s.config { memory = x }; locks = lock_of t k ∷ s.locks }) i.memory;
        keeps = keeps_locked h.known s.present s.mapped s.locks t k few free i.keeps;
      };
    }

pub unlock_acted : (j : Invocation) (s : State) (h : Here) (k : ℕ) (t : Tier) (q : Question) (answer : Answer) → k < grant_limit → is_held (kept h.known k) t ≡ true → IsOf h s → act_question j s k (act.Unlock t) h.aside ≡ Some q → RepliesAs q reply.Done h.scratch answer → EndsIt s (acted j s h k (act.Unlock t) answer) (Ok None) (record h { known = unlocked_at h.known k t })
unlock_acted j s h k t q answer few held i e r =
    let said : reply_of reply.Done h.scratch ≡ Some answer = same_question _ q reply.Done h.scratch answer e r in
    let found = sym (ap (λ p. is_held p t) (i.keeps.places k few) ∙ held_is s.present s.mapped s.locks t k) ∙ held in
    let less : State = without_lock s (lock_of t k) in
    record {
      state = less;
      comes = ap (λ (x : Answer). acted j s h k (act.Unlock t) x) (sym (done_is h.scratch answer said));
      now = record {
        only = ap (λ (x : Memory). record s { config = record s.config { memory = x }; locks = less.locks }) i.memory;
        keeps = keeps_unlocked h.known s.present s.mapped s.locks t k few found i.keeps;
      };
    }

-- ---- what is known where it is done

pub act_read : (a : StateAct) (off : ℕ) (b : Span) (k : ℕ) (grants : List Grant) (known : Known) (m : Memory) → IsAct a k grants known m → a ≡ act.Read off b → IsFreshSpan b × IsWithin m b
act_read a off b k grants known m h e = (subst (λ x. IsAct x k grants known m) e h).ready

pub read_belongs : (a : StateAct) (r : Reply) (off : ℕ) (b : Span) (n : ℕ) → ActBelongs a r → a ≡ act.Read off b → r ≡ reply.Bytes n → n ≡ b.len
read_belongs a r off b n h e f = subst (λ y. ActBelongs (act.Read off b) y) f (subst (λ x. ActBelongs x r) e h)

pub act_lock : (a : StateAct) (t : Tier) (o : Mode) (k : ℕ) (grants : List Grant) (known : Known) (m : Memory) → IsAct a k grants known m → a ≡ act.Lock t o → (is_held (kept known k) t ≡ false) × (known.locks < lock_limit)
act_lock a t o k grants known m h e = (subst (λ x. IsAct x k grants known m) e h).ready

pub act_unlock : (a : StateAct) (t : Tier) (k : ℕ) (grants : List Grant) (known : Known) (m : Memory) → IsAct a k grants known m → a ≡ act.Unlock t → is_held (kept known k) t ≡ true
act_unlock a t k grants known m h e = (subst (λ x. IsAct x k grants known m) e h).ready

-- ---- where a call stands

pub amid : (t x : StateStage) (h : Here) (s : State) → IsAmid t h s → t ≡ x → s.stage ≡ calling (work_of x h)
amid t x h s a e = a.stage_is ∙ ap (λ y. calling (work_of y h)) e

-- the question there, and what a reply comes to
pub replied_at : (j : Invocation) (s : State) (x : Stage) (answer : Answer) → s.stage ≡ x → replied j s answer ≡ reply_at j s x answer
replied_at j s x answer e = ap (λ y. reply_at j s y answer) e

pub asked_at : (j : Invocation) (s : State) (x : Stage) (q : Question) → s.stage ≡ x → question_at j s ≡ Some q → question_in j s x ≡ Some q
asked_at j s x q e h = sym (ap (λ y. question_in j s y) e) ∙ h

pub at_stage : (t x : StateStage) (grants : List Grant) (known : Known) (m : Memory) → AtQuestion t grants known m → t ≡ x → AtQuestion x grants known m
at_stage t x grants known m h e = subst (λ y. AtQuestion y grants known m) e h

pub belongs_at : (t x : StateStage) (r y : Reply) → Belongs t r → t ≡ x → r ≡ y → Belongs x y
belongs_at t x r y h e f = subst (λ z. Belongs x z) f (subst (λ z. Belongs z r) e h)

-- ---- presence

pub open_question : (b : Bool) (q p : Question) → (if b then None else Some q) ≡ Some p → q ≡ p
open_question true q p e = absurd (cc)
open_question false q p e = same_Some q p e

pub present_replied : (j : Invocation) (s : State) (h : Here) (k : ℕ) (a : StateAct) (is_so : Bool) (q : Question) (answer : Answer) → s.stage ≡ calling (work_of (stage.Probes k a) h) → question_at j s ≡ Some q → RepliesAs q (reply.Present is_so) h.scratch answer → Answer.present is_so ≡ answer
present_replied j s h k a is_so q answer e qe r =
    let o = open_question _ _ q (asked_at j s _ q e qe) in
    let said : reply_of (reply.Present is_so) h.scratch ≡ Some answer = subst (λ x. RepliesAs x (reply.Present is_so) h.scratch answer) (sym o) r in
    same_Some _ answer said

pub probe_replied : (j : Invocation) (s : State) (h : Here) (k : ℕ) (a : StateAct) (is_so : Bool) (q : Question) (answer : Answer) → s.stage ≡ calling (work_of (stage.Probes k a) h) → question_at j s ≡ Some q → RepliesAs q (reply.Present is_so) h.scratch answer → replied j s answer ≡ served j (probed j s h k a is_so)
probe_replied j s h k a is_so q answer e qe r = ap (replied j s) (sym (present_replied j s h k a is_so q answer e qe r)) ∙ by is_so
  where
    by : (b : Bool) → replied j s (Answer.present b) ≡ served j (probed j s h k a b)
    by true = replied_at j s _ (Answer.present true) e
    by false = replied_at j s _ (Answer.present false) e

pub fill_seen : (j : Invocation) (s : State) (h : Here) (k : ℕ) (a : StateAct) (q : Question) (answer : Answer) → s.stage ≡ calling (work_of (stage.Fills k a) h) → question_at j s ≡ Some q → RepliesAs q reply.Done h.scratch answer → replied j s answer ≡ served j (sees j s h k a)
fill_seen j s h k a q answer e qe r =
    let moved = same_question _ q reply.Done h.scratch answer (asked_at j s _ q e qe) r in
    ap (replied j s) moved.is_answer ∙ replied_at j s _ (Answer.bytes moved.moved) e

-- ---- what is done with a key

-- the question of its first act
pub question_of_act : (j : Invocation) (s : State) (h : Here) (k : ℕ) (a : StateAct) (q : Question) → s.stage ≡ calling (work_of (stage.Acts k a) h) → question_at j s ≡ Some q → act_question j s k a h.aside ≡ Some q
question_of_act j s h k a q e qe = by a (asked_at j s _ q e qe)
  where
    by : (a : StateAct) → question_in j s (calling (work_of (stage.Acts k a) h)) ≡ Some q → act_question j s k a h.aside ≡ Some q
    by act.Map f = f
    by (act.Read off b) f = f
    by (act.Write off len) f = f
    by (act.Push off len) f = f
    by (act.Pull off len) f = f
    by act.Used f = f
    by (act.Append len) f = f
    by (act.Lock t mode.Read) f = f
    by (act.Lock t mode.Write) f = f
    by (act.Unlock t) f = f

pub act_replied : (j : Invocation) (s : State) (h : Here) (k : ℕ) (a : StateAct) (answer : Answer) → s.stage ≡ calling (work_of (stage.Acts k a) h) → replied j s answer ≡ served j (acted j s h k a answer)
act_replied j s h k a answer e = by a (replied_at j s _ answer e)
  where
    by : (a : StateAct) → replied j s answer ≡ reply_at j s (calling (work_of (stage.Acts k a) h)) answer → replied j s answer ≡ served j (acted j s h k a answer)
    by act.Map f = f
    by (act.Read off b) f = f
    by (act.Write off len) f = f
    by (act.Push off len) f = f
    by (act.Pull off len) f = f
    by act.Used f = f
    by (act.Append len) f = f
    by (act.Lock t m) f = f
    by (act.Unlock t) f = f

-- ---- buffers

-- the question of a shared piece that is read
read_said : (j : Invocation) (m : Memory) (b : Span) (aside scratch : List ℕ) (n : ℕ) (p : AtPiece m b) (q : Question) (answer : Answer) → option_map (touch_question j) (touch_of (reading_on m b aside)) ≡ Some q → RepliesAs q (reply.Bytes n) scratch answer → reply_of (reply.Bytes n) scratch ≡ Some answer
read_said j m b aside scratch n p q answer e r =
    let o = sym (ap (λ t. option_map (touch_question j) t) (reading_touch m b aside p.piece p.at)) ∙ e in
    same_question _ q (reply.Bytes n) scratch answer o r

write_said : (j : Invocation) (m : Memory) (b : Span) (aside scratch : List ℕ) (p : AtPiece m b) (q : Question) (answer : Answer) → option_map (touch_question j) (touch_of (writing_on m b aside)) ≡ Some q → RepliesAs q reply.Done scratch answer → reply_of reply.Done scratch ≡ Some answer
write_said j m b aside scratch p q answer e r =
    let o = sym (ap (λ t. option_map (touch_question j) t) (writing_touch m b aside p.piece p.at)) ∙ e in
    same_question _ q reply.Done scratch answer o r

pub collects_replied : (j : Invocation) (s : State) (h : Here) (k : ℕ) (p : Put) (b c : Span) (n : ℕ) (q : Question) (answer : Answer) → s.stage ≡ calling (work_of (stage.Collects k p b) h) → question_at j s ≡ Some q → RepliesAs q (reply.Bytes n) h.scratch answer → n ≡ b.next → c ≡ record b { done = b.done + b.next } → AtPiece h.memory b → IsMemory h.memory → length h.aside ≡ 65536 → length h.scratch ≡ 65536 → IsOf h s → replied j s answer ≡ served j (collecting j s (record h { aside = over h.aside b.done (take n h.scratch) }) k p c)
collects_replied j s h k p b c n q answer e qe r ne ce at sound la ls i =
    let bs = take n h.scratch in
    let few : n ≤ length h.scratch = omega (arith, piece_room h.memory b at) in
    let long : length bs ≡ b.next = length-take-le n h.scratch few ∙ ne in
    let said = read_said j h.memory b h.aside h.scratch n at q answer (asked_at j s _ q e qe) r in
    let acts = whole_acts k (act_put p b.len) in
    ap (replied j s) (sym (bytes_are n h.scratch answer few said)) ∙ replied_at j s _ (Answer.bytes bs) e
    ∙ ap (λ m. served j (passed j acts (go_on j acts) (holding [] s) (answered m (reading_on h.memory b h.aside) bs))) i.memory
    ∙ ap (λ w. served j (passed j acts (go_on j acts) (holding [] s) w)) (reading_reply h.memory b h.aside bs at.piece at.within sound la at.at long)
    ∙ ap (λ y. served j (collecting j s (record h { aside = over h.aside b.done bs }) k p y)) (sym ce)

pub sends_replied : (j : Invocation) (s : State) (h : Here) (b c : Span) (q : Question) (answer : Answer) → s.stage ≡ calling (work_of (stage.Sends b) h) → question_at j s ≡ Some q → RepliesAs q reply.Done h.scratch answer → c ≡ record b { done = b.done + b.next } → AtPiece h.memory b → IsOf h s → replied j s answer ≡ served j (sends j s h c)
sends_replied j s h b c q answer e qe r ce at i =
    let said = write_said j h.memory b h.aside h.scratch at q answer (asked_at j s _ q e qe) r in
    let x = holding (take b.len h.aside) s in
    ap (replied j s) (sym (done_is h.scratch answer said)) ∙ replied_at j s _ Answer.done e
    ∙ ap (λ m. served j (passed j [] (go_on j []) x (answered m (writing_on h.memory b h.aside) []))) i.memory
    ∙ ap (λ w. served j (passed j [] (go_on j []) x w)) (writing_reply h.memory b h.aside [] at.piece at.at)
    ∙ ap (λ y. served j (sends j s h y)) (sym ce)

-- ---- the first step

pub first_goes : (t x : StateStage) (j : Invocation) (s : State) (k : HostCall) (m : Memory) (grants : List Grant) (o : Option Trap) → IsBegun t j s k → s.config.memory ≡ m → j.program.grants ≡ grants → t ≡ x → o ≡ trap_at t grants m → o ≡ None → serve j s k ≡ served j (go_on j (acts_at x) (holding [] s))
first_goes t x j s k m grants o b i g e to on =
    serve_goes t j s k b (ap (λ gs. trap_at t gs s.config.memory) g ∙ ap (λ m. trap_at t grants m) i ∙ sym to ∙ on)
    ∙ ap (λ y. served j (go_on j (acts_at y) (holding [] s))) e

pub first_traps : (t : StateStage) (j : Invocation) (s : State) (k : HostCall) (m : Memory) (grants : List Grant) (o : Option Trap) (x : Trap) → IsBegun t j s k → s.config.memory ≡ m → j.program.grants ≡ grants → o ≡ trap_at t grants m → o ≡ Some x → serve j s k ≡ served j (through s (Err x))
first_traps t j s k m grants o x b i g to on = serve_traps t j s k x b (ap (λ gs. trap_at t gs s.config.memory) g ∙ ap (λ m. trap_at t grants m) i ∙ sym to ∙ on)

pub collects_first : (j : Invocation) (s : State) (h : Here) (k : ℕ) (p : Put) (b : Span) → IsOf h s → b.done ≡ 0 → go_on j (acts_at (stage.Collects k p b)) (holding [] s) ≡ collecting j s h k p b
collects_first j s h k p b i none =
    let acts = whole_acts k (act_put p b.len) in
    ap (λ (m : Memory). passed j acts (go_on j acts) (holding [] s) (record { memory = m; access = reading m b.ptr b.len })) i.memory
    ∙ ap (λ y. passed j acts (go_on j acts) (holding [] s) (record { memory = h.memory; access = y })) (sym (reading_first h.memory b h.aside none))

pub acts_first : (j : Invocation) (s : State) (h : Here) (k : ℕ) (a : StateAct) (known : Known) → IsFreshAct a k known → go_on j (acts_at (stage.Acts k a)) (holding [] s) ≡ goes j s h (whole_acts k a) a
acts_first j s h k a known f = ap (λ (ys : List ℕ). go_on j (whole_acts k a) (holding ys s)) (sym (fresh_empty a k known h.aside f))
