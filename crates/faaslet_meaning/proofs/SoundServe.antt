-- A call over a typed configuration is never lost: neither is its machine stuck, nor does a reply of its question's form not
-- belong to what is waited for.
use Rattle.std.proofs.Common.{◌≡◌, ℕ, ◌+◌, ◌*◌, List, [], ◌∷◌, ◌++◌, length, take, refl, sym, ap, ◌∙◌, subst, None, Some, Option, Bool, true, false, cond, Result, Ok, Err}
use Rattle.std.specs.Prelude.{◌||◌, IsTrue, is_some, slice_range, nat_lt}
use Rattle.std.proofs.lemmas.Bool.{and_parts}
use Rattle.faaslet_meaning.specs.declared.outcome.Outcome.{Outcome}
use Rattle.faaslet_meaning.specs.declared.outcome.Outcome.TheVariants as outcome
use Rattle.faaslet_meaning.specs.declared.outcome.Trap.{Trap}
use Rattle.faaslet_meaning.specs.declared.outcome.Trap.TheVariants as trap
use Rattle.faaslet_meaning.specs.LoadStore.{Load}
use Rattle.faaslet_meaning.specs.Limits.{traps, value_limit}
use Rattle.faaslet_meaning.specs.Memory.{key_pages, page_size, pages_of, Access, reads, writes, Written, Touch, touch_of, reading, writing, answered}
use Rattle.faaslet_meaning.specs.HostCalls.{HostCall}
use Rattle.faaslet_meaning.specs.Configuration.{Configuration, values_held, Begun, load, store, Next, goes, ends, touches, calls, stuck}
use Rattle.faaslet_meaning.specs.MemoryRules.{load_on, store_on, resumed}
use Rattle.faaslet_meaning.specs.Step.{step, finished}
use Rattle.faaslet_meaning.specs.Channels.{Reply, Question, has_form}
use Rattle.faaslet_meaning.specs.CallState.{Invocation, Lock, Act, presence, fill, buffer_in, buffer_out, passing, local_read, local_write, push, pull, used, append, map, lock_read, lock_write, unlock, take_input, give_output, submit, await, look, gives, Work, Stage, running, touching, calling, releasing, State, Progress, runs, asks, over, lost, without_lock}
use Rattle.faaslet_meaning.specs.Checks.{checks, first_trap, key_size}
use Rattle.faaslet_meaning.specs.Operations.{operations}
use Rattle.faaslet_meaning.specs.Serve.{Served, waits, through, no_memory, misfit, Carried, question_of, does, go_on, After, next, instead, piece, fails, wants, unfit, after, came_after, reply_to, passed, kept, stands, with_memory, touch_question, channel, mapped_at}
use Rattle.faaslet_meaning.specs.Call.{locks_from, progress, reply_work, release, settled, served, serve, call_step, replied, reply_at, fits}
use Rattle.faaslet_meaning.specs.Fine.{Ground, Keeps, Waits, ConfigOk, ProgramOk, BegunOk, has_result, count, NextOk}
use Rattle.faaslet_meaning.proofs.SoundMemory.{resumed_ok}
use Rattle.faaslet_meaning.proofs.SoundSteps.{step_ok, finished_ok}
use Rattle.faaslet_meaning.proofs.Suits.{some_gives, or_true, operations_give, Fit, Suits, IsDone, IsBytes, unlock_done, touch_bytes, passing_suits, question_suits}

-- the first of what is left of a host call suits its question, and the call still gives what it has to
pub record WorkOk (j : Invocation) (g : Ground) (s : State) (w : Work) (q : Question) : Type 0 where
  pub one : Bool
  pub waits_for : Waits g s.config (count one)
  pub first : Act
  pub others : List Act
  pub acts : w.acts ≡ first ∷ others
  pub result : (some_gives w.acts || is_some w.result) ≡ one
  pub suits : Suits first q

pub record ReleasesOk (ls : List Lock) (q : Question) : Type 0 where
  pub first : Lock
  pub others : List Lock
  pub locks : ls ≡ first ∷ others
  pub done : (r : Reply) → IsTrue (has_form q r) → IsDone r

abbrev pub StageOk : Invocation → Ground → State → Stage → Question → Type 0
StageOk j g s running q = ⊥
StageOk j g s (touching b) q = BegunOk g s.config b × ((r : Reply) → IsTrue (has_form q r) → IsBytes r)
StageOk j g s (calling w) q = WorkOk j g s w q
StageOk j g s (releasing ls o) q = ReleasesOk ls q

abbrev pub ProgressOk : Invocation → Ground → Progress → Type 0
ProgressOk j g (runs s) = ConfigOk g s.config
ProgressOk j g (asks s q) = StageOk j g s s.stage q
ProgressOk j g (over s o) = Unit {0}
ProgressOk j g lost = ⊥

-- a result is there where one is awaited
abbrev ServedOk : Invocation → Ground → Served → Type 0
ServedOk j g (waits s q) = StageOk j g s s.stage q
ServedOk j g (through s r) = Keeps g s.config × ((o : Option ℕ) → r ≡ Ok o → Waits g s.config (count (is_some o)))
ServedOk j g (no_memory s) = Unit {0}
ServedOk j g misfit = ⊥

abbrev NoCall : Next → Type 0
NoCall (calls c h) = ⊥
NoCall _ = Unit {0}

load_calls : (c : Configuration) (l : Load) (a : Access) → NoCall (load_on c l a)
load_calls c l (reads at n [] copy) = tt
load_calls c l (reads at n (p ∷ ps) copy) = tt
load_calls c l (writes left bytes) = tt

store_calls : (c : Configuration) (a : Access) → NoCall (store_on c a)
store_calls c (writes [] bytes) = tt
store_calls c (writes (p ∷ ps) bytes) = tt
store_calls c (reads at n left copy) = tt

resumed_calls : (c : Configuration) (b : Begun) (bs : List ℕ) → NoCall (resumed c b bs)
resumed_calls c (load l a) bs = load_calls c l (answered c.memory a bs).access
resumed_calls c (store a) bs = store_calls (record c { memory = (answered c.memory a bs).memory }) (answered c.memory a bs).access

either_calls : (b : Bool) (x y : Next) → NoCall x → NoCall y → NoCall (cond b x y)
either_calls true x y h k = h
either_calls false x y h k = k

finished_calls : (c : Configuration) (r : Result (Option ℕ) Trap) → NoCall (finished c r)
finished_calls c (Ok None) = tt
finished_calls c (Ok (Some v)) = either_calls (nat_lt (values_held c) value_limit) _ (traps c trap.StackExhausted) (tt {0}) (tt {0})
finished_calls c (Err t) = tt

module _ (j : Invocation) (g : Ground) where
  release_ok : (s : State) (o : Outcome) (ls : List Lock) → ProgressOk j g (release j s o ls)
  release_ok s o [] = tt
  release_ok s o (l ∷ ls) = record { first = l; others = ls; locks = refl; done = unlock_done (channel j l.tier l.place) }

  touch_ok : (s : State) (b : Begun) (o : Option Touch) (t : Touch) → o ≡ Some t → BegunOk g s.config b → ProgressOk j g (elim o [ None ↦ lost | Some t ↦ asks (record s { stage = touching b }) (touch_question j t) ])
  touch_ok s b None t e h = absurd (cc)
  touch_ok s b (Some q) t e h = (h, touch_bytes j q)

  settled_ok : (s : State) (x : Next) → NextOk g x → NoCall x → ProgressOk j g (settled j s x)
  settled_ok s (goes c) h n = h
  settled_ok s (ends c o) h n = release_ok (record s { config = c; stage = running }) o (locks_from (record s { config = c; stage = running }) (length j.program.grants) 0)
  settled_ok s (touches c (load l a)) h n = touch_ok (record s { config = c }) (load l a) (touch_of a) h.1.0 h.1.1 h
  settled_ok s (touches c (store a)) h n = touch_ok (record s { config = c }) (store a) (touch_of a) h.1.0 h.1.1 h
  settled_ok s (calls c k) h n = absurd n
  settled_ok s stuck h n = absurd h

  served_ok : (x : Served) → ServedOk j g x → ProgressOk j g (served j x)
  served_ok (waits s q) h = h
  served_ok (through s r) h = settled_ok s (finished s.config r) (finished_ok g s.config r h.0 h.1) (finished_calls s.config r)
  served_ok (no_memory s) h = release_ok s outcome.Want (locks_from s (length j.program.grants) 0)
  served_ok misfit h = absurd h

  module _ (one : Bool) where
    -- what these acts still give, and the configuration that waits for it
    abbrev CarriedOk : List Act → Carried → Type 0
    CarriedOk acts x = Waits g x.state.config (count one) × ((some_gives acts || is_some x.result) ≡ one)

    abbrev GoesOk : List Act → (Carried → Served) → Type 0
    GoesOk acts go = (x : Carried) → CarriedOk acts x → ServedOk j g (go x)

    passed_ok : (acts : List Act) (go : Carried → Served) → GoesOk acts go → (x : Carried) (w : Written) → CarriedOk acts x → ServedOk j g (passed j acts go x w)
    passed_ok acts go ok x w h = by (touch_of w.access)
      where
        by : (o : Option Touch) → ServedOk j g (elim o [ None ↦ go (record (with_memory x w.memory) { held = kept x.held w.access }) | Some t ↦ stands (passing w.access ∷ acts) (with_memory x w.memory) (touch_question j t) ])
        by None = ok (record (with_memory x w.memory) { held = kept x.held w.access }) h
        by (Some t) = record { one = one; waits_for = h.0; first = passing w.access; others = acts; acts = refl; result = h.1; suits = passing_suits j w.access t }

    act_ok : (a : Act) (acts : List Act) (go : Carried → Served) → GoesOk acts go → (x : Carried) → question_of j x a ≡ None → CarriedOk (a ∷ acts) x → ServedOk j g (does j a acts go x)
    act_ok (buffer_in ptr len) acts go ok x e h = passed_ok acts go ok x (record { memory = x.state.config.memory; access = reading x.state.config.memory ptr len }) h
    act_ok (buffer_out ptr len) acts go ok x e h = passed_ok acts go ok x (writing x.state.config.memory ptr (take len x.held)) h
    act_ok (passing a) acts go ok x e h = passed_ok acts go ok x (record { memory = x.state.config.memory; access = a }) h
    act_ok (map k) acts go ok x e h = ok (mapped_at x k (key_pages (key_size j k)) (pages_of x.state.config.memory.segments * page_size)) (h.0, or_true (some_gives acts) ∙ h.1)
    act_ok (take_input off len) acts go ok x e h = ok (record x { held = slice_range j.input off (off + len) }) h
    act_ok give_output acts go ok x e h = ok (record x { state = record x.state { output = x.state.output ++ x.held } }) h
    act_ok (gives n) acts go ok x e h = ok (record x { result = Some n }) (h.0, or_true (some_gives acts) ∙ h.1)
    act_ok (used k) acts go ok x e h = absurd (cc)
    act_ok (append k) acts go ok x e h = absurd (cc)
    act_ok (submit f) acts go ok x e h = absurd (cc)
    act_ok (await c) acts go ok x e h = absurd (cc)
    act_ok _ acts go ok x e h = ok x h

    go_ok : (acts : List Act) → GoesOk acts (go_on j acts)
    go_ok [] x h = (h.0.1, λ o e. let same : x.result ≡ o = cc in subst (λ b. Waits g x.state.config (count b)) (sym h.1 ∙ ap is_some same) h.0)
    go_ok (a ∷ acts) x h = asks_or (question_of j x a) refl (λ e. act_ok a acts (go_on j acts) (go_ok acts) x e h)
      where
        asks_or : (o : Option Question) → question_of j x a ≡ o → (question_of j x a ≡ None → ServedOk j g (does j a acts (go_on j acts) x)) → ServedOk j g (elim o [ Some q ↦ stands (a ∷ acts) x q | None ↦ does j a acts (go_on j acts) x ])
        asks_or None e k = k e
        asks_or (Some q) e k = record { one = one; waits_for = h.0; first = a; others = acts; acts = refl; result = h.1; suits = question_suits j x a q e }

    -- what comes after a reply still gives what the call has to
    abbrev AfterOk : List Act → Carried → After → Type 0
    AfterOk acts x (next y) = CarriedOk acts y
    AfterOk acts x (instead b) = CarriedOk (b ∷ acts) x
    AfterOk acts x (piece w) = CarriedOk acts x
    AfterOk acts x (fails t) = Keeps g x.state.config
    AfterOk acts x wants = Unit {0}
    AfterOk acts x unfit = ⊥

    came_ok : (acts : List Act) (x : Carried) (a : After) → AfterOk acts x a → ServedOk j g (came_after j acts x a)
    came_ok acts x (next y) k = go_ok acts y k
    came_ok acts x (instead b) k = go_ok (b ∷ acts) x k
    came_ok acts x (piece w) k = passed_ok acts (go_on j acts) (go_ok acts) x w k
    came_ok acts x (fails t) k = (k, λ o e. absurd (cc))
    came_ok acts x wants k = tt
    came_ok acts x unfit k = absurd k

    after_ok : (a : Act) (acts : List Act) (x : Carried) (r : Reply) → CarriedOk (a ∷ acts) x → Fit (after a x r) → AfterOk acts x (after a x r)
    after_ok (presence k) acts x (Reply.present true) h f = h
    after_ok (presence k) acts x (Reply.present false) h f = h
    after_ok (fill k) acts x (Reply.bytes bs) h f = h
    after_ok (passing a) acts x (Reply.bytes bs) h f = h
    after_ok (passing a) acts x Reply.done h f = h
    after_ok (local_read k off len) acts x (Reply.bytes bs) h f = h
    after_ok (local_write k off) acts x Reply.done h f = h
    after_ok (push k off len) acts x (Reply.bytes bs) h f = h
    after_ok (pull k off len) acts x (Reply.bytes bs) h f = h
    after_ok (used k) acts x (Reply.number n) h f = (h.0, or_true (some_gives acts) ∙ h.1)
    after_ok (append k) acts x (Reply.number n) h f = (h.0, or_true (some_gives acts) ∙ h.1)
    after_ok (append k) acts x Reply.full h f = h.0.1
    after_ok (lock_read t k) acts x Reply.done h f = h
    after_ok (lock_write t k) acts x Reply.done h f = h
    after_ok (unlock t k) acts x Reply.done h f = h
    after_ok (submit n) acts x (Reply.child c) h f = (h.0, or_true (some_gives acts) ∙ h.1)
    after_ok (submit n) acts x Reply.chain_full h f = h.0.1
    after_ok (submit n) acts x Reply.want h f = tt
    after_ok (await c) acts x (Reply.finished o bs) h f = (h.0, or_true (some_gives acts) ∙ h.1)
    after_ok (look c off len) acts x (Reply.finished o bs) h f = h
    after_ok _ acts x r h f = absurd f

  serve_ok : (s : State) (h : HostCall) → Waits g s.config (count (has_result h)) → ProgressOk j g (serve j s h)
  serve_ok s h w = by (first_trap j s (checks h))
    where
      by : (o : Option Trap) → ProgressOk j g (elim o [ Some t ↦ served j (through s (Err t)) | None ↦ served j (go_on j (operations j s h) (record { held = []; result = None; state = s })) ])
      by (Some t) = served_ok (through s (Err t)) (w.1, λ o e. absurd (cc))
      by None = served_ok (go_on j (operations j s h) (record { held = []; result = None; state = s })) (go_ok (has_result h) (operations j s h) (record { held = []; result = None; state = s }) (w, operations_give j s h))

  turn_ok : (s : State) (x : Next) → NextOk g x → ProgressOk j g (progress j s x)
  turn_ok s (goes c) h = h
  turn_ok s (ends c o) h = settled_ok s (ends c o) h tt
  turn_ok s (touches c b) h = settled_ok s (touches c b) h tt
  turn_ok s (calls c k) h = serve_ok (record s { config = c }) k h
  turn_ok s stuck h = absurd h

  work_ok : (s : State) (acts : List Act) (held : List ℕ) (result : Option ℕ) (q : Question) (r : Reply) → WorkOk j g s (record { acts = acts; held = held; result = result }) q → IsTrue (has_form q r) → ProgressOk j g (reply_work j s (record { acts = acts; held = held; result = result }) r)
  work_ok s [] held result q r o f = let none = o.acts in absurd (cc)
  work_ok s (a ∷ acts) held result q r o f =
      let x : Carried = record { held = held; result = result; state = s } in
      let joined = o.acts in
      let same : o.first ≡ a = cc in
      let fit : Fit (after a x r) = subst (λ (b : Act). Fit (after b x r)) same (o.suits x r f) in
      served_ok (reply_to j a acts x r) (came_ok o.one acts x (after a x r) (after_ok o.one a acts x r (o.waits_for, o.result) fit))

  touched_ok : (s : State) (b : Begun) (r : Reply) → BegunOk g s.config b → IsBytes r → ProgressOk j g (reply_at j s (touching b) r)
  touched_ok s b (Reply.bytes bs) h k = settled_ok s (resumed s.config b bs) (resumed_ok g s.config b bs h) (resumed_calls s.config b bs)
  touched_ok s b Reply.done h k = settled_ok s (resumed s.config b []) (resumed_ok g s.config b [] h) (resumed_calls s.config b [])
  touched_ok s b _ h k = absurd k

  released_ok : (s : State) (ls : List Lock) (o : Outcome) (q : Question) (r : Reply) → ReleasesOk ls q → IsDone r → ProgressOk j g (reply_at j s (releasing ls o) r)
  released_ok s [] o q Reply.done h k = let none = h.locks in absurd (cc)
  released_ok s (l ∷ ls) o q Reply.done h k = release_ok (without_lock s l) o ls
  released_ok s ls o q _ h k = absurd k

  stage_ok : (s : State) (st : Stage) (q : Question) (r : Reply) → StageOk j g s st q → IsTrue (has_form q r) → ProgressOk j g (reply_at j s st r)
  stage_ok s running q r h f = absurd h
  stage_ok s (touching b) q r h f = touched_ok s b r h.0 (h.1 r f)
  stage_ok s (calling w) q r h f = work_ok s w.acts w.held w.result q r h f
  stage_ok s (releasing ls o) q r h f = released_ok s ls o q r h (h.done r f)

  pub replied_ok : (s : State) (q : Question) (r : Reply) → ProgressOk j g (asks s q) → IsTrue (fits s q r) → ProgressOk j g (replied j s r)
  replied_ok s q r h f = stage_ok s s.stage q r h (and_parts _ _ f).0

  pub call_ok : ProgramOk j.program g → (s : State) → ConfigOk g s.config → ProgressOk j g (call_step j s)
  call_ok ok s h = turn_ok s (step j.program s.config) (step_ok g j.program ok s.config h)
