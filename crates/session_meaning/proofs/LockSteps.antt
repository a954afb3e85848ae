-- What a call's locks are after a reply: nothing but a reply to a lock question changes them.
use Rattle.std.proofs.Common.{◌≡◌, ℕ, List, [], ◌∷◌, length, refl, subst, Option, Some, None, Bool, true, false, cond, not, Err}
use Rattle.std.specs.Prelude.{filter, option_map}
use Rattle.faaslet_meaning.specs.declared.grant.Channel.{Channel}
use Rattle.faaslet_meaning.specs.declared.outcome.Outcome.{Outcome}
use Rattle.faaslet_meaning.specs.declared.outcome.Outcome.TheVariants as outcome
use Rattle.faaslet_meaning.specs.declared.outcome.Trap.{Trap}
use Rattle.faaslet_meaning.specs.Memory.{Written, Touch, reads_piece, writes_piece, touch_of, reading}
use Rattle.faaslet_meaning.specs.HostCalls.{HostCall}
use Rattle.faaslet_meaning.specs.Configuration.{Next, goes, ends, touches, calls, stuck}
use Rattle.faaslet_meaning.specs.MemoryRules.{resumed}
use Rattle.faaslet_meaning.specs.Step.{step, finished}
use Rattle.faaslet_meaning.specs.Channels.{RegionOperation, on_region, Reply, Question, ask}
use Rattle.faaslet_meaning.specs.CallState.{Invocation, local, Lock, Act, presence, fill, buffer_in, buffer_out, passing, local_read, local_write, push, pull, used, append, map, lock_read, lock_write, unlock, take_input, give_output, submit, await, look, gives, Work, Stage, running, touching, calling, releasing, State, Progress, runs, asks, over, lost, is_lock, without_lock}
use Rattle.faaslet_meaning.specs.Checks.{checks, first_trap}
use Rattle.faaslet_meaning.specs.Operations.{operations}
use Rattle.faaslet_meaning.specs.Serve.{Served, waits, through, no_memory, misfit, Carried, question_of, does, go_on, After, next, instead, piece, fails, wants, unfit, after, came_after, reply_to, passed, kept, stands, with_memory, touch_question, channel, is_present}
use Rattle.faaslet_meaning.specs.Call.{locks_from, begun_touch, progress, reply_work, release, settled, served, serve, call_step, reply_at}
use Rattle.faaslet_meaning.specs.Asked.{question_by, question_in}
use Rattle.faaslet_meaning.proofs.CallActs.{base, held_lock}
use Rattle.faaslet_meaning.proofs.CallKept.{WorkFits, StageFits}

abbrev pub is_taking : RegionOperation → Bool
is_taking RegionOperation.lock_read = true
is_taking RegionOperation.lock_write = true
is_taking op = false

abbrev pub is_freeing : Question → Bool
is_freeing (ask ch (on_region RegionOperation.unlock)) = true
is_freeing q = false

-- what a question does to the locks of its call
pub data LockStep (j : Invocation) (old : List Lock) (q : Question) (new : List Lock) : Type 0 where
  stays : is_freeing q ≡ false → new ≡ old → LockStep j old q new
  takes : (l : Lock) (op : RegionOperation) → is_taking op ≡ true → q ≡ ask (channel j l.tier l.place) (on_region op) → new ≡ l ∷ old → LockStep j old q new
  frees : (l : Lock) → held_lock old l.tier l.place ≡ true → q ≡ ask (channel j l.tier l.place) (on_region RegionOperation.unlock) → new ≡ filter (λ h. not (is_lock l.tier l.place h)) old → LockStep j old q new

-- ---- Nothing but a reply to a lock question changes the locks.

abbrev pub LocksAre : List Lock → Progress → Type 0
LocksAre L (runs s) = s.locks ≡ L
LocksAre L (asks s q) = s.locks ≡ L
LocksAre L (over s o) = s.locks ≡ L
LocksAre L lost = Unit {0}

abbrev ServedLocks : List Lock → Served → Type 0
ServedLocks L (waits s q) = s.locks ≡ L
ServedLocks L (through s r) = s.locks ≡ L
ServedLocks L (no_memory s) = s.locks ≡ L
ServedLocks L misfit = Unit {0}

abbrev AfterLocks : List Lock → Carried → After → Type 0
AfterLocks L x (next y) = y.state.locks ≡ L
AfterLocks L x (instead b) = x.state.locks ≡ L
AfterLocks L x (piece w) = x.state.locks ≡ L
AfterLocks L x (fails t) = x.state.locks ≡ L
AfterLocks L x wants = x.state.locks ≡ L
AfterLocks L x unfit = Unit {0}

-- what the first act leaves of the locks
abbrev locks_of : Act → List Lock → List Lock
locks_of (lock_read t k) locks = record { tier = t; place = k } ∷ locks
locks_of (lock_write t k) locks = record { tier = t; place = k } ∷ locks
locks_of (unlock t k) locks = filter (λ h. not (is_lock t k h)) locks
locks_of a locks = locks

module _ (j : Invocation) (L : List Lock) where
  release_locks : (s : State) (o : Outcome) (left : List Lock) → s.locks ≡ L → LocksAre L (release j s o left)
  release_locks s o [] h = h
  release_locks s o (l ∷ left) h = h

  settled_locks : (s : State) (x : Next) → s.locks ≡ L → LocksAre L (settled j s x)
  settled_locks s (goes c) h = h
  settled_locks s (ends c o) h = release_locks (record s { config = c; stage = running }) o (locks_from (record s { config = c; stage = running }) (length j.program.grants) 0) h
  settled_locks s (touches c b) h = by (begun_touch b)
    where
      by : (t : Option Touch) → LocksAre L (elim t as (λ t. Progress) [ None ↦ lost | Some q ↦ asks (record s { config = c; stage = touching b }) (touch_question j q) ])
      by None = tt
      by (Some q) = h
  settled_locks s (calls c k) h = tt
  settled_locks s stuck h = tt

  served_locks : (x : Served) → ServedLocks L x → LocksAre L (served j x)
  served_locks (waits s q) h = h
  served_locks (through s r) h = settled_locks s (finished s.config r) h
  served_locks (no_memory s) h = release_locks s outcome.Want (locks_from s (length j.program.grants) 0) h
  served_locks misfit h = tt

  abbrev GoesLocks : (Carried → Served) → Type 0
  GoesLocks go = (x : Carried) → x.state.locks ≡ L → ServedLocks L (go x)

  passed_locks : (acts : List Act) (go : Carried → Served) → GoesLocks go → (x : Carried) (w : Written) → x.state.locks ≡ L → ServedLocks L (passed j acts go x w)
  passed_locks acts go ok x w h = by (touch_of w.access)
    where
      by : (o : Option Touch) → ServedLocks L (elim o as (λ o. Served) [ None ↦ go (record (with_memory x w.memory) { held = kept x.held w.access }) | Some t ↦ stands (passing w.access ∷ acts) (with_memory x w.memory) (touch_question j t) ])
      by None = ok (record (with_memory x w.memory) { held = kept x.held w.access }) h
      by (Some t) = h

  does_locks : (a : Act) (acts : List Act) (go : Carried → Served) → GoesLocks go → (x : Carried) → x.state.locks ≡ L → ServedLocks L (does j a acts go x)
  does_locks (buffer_in ptr len) acts go ok x h = passed_locks acts go ok x (record { memory = x.state.config.memory; access = reading x.state.config.memory ptr len }) h
  does_locks (buffer_out ptr len) acts go ok x h = passed_locks acts go ok x _ h
  does_locks (passing a) acts go ok x h = passed_locks acts go ok x (record { memory = x.state.config.memory; access = a }) h
  does_locks (map k) acts go ok x h = ok _ h
  does_locks (take_input off len) acts go ok x h = ok _ h
  does_locks give_output acts go ok x h = ok _ h
  does_locks (gives n) acts go ok x h = ok _ h
  does_locks a acts go ok x h = ok x h

  go_locks : (acts : List Act) → GoesLocks (go_on j acts)
  go_locks [] x h = h
  go_locks (a ∷ acts) x h = by (question_of j x a) (does_locks a acts (go_on j acts) (go_locks acts) x h)
    where
      by : (o : Option Question) → ServedLocks L (does j a acts (go_on j acts) x) → ServedLocks L (elim o as (λ o. Served) [ Some q ↦ stands (a ∷ acts) x q | None ↦ does j a acts (go_on j acts) x ])
      by None k = k
      by (Some q) k = h

  came_locks : (acts : List Act) (x : Carried) (a : After) → AfterLocks L x a → ServedLocks L (came_after j acts x a)
  came_locks acts x (next y) h = go_locks acts y h
  came_locks acts x (instead b) h = go_locks (b ∷ acts) x h
  came_locks acts x (piece w) h = passed_locks acts (go_on j acts) (go_locks acts) x w h
  came_locks acts x (fails t) h = h
  came_locks acts x wants h = h
  came_locks acts x unfit h = tt

after_locks : (a : Act) (x : Carried) (r : Reply) → AfterLocks (locks_of a x.state.locks) x (after a x r)
after_locks (presence k) x (Reply.present true) = refl
after_locks (presence k) x (Reply.present false) = refl
after_locks (fill k) x (Reply.bytes bs) = refl
after_locks (passing a) x (Reply.bytes bs) = refl
after_locks (passing a) x Reply.done = refl
after_locks (local_read k off len) x (Reply.bytes bs) = refl
after_locks (local_write k off) x Reply.done = refl
after_locks (push k off len) x (Reply.bytes bs) = refl
after_locks (pull k off len) x (Reply.bytes bs) = refl
after_locks (used k) x (Reply.number n) = refl
after_locks (append k) x (Reply.number n) = refl
after_locks (append k) x Reply.full = refl
after_locks (lock_read t k) x Reply.done = refl
after_locks (lock_write t k) x Reply.done = refl
after_locks (unlock t k) x Reply.done = refl
after_locks (submit f) x (Reply.child n) = refl
after_locks (submit f) x Reply.chain_full = refl
after_locks (submit f) x Reply.want = refl
after_locks (await c) x (Reply.finished o bs) = refl
after_locks (look c off len) x (Reply.finished o bs) = refl
after_locks a x r = tt

module _ (j : Invocation) where
  serve_locks : (s : State) (h : HostCall) → LocksAre s.locks (serve j s h)
  serve_locks s h = by (first_trap j s (checks h))
    where
      by : (o : Option Trap) → LocksAre s.locks (elim o as (λ o. Progress) [ Some t ↦ served j (through s (Err t)) | None ↦ served j (go_on j (operations j s h) (record { held = []; result = None; state = s })) ])
      by (Some t) = served_locks j s.locks (through s (Err t)) refl
      by None = served_locks j s.locks (go_on j (operations j s h) (record { held = []; result = None; state = s })) (go_locks j s.locks (operations j s h) (record { held = []; result = None; state = s }) refl)

  turn_locks : (s : State) (x : Next) → LocksAre s.locks (progress j s x)
  turn_locks s (goes c) = refl
  turn_locks s (ends c o) = settled_locks j s.locks s (ends c o) refl
  turn_locks s (touches c b) = settled_locks j s.locks s (touches c b) refl
  turn_locks s (calls c h) = serve_locks (record s { config = c }) h
  turn_locks s stuck = tt

  pub step_locks : (s : State) → LocksAre s.locks (call_step j s)
  step_locks s = turn_locks s (step j.program s.config)

  -- ---- A question, and the locks after its reply.

  asked_stays : (old : List Lock) (p q : Question) → Some p ≡ Some q → is_freeing p ≡ false → LockStep j old q old
  asked_stays old p q e f = let same : p ≡ q = cc in stays (subst (λ x. is_freeing x ≡ false) same f) refl

  touch_stays : (old : List Lock) (o : Option Touch) (q : Question) → option_map (touch_question j) o ≡ Some q → LockStep j old q old
  touch_stays old None q e = let no : ⊥ = cc in absurd no
  touch_stays old (Some (reads_piece k off n)) q e = asked_stays old (touch_question j (reads_piece k off n)) q e refl
  touch_stays old (Some (writes_piece k off bs)) q e = asked_stays old (touch_question j (writes_piece k off bs)) q e refl

  seen_stays : (old : List Lock) (b : Bool) (d : Channel) (q : Question) → cond b None (Some (ask d (on_region RegionOperation.probe))) ≡ Some q → LockStep j old q old
  seen_stays old true d q e = let no : ⊥ = cc in absurd no
  seen_stays old false d q e = asked_stays old (ask d (on_region RegionOperation.probe)) q e refl

  some_same : (p q : Question) → Some p ≡ Some q → q ≡ p
  some_same p q e = cc

  act_step : (s : State) (w : Work) (a : Act) (acts : List Act) (q : Question) → question_by j s w (a ∷ acts) ≡ Some q → WorkFits j (base s) s.present w.held (a ∷ acts) → LockStep j s.locks q (locks_of a s.locks)
  act_step s w (passing a) acts q e h = touch_stays s.locks (touch_of a) q e
  act_step s w (presence k) acts q e h = seen_stays s.locks (is_present s k) (channel j local k) q e
  act_step s w (lock_read t k) acts q e h = takes (record { tier = t; place = k }) RegionOperation.lock_read refl (some_same (ask (channel j t k) (on_region RegionOperation.lock_read)) q e) refl
  act_step s w (lock_write t k) acts q e h = takes (record { tier = t; place = k }) RegionOperation.lock_write refl (some_same (ask (channel j t k) (on_region RegionOperation.lock_write)) q e) refl
  act_step s w (unlock t k) acts q e h = frees (record { tier = t; place = k }) h.fit.0 (some_same (ask (channel j t k) (on_region RegionOperation.unlock)) q e) refl
  act_step s w (fill k) acts q e h = asked_stays s.locks _ q e refl
  act_step s w (local_read k off len) acts q e h = asked_stays s.locks _ q e refl
  act_step s w (local_write k off) acts q e h = asked_stays s.locks _ q e refl
  act_step s w (push k off len) acts q e h = asked_stays s.locks _ q e refl
  act_step s w (pull k off len) acts q e h = asked_stays s.locks _ q e refl
  act_step s w (used k) acts q e h = asked_stays s.locks _ q e refl
  act_step s w (append k) acts q e h = asked_stays s.locks _ q e refl
  act_step s w (submit f) acts q e h = asked_stays s.locks _ q e refl
  act_step s w (await c) acts q e h = asked_stays s.locks _ q e refl
  act_step s w (look c off len) acts q e h = asked_stays s.locks _ q e refl
  act_step s w a acts q e h = let no : ⊥ = cc in absurd no

  abbrev pub Steps : State → Question → Progress → Type 0
  Steps s q p = (new : List Lock) × LockStep j s.locks q new × LocksAre new p

  work_step : (s : State) (w : Work) (acts : List Act) (held : List ℕ) (result : Option ℕ) (r : Reply) (q : Question) → question_by j s w acts ≡ Some q → WorkFits j (base s) s.present w.held acts → Steps s q (reply_work j s (record { acts = acts; held = held; result = result }) r)
  work_step s w [] held result r q e h = let no : ⊥ = cc in absurd no
  work_step s w (a ∷ acts) held result r q e h =
      let x : Carried = record { held = held; result = result; state = s } in
      (locks_of a s.locks, act_step s w a acts q e h, served_locks j (locks_of a s.locks) (reply_to j a acts x r) (came_locks j (locks_of a s.locks) acts x (after a x r) (after_locks a x r)))

  pub stage_step : (s : State) (st : Stage) (r : Reply) (q : Question) → question_in j s st ≡ Some q → StageFits j s st → Steps s q (reply_at j s st r)
  stage_step s running r q e h = let no : ⊥ = cc in absurd no
  stage_step s (touching b) r q e h = (s.locks, touch_stays s.locks (begun_touch b) q e, by r)
    where
      by : (r : Reply) → LocksAre s.locks (reply_at j s (touching b) r)
      by (Reply.bytes bs) = settled_locks j s.locks s (resumed s.config b bs) refl
      by Reply.done = settled_locks j s.locks s (resumed s.config b []) refl
      by r = tt
  stage_step s (calling w) r q e h = work_step s w w.acts w.held w.result r q e h
  stage_step s (releasing [] o) r q e h = let no : ⊥ = cc in absurd no
  stage_step s (releasing (l ∷ left) o) r q e h =
      (filter (λ a. not (is_lock l.tier l.place a)) s.locks, frees l h.held.0 (some_same (ask (channel j l.tier l.place) (on_region RegionOperation.unlock)) q e) refl, by r)
    where
      by : (r : Reply) → LocksAre (filter (λ a. not (is_lock l.tier l.place a)) s.locks) (reply_at j s (releasing (l ∷ left) o) r)
      by Reply.done = release_locks j (filter (λ a. not (is_lock l.tier l.place a)) s.locks) (without_lock s l) o left refl
      by r = tt
