-- A call never waits for more bytes of a replica than a buffer may have: the acts that are left of a host call, by all steps and
-- replies.
use Rattle.std.proofs.Common.{◌≡◌, ℕ, ◌≤◌, List, [], ◌∷◌, refl, subst, None, Some, Option, Bool, true, false, cond, Err}
use Rattle.std.specs.Prelude.{take, slice_range, option_map, length, ◌+◌, ◌++◌, ◌*◌}
use Rattle.faaslet_meaning.specs.declared.grant.Channel.{Channel}
use Rattle.faaslet_meaning.specs.declared.outcome.Outcome.{Outcome}
use Rattle.faaslet_meaning.specs.declared.outcome.Outcome.TheVariants as outcome
use Rattle.faaslet_meaning.specs.declared.outcome.Trap.{Trap}
use Rattle.faaslet_meaning.specs.Memory.{Home, private, mapped, Access, reads, writes, Written, Touch, reads_piece, writes_piece, touch_of, reading, writing, key_pages, page_size, pages_of}
use Rattle.faaslet_meaning.specs.HostCalls.{HostCall, get_state, read_state, set_state, push_state, pull_state, push_state_offset, pull_state_offset, append_state, read_input, write_output, chain_call, read_output, Buffer, buffer_of}
use Rattle.faaslet_meaning.specs.ControlRules.{buffer_limit}
use Rattle.faaslet_meaning.specs.Configuration.{Begun, load, store, Next, goes, ends, touches, calls, stuck}
use Rattle.faaslet_meaning.specs.MemoryRules.{resumed}
use Rattle.faaslet_meaning.specs.Step.{step, finished}
use Rattle.faaslet_meaning.specs.Channels.{RegionOperation, on_region, Reply, Question, ask, Transcript}
use Rattle.faaslet_meaning.specs.CallState.{Invocation, local, Lock, Act, presence, fill, buffer_in, buffer_out, passing, local_read, local_write, push, pull, used, append, map, lock_read, lock_write, unlock, take_input, give_output, submit, await, look, gives, Work, Stage, running, touching, calling, releasing, State, Progress, asks, lost, without_lock, address_of}
use Rattle.faaslet_meaning.specs.Checks.{checks, first_trap, key_size}
use Rattle.faaslet_meaning.specs.Operations.{operations, address_or_map}
use Rattle.faaslet_meaning.specs.Serve.{Served, waits, through, no_memory, misfit, is_present, channel, touch_question, Carried, question_of, stands, kept, with_memory, passed, mapped_at, does, go_on, After, next, instead, piece, fails, wants, unfit, after, came_after, reply_to}
use Rattle.faaslet_meaning.specs.Call.{locks_from, release, begun_touch, settled, served, serve, progress, reply_work, reply_release, reply_at}
use Rattle.faaslet_meaning.specs.Goes.{Goes, here, stepped, answered}
use Rattle.faaslet_meaning.specs.Asked.{question_by, question_in}
use Rattle.faaslet_meaning.proofs.StepWalk.{IsShort}
use Rattle.faaslet_meaning.proofs.CallParts.{Each}
use Rattle.faaslet_meaning.proofs.CallMemory.{AccessFits}
use Rattle.faaslet_meaning.proofs.CallActs.{base}
use Rattle.faaslet_meaning.proofs.CallKept.{WorkFits, StageFits}
use Rattle.call_laws.proofs.HostAsks.{host_asks_carried}

abbrev pub IsShortRead : Act → Type 0
IsShortRead (local_read k off len) = len ≤ buffer_limit
IsShortRead a = Unit {0}

abbrev pub StageShort : Stage → Type 0
StageShort (calling w) = Each IsShortRead w.acts
StageShort st = Unit {0}

abbrev pub ProgressShort : Progress → Type 0
ProgressShort (asks s q) = StageShort s.stage
ProgressShort p = Unit {0}

abbrev ServedShort : Served → Type 0
ServedShort (waits s q) = StageShort s.stage
ServedShort x = Unit {0}

-- what comes in place of an act
abbrev AfterShort : After → Type 0
AfterShort (instead b) = IsShortRead b
AfterShort a = Unit {0}

-- ---- The acts of a host call.

mapping_short : (k : ℕ) (o : Option ℕ) → Each IsShortRead (address_or_map k o)
mapping_short k None = (tt, (tt, tt))
mapping_short k (Some a) = (tt, tt)

operations_short : (j : Invocation) (s : State) (h : HostCall) → IsShort (buffer_of h) → Each IsShortRead (operations j s h)
operations_short j s (get_state k) l = mapping_short k (address_of s k)
operations_short j s (read_state k off ptr len) l = (tt, (l, (tt, tt)))
operations_short j s (set_state k off ptr len) l = (tt, (tt, (tt, tt)))
operations_short j s (push_state k) l = (tt, (tt, tt))
operations_short j s (pull_state k) l = (tt, (tt, tt))
operations_short j s (push_state_offset k off len) l = (tt, (tt, tt))
operations_short j s (pull_state_offset k off len) l = (tt, (tt, tt))
operations_short j s (append_state k ptr len) l = (tt, (tt, tt))
operations_short j s (read_input off ptr len) l = (tt, (tt, tt))
operations_short j s (write_output ptr len) l = (tt, (tt, tt))
operations_short j s (chain_call f ptr len) l = (tt, (tt, tt))
operations_short j s (read_output c off ptr len) l = (tt, (tt, tt))
operations_short j s h l = (tt, tt)

module _ (j : Invocation) where
  release_short : (s : State) (o : Outcome) (ls : List Lock) → ProgressShort (release j s o ls)
  release_short s o [] = tt
  release_short s o (l ∷ ls) = tt

  settled_short : (s : State) (x : Next) → ProgressShort (settled j s x)
  settled_short s (goes c) = tt
  settled_short s (ends c o) = release_short (record s { config = c; stage = running }) o (locks_from (record s { config = c; stage = running }) (length j.program.grants) 0)
  settled_short s (touches c b) = by (begun_touch b)
    where
      by : (t : Option Touch) → ProgressShort (elim t [ None ↦ lost | Some q ↦ asks (record s { config = c; stage = touching b }) (touch_question j q) ])
      by None = tt
      by (Some q) = tt
  settled_short s (calls c h) = tt
  settled_short s stuck = tt

  served_short : (x : Served) → ServedShort x → ProgressShort (served j x)
  served_short (waits s q) h = h
  served_short (through s r) h = settled_short s (finished s.config r)
  served_short (no_memory s) h = release_short s outcome.Want (locks_from s (length j.program.grants) 0)
  served_short misfit h = tt

  passed_short : (acts : List Act) (go : Carried → Served) → ((x : Carried) → ServedShort (go x)) → Each IsShortRead acts → (x : Carried) (w : Written) → ServedShort (passed j acts go x w)
  passed_short acts go ok h x w = by (touch_of w.access)
    where
      by : (o : Option Touch) → ServedShort (elim o [ None ↦ go (record (with_memory x w.memory) { held = kept x.held w.access }) | Some t ↦ stands (passing w.access ∷ acts) (with_memory x w.memory) (touch_question j t) ])
      by None = ok (record (with_memory x w.memory) { held = kept x.held w.access })
      by (Some t) = (tt, h)

  act_short : (a : Act) (acts : List Act) (go : Carried → Served) → ((x : Carried) → ServedShort (go x)) → Each IsShortRead acts → (x : Carried) → ServedShort (does j a acts go x)
  act_short (buffer_in ptr len) acts go ok h x = passed_short acts go ok h x (record { memory = x.state.config.memory; access = reading x.state.config.memory ptr len })
  act_short (buffer_out ptr len) acts go ok h x = passed_short acts go ok h x (writing x.state.config.memory ptr (take len x.held))
  act_short (passing a) acts go ok h x = passed_short acts go ok h x (record { memory = x.state.config.memory; access = a })
  act_short (map k) acts go ok h x = ok (mapped_at x k (key_pages (key_size j k)) (pages_of x.state.config.memory.segments * page_size))
  act_short (take_input off len) acts go ok h x = ok (record x { held = slice_range j.input off (off + len) })
  act_short give_output acts go ok h x = ok (record x { state = record x.state { output = x.state.output ++ x.held } })
  act_short (gives n) acts go ok h x = ok (record x { result = Some n })
  act_short a acts go ok h x = ok x

  go_short : (acts : List Act) → Each IsShortRead acts → (x : Carried) → ServedShort (go_on j acts x)
  go_short [] h x = tt
  go_short (a ∷ acts) h x = by (question_of j x a) (act_short a acts (go_on j acts) (go_short acts h.1) h.1 x)
    where
      by : (o : Option Question) → ServedShort (does j a acts (go_on j acts) x) → ServedShort (elim o [ Some q ↦ stands (a ∷ acts) x q | None ↦ does j a acts (go_on j acts) x ])
      by None k = k
      by (Some q) k = h

  -- ---- Replies.

  after_short : (a : Act) (x : Carried) (r : Reply) → AfterShort (after a x r)
  after_short (presence k) x (Reply.present true) = tt
  after_short (presence k) x (Reply.present false) = tt
  after_short (fill k) x (Reply.bytes bs) = tt
  after_short (passing a) x (Reply.bytes bs) = tt
  after_short (passing a) x Reply.done = tt
  after_short (local_read k off len) x (Reply.bytes bs) = tt
  after_short (local_write k off) x Reply.done = tt
  after_short (push k off len) x (Reply.bytes bs) = tt
  after_short (pull k off len) x (Reply.bytes bs) = tt
  after_short (used k) x (Reply.number n) = tt
  after_short (append k) x (Reply.number n) = tt
  after_short (append k) x Reply.full = tt
  after_short (lock_read t k) x Reply.done = tt
  after_short (lock_write t k) x Reply.done = tt
  after_short (unlock t k) x Reply.done = tt
  after_short (submit f) x (Reply.child n) = tt
  after_short (submit f) x Reply.chain_full = tt
  after_short (submit f) x Reply.want = tt
  after_short (await c) x (Reply.finished o bs) = tt
  after_short (look c off len) x (Reply.finished o bs) = tt
  after_short _ x r = tt

  came_short : (acts : List Act) (x : Carried) (a : After) → AfterShort a → Each IsShortRead acts → ServedShort (came_after j acts x a)
  came_short acts x (next y) k h = go_short acts h y
  came_short acts x (instead b) k h = go_short (b ∷ acts) (k, h) x
  came_short acts x (piece w) k h = passed_short acts (go_on j acts) (go_short acts h) h x w
  came_short acts x (fails t) k h = tt
  came_short acts x wants k h = tt
  came_short acts x unfit k h = tt

  work_short : (s : State) (acts : List Act) (held : List ℕ) (result : Option ℕ) (r : Reply) → Each IsShortRead acts → ProgressShort (reply_work j s (record { acts = acts; held = held; result = result }) r)
  work_short s [] held result r h = tt
  work_short s (a ∷ acts) held result r h =
      let x : Carried = record { held = held; result = result; state = s } in
      served_short (reply_to j a acts x r) (came_short acts x (after a x r) (after_short a x r) h.1)

  left_short : (s : State) (ls : List Lock) (o : Outcome) → ProgressShort (reply_release j s ls o)
  left_short s [] o = tt
  left_short s (l ∷ ls) o = release_short (without_lock s l) o ls

  stage_short : (s : State) (st : Stage) (r : Reply) → StageShort st → ProgressShort (reply_at j s st r)
  stage_short s (touching b) (Reply.bytes bs) h = settled_short s (resumed s.config b bs)
  stage_short s (touching b) Reply.done h = settled_short s (resumed s.config b [])
  stage_short s (calling w) r h = work_short s w.acts w.held w.result r h
  stage_short s (releasing ls o) Reply.done h = left_short s ls o
  stage_short s st r h = tt

  -- ---- Steps.

  serve_short : (s : State) (h : HostCall) → IsShort (buffer_of h) → ProgressShort (serve j s h)
  serve_short s h l = by (first_trap j s (checks h))
    where
      by : (o : Option Trap) → ProgressShort (elim o [ Some t ↦ served j (through s (Err t)) | None ↦ served j (go_on j (operations j s h) (record { held = []; result = None; state = s })) ])
      by (Some t) = served_short (through s (Err t)) (tt {0})
      by None = served_short (go_on j (operations j s h) (record { held = []; result = None; state = s })) (go_short (operations j s h) (operations_short j s h l) (record { held = []; result = None; state = s }))

  carried_short : (o : Option Buffer) → ((b : Buffer) → o ≡ Some b → b.len ≤ buffer_limit) → IsShort o
  carried_short None k = tt
  carried_short (Some b) k = k b refl

  turn_short : (s : State) (x : Next) → step j.program s.config ≡ x → ProgressShort (progress j s x)
  turn_short s (goes c) e = tt
  turn_short s (ends c o) e = settled_short s (ends c o)
  turn_short s (touches c b) e = settled_short s (touches c b)
  turn_short s (calls c h) e = serve_short (record s { config = c }) h (carried_short (buffer_of h) (host_asks_carried j.program s.config c h e).buffer)
  turn_short s stuck e = tt

pub goes_short : {j : Invocation} {p y : Progress} {transcript : Transcript} → Goes j p transcript y → ProgressShort p → ProgressShort y
goes_short here h = h
goes_short {j} (stepped {s = s} g) h = goes_short g (turn_short j s (step j.program s.config) refl)
goes_short {j} (answered {s = s} {q = q} {r = r} fit g) h = goes_short g (stage_short j s s.stage r h)

-- ---- What is read where a call waits.

module _ (j : Invocation) (s : State) (ch : Channel) (off len : ℕ) where
  abbrev Reads : Option Question → Type 0
  Reads o = o ≡ Some (ask ch (on_region (RegionOperation.read off len)))

  touch_reads : (a : Access) → AccessFits a → Reads (option_map (touch_question j) (touch_of a)) → len ≤ buffer_limit
  touch_reads (reads at n [] copy) h e = absurd (cc)
  touch_reads (reads at n (p ∷ ps) copy) h e = by p.home e
    where
      by : (k : Home) → Reads (option_map (touch_question j) (elim k as (λ _. Option Touch) [ private ↦ None | mapped i ↦ Some (reads_piece i p.off p.size) ])) → len ≤ buffer_limit
      by private g = absurd (cc)
      by (mapped i) g = let same : p.size ≡ len = cc in subst (λ n. n ≤ buffer_limit) same h.0.short
  touch_reads (writes [] bs) h e = absurd (cc)
  touch_reads (writes (p ∷ ps) bs) h e = by p.home e
    where
      by : (k : Home) → Reads (option_map (touch_question j) (elim k as (λ _. Option Touch) [ private ↦ None | mapped i ↦ Some (writes_piece i p.off (take p.size bs)) ])) → len ≤ buffer_limit
      by private g = absurd (cc)
      by (mapped i) g = absurd (cc)

  begun_reads : (b : Begun) → StageFits j s (touching b) → Reads (option_map (touch_question j) (begun_touch b)) → len ≤ buffer_limit
  begun_reads (load l a) h e = touch_reads a h e
  begun_reads (store a) h e = touch_reads a h e

  seen_reads : (b : Bool) (d : Channel) → Reads (cond b None (Some (ask d (on_region RegionOperation.probe)))) → ⊥
  seen_reads true d e = cc
  seen_reads false d e = cc

  act_reads : (w : Work) (a : Act) (acts : List Act) → WorkFits j (base s) s.present w.held (a ∷ acts) → IsShortRead a → Reads (question_by j s w (a ∷ acts)) → len ≤ buffer_limit
  act_reads w (local_read k at n) acts h l e = let same : n ≡ len = cc in subst (λ n. n ≤ buffer_limit) same l
  act_reads w (passing a) acts h l e = touch_reads a h.fit.0 e
  act_reads w (presence k) acts h l e = absurd (seen_reads (is_present s k) (channel j local k) e)
  act_reads w _ acts h l e = absurd (cc)

  work_reads : (w : Work) (acts : List Act) → WorkFits j (base s) s.present w.held acts → Each IsShortRead acts → Reads (question_by j s w acts) → len ≤ buffer_limit
  work_reads w [] h l e = absurd (cc)
  work_reads w (a ∷ acts) h l e = act_reads w a acts h l.0 e

  pub stage_reads : (st : Stage) → StageFits j s st → StageShort st → Reads (question_in j s st) → len ≤ buffer_limit
  stage_reads running h l e = absurd (cc)
  stage_reads (touching b) h l e = begun_reads b h e
  stage_reads (calling w) h l e = work_reads w w.acts h l e
  stage_reads (releasing [] o) h l e = absurd (cc)
  stage_reads (releasing (k ∷ left) o) h l e = absurd (cc)
