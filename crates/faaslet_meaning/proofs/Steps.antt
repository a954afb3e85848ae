-- A call's step lowers the weight of its machine, and no reply raises it: so a call makes at most as many steps as it weighs.
use Rattle.std.proofs.Common.{ℕ, ◌+◌, ◌*◌, ◌≤◌, List, [], ◌∷◌, ◌++◌, None, Some, Option, true, false, take, length, Err}
use Rattle.std.specs.Prelude.{slice_range}
use Rattle.faaslet_meaning.specs.declared.outcome.Outcome.{Outcome}
use Rattle.faaslet_meaning.specs.declared.outcome.Outcome.TheVariants as outcome
use Rattle.faaslet_meaning.specs.declared.outcome.Trap.{Trap}
use Rattle.faaslet_meaning.specs.Memory.{key_pages, page_size, Written, Touch, touch_of, reading, writing, pages_of}
use Rattle.faaslet_meaning.specs.HostCalls.{HostCall}
use Rattle.faaslet_meaning.specs.Configuration.{Next, goes, ends, touches, calls, stuck}
use Rattle.faaslet_meaning.specs.MemoryRules.{resumed}
use Rattle.faaslet_meaning.specs.Step.{step, finished}
use Rattle.faaslet_meaning.specs.Channels.{Reply, Question}
use Rattle.faaslet_meaning.specs.CallState.{Invocation, Lock, Act, presence, fill, buffer_in, buffer_out, passing, local_read, local_write, push, pull, used, append, map, lock_read, lock_write, unlock, take_input, give_output, submit, await, look, gives, Stage, running, touching, calling, releasing, State, asks, lost, without_lock}
use Rattle.faaslet_meaning.specs.Checks.{checks, first_trap, key_size}
use Rattle.faaslet_meaning.specs.Operations.{operations}
use Rattle.faaslet_meaning.specs.Serve.{Served, waits, through, no_memory, misfit, Carried, question_of, does, go_on, After, next, instead, piece, fails, wants, unfit, after, came_after, reply_to, passed, kept, stands, with_memory, touch_question, mapped_at}
use Rattle.faaslet_meaning.specs.Call.{locks_from, begun_touch, progress, reply_work, reply_release, release, settled, served, serve, call_step, reply_at}
use Rattle.faaslet_meaning.specs.Bounds.{weight}
use Rattle.faaslet_meaning.proofs.Measures.{Weighs, ProgressWeighs, StageWeighs}
use Rattle.faaslet_meaning.proofs.Weight.{step_weighs, resumed_weighs, finished_weighs}

abbrev ServedWeighs : ℕ → Served → Type 0
ServedWeighs n (waits s q) = weight s.config ≤ n
ServedWeighs n (through s r) = weight s.config ≤ n
ServedWeighs n (no_memory s) = weight s.config ≤ n
ServedWeighs n misfit = Unit {0}

abbrev Keeps : ℕ → (Carried → Served) → Type 0
Keeps n go = (x : Carried) → weight x.state.config ≤ n → ServedWeighs n (go x)

module _ (n : ℕ) (j : Invocation) where
  passed_weighs : (acts : List Act) (go : Carried → Served) → Keeps n go → (x : Carried) (w : Written) → weight x.state.config ≤ n → ServedWeighs n (passed j acts go x w)
  passed_weighs acts go on x w h = by (touch_of w.access)
    where
      by : (o : Option Touch) → ServedWeighs n (elim o [ None ↦ go (record (with_memory x w.memory) { held = kept x.held w.access }) | Some t ↦ stands (passing w.access ∷ acts) (with_memory x w.memory) (touch_question j t) ])
      by None = on (record (with_memory x w.memory) { held = kept x.held w.access }) h
      by (Some t) = h

  act_weighs : (a : Act) (acts : List Act) (go : Carried → Served) → Keeps n go → Keeps n (does j a acts go)
  act_weighs (buffer_in ptr len) acts go on x h = passed_weighs acts go on x (record { memory = x.state.config.memory; access = reading x.state.config.memory ptr len }) h
  act_weighs (buffer_out ptr len) acts go on x h = passed_weighs acts go on x (writing x.state.config.memory ptr (take len x.held)) h
  act_weighs (passing a) acts go on x h = passed_weighs acts go on x (record { memory = x.state.config.memory; access = a }) h
  act_weighs (map k) acts go on x h = on (mapped_at x k (key_pages (key_size j k)) (pages_of x.state.config.memory.segments * page_size)) h
  act_weighs (take_input off len) acts go on x h = on (record x { held = slice_range j.input off (off + len) }) h
  act_weighs give_output acts go on x h = on (record x { state = record x.state { output = x.state.output ++ x.held } }) h
  act_weighs (gives k) acts go on x h = on (record x { result = Some k }) h
  act_weighs _ acts go on x h = on x h

  go_weighs : (acts : List Act) → Keeps n (go_on j acts)
  go_weighs [] x h = h
  go_weighs (a ∷ acts) x h = asks_or (question_of j x a) (act_weighs a acts (go_on j acts) (go_weighs acts) x h)
    where
      asks_or : (o : Option Question) → ServedWeighs n (does j a acts (go_on j acts) x) → ServedWeighs n (elim o [ Some q ↦ stands (a ∷ acts) x q | None ↦ does j a acts (go_on j acts) x ])
      asks_or None k = k
      asks_or (Some q) k = h

  -- what comes after a reply has the weight that was there before
  abbrev AfterWeighs : After → Type 0
  AfterWeighs (next y) = weight y.state.config ≤ n
  AfterWeighs _ = Unit {0}

  came_weighs : (acts : List Act) (x : Carried) (a : After) → AfterWeighs a → weight x.state.config ≤ n → ServedWeighs n (came_after j acts x a)
  came_weighs acts x (next y) k h = go_weighs acts y k
  came_weighs acts x (instead b) k h = go_weighs (b ∷ acts) x h
  came_weighs acts x (piece w) k h = passed_weighs acts (go_on j acts) (go_weighs acts) x w h
  came_weighs acts x (fails t) k h = h
  came_weighs acts x wants k h = h
  came_weighs acts x unfit k h = tt

  after_weighs : (a : Act) (x : Carried) (q : Reply) → weight x.state.config ≤ n → AfterWeighs (after a x q)
  after_weighs (presence k) x (Reply.present true) h = h
  after_weighs (presence k) x (Reply.present false) h = tt
  after_weighs (fill k) x (Reply.bytes bs) h = h
  after_weighs (passing a) x (Reply.bytes bs) h = tt
  after_weighs (passing a) x Reply.done h = tt
  after_weighs (local_read k off len) x (Reply.bytes bs) h = h
  after_weighs (local_write k off) x Reply.done h = h
  after_weighs (push k off len) x (Reply.bytes bs) h = h
  after_weighs (pull k off len) x (Reply.bytes bs) h = h
  after_weighs (used k) x (Reply.number v) h = h
  after_weighs (append k) x (Reply.number v) h = h
  after_weighs (append k) x Reply.full h = tt
  after_weighs (lock_read t k) x Reply.done h = h
  after_weighs (lock_write t k) x Reply.done h = h
  after_weighs (unlock t k) x Reply.done h = h
  after_weighs (submit f) x (Reply.child v) h = h
  after_weighs (submit f) x Reply.chain_full h = tt
  after_weighs (submit f) x Reply.want h = tt
  after_weighs (await c) x (Reply.finished o bs) h = h
  after_weighs (look c off len) x (Reply.finished o bs) h = h
  after_weighs _ x q h = tt

  reply_weighs : (a : Act) (acts : List Act) (x : Carried) (q : Reply) → weight x.state.config ≤ n → ServedWeighs n (reply_to j a acts x q)
  reply_weighs a acts x q h = came_weighs acts x (after a x q) (after_weighs a x q h) h

  release_weighs : (s : State) (o : Outcome) (ls : List Lock) → ProgressWeighs n (release j s o ls)
  release_weighs s o [] = tt
  release_weighs s o (l ∷ ls) = tt

  settled_weighs : (s : State) (x : Next) → Weighs n x → ProgressWeighs n (settled j s x)
  settled_weighs s (goes c) h = h
  settled_weighs s (ends c o) h = release_weighs (record s { config = c; stage = running }) o (locks_from (record s { config = c; stage = running }) (length j.program.grants) 0)
  settled_weighs s (touches c b) h = by (begun_touch b)
    where
      by : (t : Option Touch) → ProgressWeighs n (elim t [ None ↦ lost | Some q ↦ asks (record s { config = c; stage = touching b }) (touch_question j q) ])
      by None = tt
      by (Some q) = h
  settled_weighs s (calls c h) k = tt
  settled_weighs s stuck h = tt

  stage_weighs : (s : State) (st : Stage) → weight s.config ≤ n → StageWeighs n s st
  stage_weighs s running h = h
  stage_weighs s (touching b) h = h
  stage_weighs s (calling w) h = h
  stage_weighs s (releasing ls o) h = tt

  served_weighs : (x : Served) → ServedWeighs n x → ProgressWeighs n (served j x)
  served_weighs (waits s q) h = stage_weighs s s.stage h
  served_weighs (through s r) h = settled_weighs s (finished s.config r) (finished_weighs n s.config r h)
  served_weighs (no_memory s) h = release_weighs s outcome.Want (locks_from s (length j.program.grants) 0)
  served_weighs misfit h = tt

  serve_weighs : (s : State) (h : HostCall) → weight s.config ≤ n → ProgressWeighs n (serve j s h)
  serve_weighs s h k = by (first_trap j s (checks h))
    where
      by : (o : Option Trap) → ProgressWeighs n (elim o [ Some t ↦ served j (through s (Err t)) | None ↦ served j (go_on j (operations j s h) (record { held = []; result = None; state = s })) ])
      by (Some t) = served_weighs (through s (Err t)) k
      by None = served_weighs (go_on j (operations j s h) (record { held = []; result = None; state = s })) (go_weighs (operations j s h) (record { held = []; result = None; state = s }) k)

  turn_weighs : (s : State) (x : Next) → Weighs n x → ProgressWeighs n (progress j s x)
  turn_weighs s (goes c) h = settled_weighs s (goes c) h
  turn_weighs s (ends c o) h = settled_weighs s (ends c o) h
  turn_weighs s (touches c b) h = settled_weighs s (touches c b) h
  turn_weighs s (calls c k) h = serve_weighs (record s { config = c }) k h
  turn_weighs s stuck h = tt

  -- a step lowers the weight
  pub call_weighs : (s : State) → weight s.config ≤ n + 1 → ProgressWeighs n (call_step j s)
  call_weighs s h = turn_weighs s (step j.program s.config) (step_weighs n j.program s.config h)

  work_weighs : (s : State) (acts : List Act) (held : List ℕ) (r : Option ℕ) (q : Reply) → weight s.config ≤ n → ProgressWeighs n (reply_work j s (record { acts = acts; held = held; result = r }) q)
  work_weighs s [] held r q h = tt
  work_weighs s (a ∷ acts) held r q h = served_weighs (reply_to j a acts (record { held = held; result = r; state = s }) q) (reply_weighs a acts (record { held = held; result = r; state = s }) q h)

  release_next : (s : State) (ls : List Lock) (o : Outcome) → ProgressWeighs n (reply_release j s ls o)
  release_next s [] o = tt
  release_next s (l ∷ ls) o = release_weighs (without_lock s l) o ls

  -- no reply raises it
  pub replied_weighs : (s : State) (st : Stage) (q : Reply) → StageWeighs n s st → ProgressWeighs n (reply_at j s st q)
  replied_weighs s (touching b) (Reply.bytes bs) h = settled_weighs s (resumed s.config b bs) (resumed_weighs n s.config b bs h)
  replied_weighs s (touching b) Reply.done h = settled_weighs s (resumed s.config b []) (resumed_weighs n s.config b [] h)
  replied_weighs s (calling w) q h = work_weighs s w.acts w.held w.result q h
  replied_weighs s (releasing ls o) Reply.done h = release_next s ls o
  replied_weighs s st q h = tt
