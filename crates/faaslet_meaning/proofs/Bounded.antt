-- A call: no step raises its weight or the bound on its questions, a step where it runs lowers the weight, each reply lowers
-- the bound.
use Rattle.std.proofs.Common.{◌≡◌, ℕ, zero, suc, ◌+◌, ◌-◌, ◌*◌, ◌<◌, ◌≤◌, List, [], ◌∷◌, ◌++◌, length, refl, arith, None, Some, Option, true, false, take, Err}
use Rattle.std.specs.Prelude.{slice_range, drop, max}
use Rattle.std.proofs.Common.{length-take, length-append}
use Rattle.faaslet_meaning.specs.Lists.{total}
use Rattle.faaslet_meaning.specs.declared.outcome.Outcome.{Outcome}
use Rattle.faaslet_meaning.specs.declared.outcome.Outcome.TheVariants as outcome
use Rattle.faaslet_meaning.specs.Memory.{key_pages, Memory, Access, reads, writes, Written, Touch, touch_of, reading, writing, answered, page_size, pages_of}
use Rattle.faaslet_meaning.specs.HostCalls.{HostCall, buffer_of, state_size, state_used, get_state, read_state, set_state, push_state, pull_state, push_state_offset, pull_state_offset, append_state, lock_state_read, lock_state_write, unlock_state, lock_global_read, lock_global_write, unlock_global, input_size, read_input, write_output, chain_call, await_call, output_size, read_output}
use Rattle.faaslet_meaning.specs.Configuration.{Begun, load, store, Next, goes, ends, touches, calls, stuck}
use Rattle.faaslet_meaning.specs.Step.{step, finished}
use Rattle.faaslet_meaning.specs.MemoryRules.{resumed}
use Rattle.faaslet_meaning.specs.Channels.{Reply, Question}
use Rattle.faaslet_meaning.specs.CallState.{Invocation, Tier, local, global, Lock, Act, presence, fill, buffer_in, buffer_out, passing, local_read, local_write, push, pull, used, append, map, lock_read, lock_write, unlock, take_input, give_output, submit, await, look, gives, Stage, running, touching, calling, releasing, State, runs, asks, lost, address_of}
use Rattle.faaslet_meaning.specs.declared.outcome.Trap.{Trap}
use Rattle.faaslet_meaning.specs.Checks.{holds, checks, first_trap, key_size}
use Rattle.faaslet_meaning.specs.Operations.{operations, address_or_map}
use Rattle.faaslet_meaning.specs.Serve.{Served, waits, through, no_memory, misfit, Carried, question_of, does, go_on, reply_to, passed, kept, stands, with_memory, touch_question, mapped_at, seen, with_lock, less_lock, with_child, note, with_result, with_held, await_answer}
use Rattle.faaslet_meaning.specs.Call.{locks_from, lock_at, begun_touch, progress, reply_work, reply_release, ended, release, settled, served, serve, call_step, replied, reply_at}
use Rattle.faaslet_meaning.specs.Bounds.{left_of, access_asks, begun_asks, act_asks, stage_asks, fuel_asks, releases, bound, asks_left}
use Rattle.faaslet_meaning.proofs.Measures.{call_asks, NextAsks}
use Rattle.faaslet_meaning.proofs.Pieces.{when, reading_asks, writing_asks, write_asks}
use Rattle.faaslet_meaning.proofs.Asking.{step_asks, resumed_asks, finished_asks}

-- where a host call is, it asks at most this
abbrev ServedAsks : ℕ → Served → Type 0
ServedAsks n (waits s q) = stage_asks s.stage + fuel_asks s.config ≤ n
ServedAsks n (through s r) = fuel_asks s.config ≤ n
ServedAsks n (no_memory s) = Unit {0}
ServedAsks n misfit = Unit {0}

abbrev Goes : List Act → (Carried → Served) → Type 0
Goes acts go = (n : ℕ) (x : Carried) → total act_asks acts + fuel_asks x.state.config ≤ n → ServedAsks n (go x)

touched : (a : Access) (q : Touch) → touch_of a ≡ Some q → 1 ≤ left_of a
touched (reads at n [] copy) q e = cc
touched (reads at n (p ∷ ps) copy) q e = omega arith
touched (writes [] bs) q e = cc
touched (writes (p ∷ ps) bs) q e = omega arith

-- a reply leaves one piece fewer
answered_asks : (m : Memory) (a : Access) (bs : List ℕ) → left_of (answered m a bs).access + 1 ≤ access_asks a
answered_asks m (reads at n [] copy) bs = omega arith
answered_asks m (reads at n (p ∷ ps) copy) bs = omega arith
answered_asks m (writes [] left) bs = omega arith
answered_asks m (writes (p ∷ ps) left) bs = let some = write_asks ps m (drop p.size left) in omega arith

begun_some : (b : Begun) → 1 ≤ begun_asks b
begun_some (load l a) = omega arith
begun_some (store a) = omega arith

lock_few : (s : State) (t : Tier) (k : ℕ) → length (lock_at s t k) ≤ 1
lock_few s t k = when (λ ls. length ls ≤ 1) (holds s t k) _ _ (λ e. omega arith) (λ e. omega arith)

-- an act that asks is counted
act_some : (j : Invocation) (x : Carried) (a : Act) (q : Question) → question_of j x a ≡ Some q → 1 ≤ act_asks a
act_some j x (buffer_in ptr len) q e = let f : ⊥ = cc in absurd f
act_some j x (buffer_out ptr len) q e = let f : ⊥ = cc in absurd f
act_some j x (passing a) q e = let f : ⊥ = cc in absurd f
act_some j x (map k) q e = let f : ⊥ = cc in absurd f
act_some j x (take_input off len) q e = let f : ⊥ = cc in absurd f
act_some j x give_output q e = let f : ⊥ = cc in absurd f
act_some j x (gives n) q e = let f : ⊥ = cc in absurd f
act_some j x _ q e = omega arith

-- a buffer that goes on
passed_asks : (j : Invocation) (acts : List Act) (go : Carried → Served) → Goes acts go → (n : ℕ) (x : Carried) (w : Written) → left_of w.access + total act_asks acts + fuel_asks x.state.config ≤ n → ServedAsks n (passed j acts go x w)
passed_asks j acts go goes_on n x w h = by (touch_of w.access) refl
  where
    by : (o : Option Touch) → touch_of w.access ≡ o → ServedAsks n (elim o [ None ↦ go (record (with_memory x w.memory) { held = kept x.held w.access }) | Some t ↦ stands (passing w.access ∷ acts) (with_memory x w.memory) (touch_question j t) ])
    by None e = goes_on n (record (with_memory x w.memory) { held = kept x.held w.access }) (omega arith)
    by (Some t) e = let some = touched w.access t e in omega arith

act_goes : (j : Invocation) (a : Act) (acts : List Act) (go : Carried → Served) → Goes acts go → (n : ℕ) (x : Carried) → act_asks a + total act_asks acts + fuel_asks x.state.config ≤ n → ServedAsks n (does j a acts go x)
act_goes j (buffer_in ptr len) acts go on n x h = passed_asks j acts go on n x (record { memory = x.state.config.memory; access = reading x.state.config.memory ptr len }) (let some = reading_asks x.state.config.memory ptr len in omega arith)
act_goes j (buffer_out ptr len) acts go on n x h = passed_asks j acts go on n x (writing x.state.config.memory ptr (take len x.held)) (let some = writing_asks x.state.config.memory ptr (take len x.held) in omega (arith, length-take len x.held))
act_goes j (passing a) acts go on n x h = passed_asks j acts go on n x (record { memory = x.state.config.memory; access = a }) (omega arith)
act_goes j (map k) acts go on n x h = on n (mapped_at x k (key_pages (key_size j k)) (pages_of x.state.config.memory.segments * page_size)) (omega arith)
act_goes j (take_input off len) acts go on n x h = on n (record x { held = slice_range j.input off (off + len) }) (omega arith)
act_goes j give_output acts go on n x h = on n (record x { state = record x.state { output = x.state.output ++ x.held } }) (omega arith)
act_goes j (gives k) acts go on n x h = on n (record x { result = Some k }) (omega arith)
act_goes j _ acts go on n x h = on n x (omega arith)

go_asks : (j : Invocation) (acts : List Act) → Goes acts (go_on j acts)
go_asks j [] n x h = omega arith
go_asks j (a ∷ acts) n x h = asks_or (question_of j x a) refl (act_goes j a acts (go_on j acts) (go_asks j acts) n x (omega arith))
  where
    asks_or : (o : Option Question) → question_of j x a ≡ o → ServedAsks n (does j a acts (go_on j acts) x) → ServedAsks n (elim o [ Some q ↦ stands (a ∷ acts) x q | None ↦ does j a acts (go_on j acts) x ])
    asks_or None e k = k
    asks_or (Some q) e k = let some = act_some j x a q e in omega arith

-- the reply to the first act lowers what is left
act_replied : (j : Invocation) (a : Act) (acts : List Act) (n : ℕ) (x : Carried) (reply : Reply) → max 1 (act_asks a + total act_asks acts) + fuel_asks x.state.config ≤ n + 1 → ServedAsks n (reply_to j a acts x reply)
act_replied j (presence k) acts n x (Reply.present true) h = go_asks j acts n (seen k x) (omega arith)
act_replied j (presence k) acts n x (Reply.present false) h = go_asks j (fill k ∷ acts) n x (omega arith)
act_replied j (fill k) acts n x (Reply.bytes bs) h = go_asks j acts n (seen k x) (omega arith)
act_replied j (passing a) acts n x (Reply.bytes bs) h = let less = answered_asks x.state.config.memory a bs in passed_asks j acts (go_on j acts) (go_asks j acts) n x (answered x.state.config.memory a bs) (omega arith)
act_replied j (passing a) acts n x Reply.done h = let less = answered_asks x.state.config.memory a [] in passed_asks j acts (go_on j acts) (go_asks j acts) n x (answered x.state.config.memory a []) (omega arith)
act_replied j (local_read k off len) acts n x (Reply.bytes bs) h = go_asks j acts n (with_held bs x) (omega arith)
act_replied j (local_write k off) acts n x Reply.done h = go_asks j acts n x (omega arith)
act_replied j (push k off len) acts n x (Reply.bytes bs) h = go_asks j acts n x (omega arith)
act_replied j (pull k off len) acts n x (Reply.bytes bs) h = go_asks j acts n x (omega arith)
act_replied j (used k) acts n x (Reply.number v) h = go_asks j acts n (with_result v x) (omega arith)
act_replied j (append k) acts n x (Reply.number v) h = go_asks j acts n (with_result v x) (omega arith)
act_replied j (append k) acts n x Reply.full h = omega arith
act_replied j (lock_read t k) acts n x Reply.done h = go_asks j acts n (with_lock t k x) (omega arith)
act_replied j (lock_write t k) acts n x Reply.done h = go_asks j acts n (with_lock t k x) (omega arith)
act_replied j (unlock t k) acts n x Reply.done h = go_asks j acts n (less_lock t k x) (omega arith)
act_replied j (submit f) acts n x (Reply.child v) h = go_asks j acts n (with_result v (with_child x)) (omega arith)
act_replied j (submit f) acts n x Reply.chain_full h = omega arith
act_replied j (await c) acts n x (Reply.finished o bs) h = go_asks j acts n (with_result (await_answer o) (note c (length bs) x)) (omega arith)
act_replied j (look c off len) acts n x (Reply.finished o bs) h = go_asks j acts n (with_held (slice_range bs off (off + len)) (note c (length bs) x)) (omega arith)
act_replied j _ acts n x reply h = tt

locks_few : (s : State) (n k : ℕ) → length (locks_from s n k) ≤ 2 * n
locks_few s zero k = omega arith
locks_few s (suc n) k =
    let rest = locks_few s n (k + 1) in
    omega (arith, length-append (lock_at s local k) (lock_at s global k ++ locks_from s n (k + 1)), length-append (lock_at s global k) (locks_from s n (k + 1)), lock_few s local k, lock_few s global k)

ended_bound : (j : Invocation) (s : State) (o : Outcome) → bound j (ended j s o) ≤ releases j
ended_bound j s o = by (locks_from s (length j.program.grants) 0) (locks_few s (length j.program.grants) 0)
  where
    by : (ls : List Lock) → length ls ≤ 2 * length j.program.grants → bound j (release j s o ls) ≤ releases j
    by [] h = omega arith
    by (l ∷ ls) h = omega arith

settled_bound : (j : Invocation) (s : State) (x : Next) (n : ℕ) → NextAsks n x → bound j (settled j s x) ≤ n + releases j
settled_bound j s (goes c) n h = omega arith
settled_bound j s (ends c o) n h = let few = ended_bound j (record s { config = c; stage = running }) o in omega arith
settled_bound j s (touches c b) n h = by (begun_touch b)
  where
    by : (t : Option Touch) → bound j (elim t [ None ↦ lost | Some q ↦ asks (record s { config = c; stage = touching b }) (touch_question j q) ]) ≤ n + releases j
    by None = omega arith
    by (Some q) = omega arith
settled_bound j s (calls c h) n k = omega arith
settled_bound j s stuck n h = omega arith

asks_most : (j : Invocation) (s : State) (st : Stage) → asks_left j s st ≤ stage_asks st + fuel_asks s.config + releases j
asks_most j s running = omega arith
asks_most j s (touching b) = omega arith
asks_most j s (calling w) = omega arith
asks_most j s (releasing ls o) = omega arith

served_bound : (j : Invocation) (x : Served) (n : ℕ) → ServedAsks n x → bound j (served j x) ≤ n + releases j
served_bound j (waits s q) n h = let most = asks_most j s s.stage in omega arith
served_bound j (through s r) n h = settled_bound j s (finished s.config r) n (finished_asks n s.config r h)
served_bound j (no_memory s) n h = let few = ended_bound j s outcome.Want in omega arith
served_bound j misfit n h = omega arith

address_few : (k : ℕ) (o : Option ℕ) → total act_asks (address_or_map k o) ≤ 3
address_few k (Some a) = omega arith
address_few k None = omega arith

operations_few : (j : Invocation) (s : State) (h : HostCall) → total act_asks (operations j s h) ≤ call_asks (buffer_of h)
operations_few j s (state_size k) = omega arith
operations_few j s (state_used k) = omega arith
operations_few j s (get_state k) = address_few k (address_of s k)
operations_few j s (read_state k off ptr len) = omega arith
operations_few j s (set_state k off ptr len) = omega arith
operations_few j s (push_state k) = omega arith
operations_few j s (pull_state k) = omega arith
operations_few j s (push_state_offset k off len) = omega arith
operations_few j s (pull_state_offset k off len) = omega arith
operations_few j s (append_state k ptr len) = omega arith
operations_few j s (lock_state_read k) = omega arith
operations_few j s (lock_state_write k) = omega arith
operations_few j s (unlock_state k) = omega arith
operations_few j s (lock_global_read k) = omega arith
operations_few j s (lock_global_write k) = omega arith
operations_few j s (unlock_global k) = omega arith
operations_few j s input_size = omega arith
operations_few j s (read_input off ptr len) = omega arith
operations_few j s (write_output ptr len) = omega arith
operations_few j s (chain_call f ptr len) = omega arith
operations_few j s (await_call c) = omega arith
operations_few j s (output_size c) = omega arith
operations_few j s (read_output c off ptr len) = omega arith

serve_bound : (j : Invocation) (s : State) (h : HostCall) (n : ℕ) → call_asks (buffer_of h) + fuel_asks s.config ≤ n → bound j (serve j s h) ≤ n + releases j
serve_bound j s h n k = by (first_trap j s (checks h))
  where
    by : (o : Option Trap) → bound j (elim o [ Some t ↦ served j (through s (Err t)) | None ↦ served j (go_on j (operations j s h) (record { held = []; result = None; state = s })) ]) ≤ n + releases j
    by (Some t) = served_bound j (through s (Err t)) n (omega arith)
    by None = served_bound j (go_on j (operations j s h) (record { held = []; result = None; state = s })) n (let few = operations_few j s h in go_asks j (operations j s h) n (record { held = []; result = None; state = s }) (omega arith))

turn_bound : (j : Invocation) (s : State) (x : Next) (n : ℕ) → NextAsks n x → bound j (progress j s x) ≤ n + releases j
turn_bound j s (goes c) n h = settled_bound j s (goes c) n h
turn_bound j s (ends c o) n h = settled_bound j s (ends c o) n h
turn_bound j s (touches c b) n h = settled_bound j s (touches c b) n h
turn_bound j s (calls c k) n h = serve_bound j (record s { config = c }) k n h
turn_bound j s stuck n h = omega arith

-- no step raises the bound
pub step_bound : (j : Invocation) (s : State) → bound j (call_step j s) ≤ bound j (runs s)
step_bound j s = turn_bound j s (step j.program s.config) (fuel_asks s.config) (step_asks (fuel_asks s.config) j.program s.config (omega arith))

work_bound : (j : Invocation) (s : State) (acts : List Act) (held : List ℕ) (r : Option ℕ) (q : Reply) → bound j (reply_work j s (record { acts = acts; held = held; result = r }) q) < max 1 (total act_asks acts) + fuel_asks s.config + releases j
work_bound j s [] held r q = omega arith
work_bound j s (a ∷ acts) held r q =
    let n = max 1 (act_asks a + total act_asks acts) + fuel_asks s.config - 1 in
    let less = served_bound j (reply_to j a acts (record { held = held; result = r; state = s }) q) n (act_replied j a acts n (record { held = held; result = r; state = s }) q (omega arith)) in
    omega arith

release_bound : (j : Invocation) (s : State) (ls : List Lock) (o : Outcome) → bound j (reply_release j s ls o) < max 1 (length ls)
release_bound j s [] o = omega arith
release_bound j s (l ∷ []) o = omega arith
release_bound j s (l ∷ k ∷ ls) o = omega arith

touch_bound : (j : Invocation) (s : State) (b : Begun) (bs : List ℕ) → bound j (settled j s (resumed s.config b bs)) < asks_left j s (touching b)
touch_bound j s b bs =
    let n = begun_asks b + fuel_asks s.config - 1 in
    let some = begun_some b in
    let less = settled_bound j s (resumed s.config b bs) n (resumed_asks n s.config b bs (omega arith)) in
    omega arith

lost_bound : (j : Invocation) (s : State) (st : Stage) → 0 < asks_left j s st
lost_bound j s running = omega arith
lost_bound j s (touching b) = let some = begun_some b in omega arith
lost_bound j s (calling w) = omega arith
lost_bound j s (releasing ls o) = omega arith

stage_bound : (j : Invocation) (s : State) (st : Stage) (q : Reply) → bound j (reply_at j s st q) < asks_left j s st
stage_bound j s (touching b) (Reply.bytes bs) = touch_bound j s b bs
stage_bound j s (touching b) Reply.done = touch_bound j s b []
stage_bound j s (calling w) q = work_bound j s w.acts w.held w.result q
stage_bound j s (releasing ls o) Reply.done = release_bound j s ls o
stage_bound j s st q = lost_bound j s st

-- each reply lowers it
pub reply_bound : (j : Invocation) (s : State) (q : Question) (r : Reply) → bound j (replied j s r) < bound j (asks s q)
reply_bound j s q r = stage_bound j s s.stage r
