-- A host call goes on: one act after another, up to the next question, and what its reply does. This project's own.
use Rattle.std.specs.Prelude.{Bool, ℕ, ◌+◌, ◌*◌, ◌^◌, true, false, List, [], ◌∷◌, ◌++◌, Option, Some, None, Result, Ok, Err, length, take, slice_set, slice_range, slice_get, is_some, find, unwrap_or, option_map, ◌==◌, if◌then◌else◌}
use Rattle.std.specs.Int.{cast_unsigned, w32}
use Rattle.faaslet_meaning.specs.declared.grant.Channel.{Channel}
use Rattle.faaslet_meaning.specs.declared.grant.Channel.TheVariants.{Local, Global, Table}
use Rattle.faaslet_meaning.specs.declared.outcome.Trap.{Trap}
use Rattle.faaslet_meaning.specs.declared.outcome.Trap.TheVariants.{AppendFull, ChainFull}
use Rattle.faaslet_meaning.specs.declared.outcome.Outcome.{Outcome}
use Rattle.faaslet_meaning.specs.declared.outcome.Outcome.TheVariants as outcome
use Rattle.faaslet_meaning.specs.Memory.{key_pages, page_size, Memory, Access, reads, writes, Written, reading, writing, answered, read_bytes, Touch, reads_piece, writes_piece, touch_of, pages_of, with_map}
use Rattle.faaslet_meaning.specs.Channels.{RegionOperation, Operation, on_region, Reply, Question, ask, fills, pulls, pushes}
use Rattle.faaslet_meaning.specs.CallState.{Invocation, Tier, local, global, Act, presence, fill, buffer_in, buffer_out, passing, local_read, local_write, push, pull, used, append, map, lock_read, lock_write, unlock, take_input, give_output, submit, await, look, gives, calling, State, grant_at, without_lock}
use Rattle.faaslet_meaning.specs.Checks.{key_size}

-- Where a host call is: at a question, through with a result or a trap, or at a Submit for which there is no memory. It is a
-- misfit where a reply did not belong to its question.
pub data Served : Type 0 where
  waits : (state : State) (question : Question) → Served
  through : (state : State) (result : Result (Option ℕ) Trap) → Served
  no_memory : (state : State) → Served
  misfit : Served

abbrev pub key_at : Invocation → ℕ → ℕ
key_at j k = unwrap_or (option_map (λ g. g.key) (grant_at j k)) 0

abbrev pub channel : Invocation → Tier → ℕ → Channel
channel j local k = Local (key_at j k)
channel j global k = Global (key_at j k)

-- a shared piece is a local Read or Write
abbrev pub touch_question : Invocation → Touch → Question
touch_question j (reads_piece k off n) = ask (channel j local k) (on_region (RegionOperation.read off n))
touch_question j (writes_piece k off bs) = ask (channel j local k) (on_region (RegionOperation.write off bs))

-- what a host call carries from act to act: the bytes that it holds, its result so far, and the state
pub record Carried : Type 0 where
  pub held : List ℕ
  pub result : Option ℕ
  pub state : State

-- the key was seen present before
abbrev pub is_present : State → ℕ → Bool
is_present s k = is_some (find (λ p. p == k) s.present)

-- What an act asks. Presence that was seen before asks nothing, and 0 bytes are asked like any others.
abbrev pub question_of : Invocation → Carried → Act → Option Question
question_of j x (presence k) = if is_present x.state k then None else Some (ask (channel j local k) (on_region RegionOperation.probe))
question_of j x (fill k) = Some (fills (key_at j k) (key_size j k))
question_of j x (local_read k off len) = Some (ask (channel j local k) (on_region (RegionOperation.read off len)))
question_of j x (local_write k off) = Some (ask (channel j local k) (on_region (RegionOperation.write off x.held)))
question_of j x (push k off len) = Some (pushes (key_at j k) off len)
question_of j x (pull k off len) = Some (pulls (key_at j k) off len)
question_of j x (used k) = Some (ask (channel j global k) (on_region RegionOperation.size))
question_of j x (append k) = Some (ask (channel j global k) (on_region (RegionOperation.append x.held)))
question_of j x (lock_read t k) = Some (ask (channel j t k) (on_region RegionOperation.lock_read))
question_of j x (lock_write t k) = Some (ask (channel j t k) (on_region RegionOperation.lock_write))
question_of j x (unlock t k) = Some (ask (channel j t k) (on_region RegionOperation.unlock))
question_of j x (submit f) = Some (ask Table (Operation.submit (unwrap_or (slice_get j.callees f) 0) x.held))
question_of j x (await c) = Some (ask Table (Operation.look c))
question_of j x (look c off len) = Some (ask Table (Operation.look c))
question_of j x _ = None

-- waits at the first of these acts
abbrev pub stands : List Act → Carried → Question → Served
stands acts x q = waits (record x.state { stage = calling (record { acts = acts; held = x.held; result = x.result }) }) q

-- what is held once a buffer is through: what came in
abbrev pub kept : List ℕ → Access → List ℕ
kept held (reads at n left copy) = read_bytes at n copy
kept held (writes left bytes) = held

abbrev pub with_memory : Carried → Memory → Carried
with_memory x m = record x { state = record x.state { config = record x.state.config { memory = m } } }

-- a buffer that goes on, up to its next shared piece
abbrev pub passed : Invocation → List Act → (Carried → Served) → Carried → Written → Served
passed j acts go x w =
    let y = with_memory x w.memory in
    elim (touch_of w.access) [ None ↦ go (record y { held = kept x.held w.access }) | Some t ↦ stands (passing w.access ∷ acts) y (touch_question j t) ]

abbrev pub mapped_at : Carried → ℕ → ℕ → ℕ → Carried
mapped_at x k n address =
    let y = with_memory x (with_map x.state.config.memory k n) in
    record y { result = Some address; state = record y.state { mapped = (k, address) ∷ x.state.mapped } }

-- what an act does that asks nothing, with the acts behind it and how they go on
abbrev pub does : Invocation → Act → List Act → (Carried → Served) → Carried → Served
does j (buffer_in ptr len) acts go x = passed j acts go x (record { memory = x.state.config.memory; access = reading x.state.config.memory ptr len })
does j (buffer_out ptr len) acts go x = passed j acts go x (writing x.state.config.memory ptr (take len x.held))
does j (passing a) acts go x = passed j acts go x (record { memory = x.state.config.memory; access = a })
does j (map k) acts go x = go (mapped_at x k (key_pages (key_size j k)) (pages_of x.state.config.memory.segments * page_size))
does j (take_input off len) acts go x = go (record x { held = slice_range j.input off (off + len) })
does j give_output acts go x = go (record x { state = record x.state { output = x.state.output ++ x.held } })
does j (gives n) acts go x = go (record x { result = Some n })
does j _ acts go x = go x

abbrev pub go_on : Invocation → List Act → Carried → Served
go_on j [] x = through x.state (Ok x.result)
go_on j (a ∷ acts) x = elim (question_of j x a) [ Some q ↦ stands (a ∷ acts) x q | None ↦ does j a acts (go_on j acts) x ]

-- What a reply makes of the first act: the next one comes, or this one in its place, or the buffer goes on, or the call ends.
pub data After : Type 0 where
  next : (carried : Carried) → After
  instead : (a : Act) → After
  piece : (written : Written) → After
  fails : (trap : Trap) → After
  wants : After
  unfit : After

abbrev pub seen : ℕ → Carried → Carried
seen k x = record x { state = record x.state { present = k ∷ x.state.present } }

abbrev pub with_lock : Tier → ℕ → Carried → Carried
with_lock t k x = record x { state = record x.state { locks = record { tier = t; place = k } ∷ x.state.locks } }

abbrev pub less_lock : Tier → ℕ → Carried → Carried
less_lock t k x = record x { state = without_lock x.state (record { tier = t; place = k }) }

abbrev pub with_child : Carried → Carried
with_child x = record x { state = record x.state { children = x.state.children ++ None ∷ [] } }

abbrev pub note : ℕ → ℕ → Carried → Carried
note c n x = record x { state = record x.state { children = slice_set x.state.children c (Some n) } }

abbrev pub with_result : ℕ → Carried → Carried
with_result n x = record x { result = Some n }

abbrev pub with_held : List ℕ → Carried → Carried
with_held bs x = record x { held = bs }

-- what `await_call` answers: status * 2 ^ 32 + code
abbrev pub await_answer : Outcome → ℕ
await_answer (outcome.Done n) = cast_unsigned w32 n
await_answer (outcome.Trap t) = 2 ^ 32
await_answer outcome.FuelOut = 2 * 2 ^ 32
await_answer (outcome.Broken b) = 3 * 2 ^ 32
await_answer outcome.Want = 4 * 2 ^ 32

abbrev pub after : Act → Carried → Reply → After
after (presence k) x (Reply.present true) = next (seen k x)
after (presence k) x (Reply.present false) = instead (fill k)
after (fill k) x (Reply.bytes bs) = next (seen k x)
after (passing a) x (Reply.bytes bs) = piece (answered x.state.config.memory a bs)
after (passing a) x Reply.done = piece (answered x.state.config.memory a [])
after (local_read k off len) x (Reply.bytes bs) = next (with_held bs x)
after (local_write k off) x Reply.done = next x
after (push k off len) x (Reply.bytes bs) = next x
after (pull k off len) x (Reply.bytes bs) = next x
after (used k) x (Reply.number n) = next (with_result n x)
after (append k) x (Reply.number n) = next (with_result n x)
after (append k) x Reply.full = fails AppendFull
after (lock_read t k) x Reply.done = next (with_lock t k x)
after (lock_write t k) x Reply.done = next (with_lock t k x)
after (unlock t k) x Reply.done = next (less_lock t k x)
after (submit f) x (Reply.child n) = next (with_result n (with_child x))
after (submit f) x Reply.chain_full = fails ChainFull
after (submit f) x Reply.want = wants
after (await c) x (Reply.finished o bs) = next (with_result (await_answer o) (note c (length bs) x))
after (look c off len) x (Reply.finished o bs) = next (with_held (slice_range bs off (off + len)) (note c (length bs) x))
after _ x r = unfit

abbrev pub came_after : Invocation → List Act → Carried → After → Served
came_after j acts x (next y) = go_on j acts y
came_after j acts x (instead b) = go_on j (b ∷ acts) x
came_after j acts x (piece w) = passed j acts (go_on j acts) x w
came_after j acts x (fails t) = through x.state (Err t)
came_after j acts x wants = no_memory x.state
came_after j acts x unfit = misfit

abbrev pub reply_to : Invocation → Act → List Act → Carried → Reply → Served
reply_to j a acts x r = came_after j acts x (after a x r)
