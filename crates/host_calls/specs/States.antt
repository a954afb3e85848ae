-- A host call on state in progress: what the definition has left of it, and what a step of it comes to. This project's own.
use Rattle.std.specs.Prelude.{◌≡◌, ℕ, ◌<◌, ◌≤◌, List, [], ◌∷◌, Option, Some, None, Ok, Err, Result, Bool, true, false, IsTrue, is_some, length, take, if◌then◌else◌}
use Rattle.faaslet_meaning.specs.declared.ask.Ask.{Ask}
use Rattle.faaslet_meaning.specs.declared.ask.Reply.{Reply}
use Rattle.faaslet_meaning.specs.declared.ask.Reply.TheVariants as reply
use Rattle.faaslet_meaning.specs.declared.grant.Grant.{Grant}
use Rattle.faaslet_meaning.specs.declared.grant.Mode.TheVariants as mode
use Rattle.faaslet_meaning.specs.declared.outcome.Trap.{Trap}
use Rattle.faaslet_meaning.specs.Memory.{Memory, mappings, mapping_limit, may_map, key_pages}
use Rattle.faaslet_meaning.specs.HostCalls.{HostCall}
use Rattle.faaslet_meaning.specs.Channels.{Question, Reply as Answer}
use Rattle.faaslet_meaning.specs.CallState.{Invocation, Act, presence, fill, buffer_in, passing, gives, Work, calling, State, Progress}
use Rattle.faaslet_meaning.specs.Checks.{first_trap, limit_checks, memory_checks, lock_limit}
use Rattle.faaslet_meaning.specs.Operations.{operations}
use Rattle.faaslet_meaning.specs.Serve.{Served, waits, through, misfit, Carried, passed, go_on, question_of, reply_to, seen}
use Rattle.faaslet_meaning.specs.Call.{served}
use Rattle.faaslet_meaning.specs.Asks.{question_of_ask}
use Rattle.wasm_interp.specs.declared.machine.Machine.{Machine}
use Rattle.host_calls.specs.declared.span.Span.{Span}
use Rattle.host_calls.specs.declared.state_act.Put.{Put}
use Rattle.host_calls.specs.declared.state_act.Put.TheVariants as put
use Rattle.host_calls.specs.declared.state_act.StateAct.{StateAct}
use Rattle.host_calls.specs.declared.state_act.StateAct.TheVariants as act
use Rattle.host_calls.specs.declared.state_host.StateHost.{StateHost}
use Rattle.host_calls.specs.declared.state_host.StateKind.{StateKind}
use Rattle.host_calls.specs.declared.state_host.StateKind.TheVariants as kind
use Rattle.host_calls.specs.declared.state_known.Known.{Known}
use Rattle.host_calls.specs.declared.state_call.StateStage.{StateStage}
use Rattle.host_calls.specs.declared.state_call.StateStage.TheVariants as stage
use Rattle.host_calls.specs.declared.state_call.StateStep.{StateStep}
use Rattle.host_calls.specs.declared.state_call.StateStep.TheVariants as step
use Rattle.host_calls.specs.Acts.{acts_of, needs_presence, whole_acts, held_for, act_put, map_trap, IsShortAct}
use Rattle.host_calls.specs.Buffers.{IsWithin, reading_on, writing_on, written_on}
use Rattle.host_calls.specs.Calls.{fresh_span, IsFreshSpan, AtPiece}
use Rattle.host_calls.specs.Known.{kept, is_held, KeepsOf}
use Rattle.host_calls.specs.Reads.{buffer_trap, size_of}

-- ---- What the code has beside the host call

pub record Here : Type 0 where
  pub memory : Memory
  pub aside : List ℕ
  pub scratch : List ℕ
  pub known : Known

abbrev pub here : {M : Type 0} (shape : M → Memory) (m : Machine M) (known : Known) → Here
here shape m known = record { memory = shape m.memory; aside = m.aside; scratch = m.scratch; known = known }

-- it has what the state says
pub record IsOf (h : Here) (s : State) : Type 0 where
  pub memory : s.config.memory ≡ h.memory
  pub keeps : KeepsOf h.known s

-- ---- What is left of it

-- before its first step
abbrev pub acts_at : StateStage → List Act
acts_at (stage.Gives n) = gives n ∷ []
acts_at (stage.Collects k p b) = buffer_in b.ptr b.len ∷ whole_acts k (act_put p b.len)
acts_at (stage.Acts k a) = whole_acts k a
acts_at _ = []

-- the trap of what is looked up in memory: the pages that a mapping takes, or its buffer
abbrev pub act_trap : ℕ → StateAct → List Grant → Memory → Option Trap
act_trap k act.Map grants m = map_trap m (size_of grants k)
act_trap k (act.Read off b) grants m = buffer_trap grants m mode.Write b.ptr b.len
act_trap k _ grants m = None

abbrev pub trap_at : StateStage → List Grant → Memory → Option Trap
trap_at (stage.Collects k p b) grants m = buffer_trap grants m mode.Read b.ptr b.len
trap_at (stage.Acts k a) grants m = act_trap k a grants m
trap_at _ grants m = None

-- amid it, at a question
abbrev pub work_of : StateStage → Here → Work
work_of (stage.Gives n) h = record { acts = gives n ∷ []; held = []; result = None }
work_of (stage.Collects k p b) h = record { acts = passing (reading_on h.memory b h.aside) ∷ whole_acts k (act_put p b.len); held = []; result = None }
work_of (stage.Probes k a) h = record { acts = presence k ∷ acts_of k a; held = held_for a h.aside; result = None }
work_of (stage.Fills k a) h = record { acts = fill k ∷ acts_of k a; held = held_for a h.aside; result = None }
work_of (stage.Acts k a) h = record { acts = acts_of k a; held = held_for a h.aside; result = None }
work_of (stage.Sends b) h = record { acts = passing (writing_on h.memory b h.aside) ∷ []; held = take b.len h.aside; result = None }

-- Before its first step: nothing of its buffer is through, its place is one of so many, and what it does keeps the limits.
abbrev pub IsFreshAct : StateAct → ℕ → Known → Type 0
IsFreshAct act.Map k known = known.mappings < mapping_limit
IsFreshAct (act.Read off b) k known = IsFreshSpan b
IsFreshAct (act.Write off len) k known = ⊥
IsFreshAct (act.Append len) k known = ⊥
IsFreshAct (act.Lock t m) k known = (is_held (kept known k) t ≡ false) × (known.locks < lock_limit)
IsFreshAct (act.Unlock t) k known = is_held (kept known k) t ≡ true
IsFreshAct _ k known = Unit {0}

abbrev pub IsFresh : StateStage → ℕ → Known → Type 0
IsFresh (stage.Gives n) count known = Unit {0}
IsFresh (stage.Collects k p b) count known = (k < count) × IsFreshSpan b
IsFresh (stage.Acts k a) count known = (k < count) × IsFreshAct a k known
IsFresh _ count known = ⊥

-- it is to map a key
abbrev pub is_map : StateAct → Bool
is_map act.Map = true
is_map _ = false

abbrev pub maps : StateStage → Bool
maps (stage.Acts k a) = is_map a
maps _ = false

-- nothing of its buffer is through, where it has one
abbrev pub IsShortStage : StateStage → Type 0
IsShortStage (stage.Collects k p b) = IsFreshSpan b
IsShortStage (stage.Acts k a) = IsShortAct a
IsShortStage _ = Unit {0}

-- it may be done
abbrev pub IsReady : StateAct → ℕ → List Grant → Known → Memory → Type 0
IsReady act.Map k grants known m = (known.mappings < mapping_limit) × (mappings m < mapping_limit) × (1 ≤ size_of grants k) × IsTrue (may_map m (key_pages (size_of grants k)))
IsReady (act.Read off b) k grants known m = IsFreshSpan b × IsWithin m b
IsReady (act.Write off len) k grants known m = len ≤ 65536
IsReady (act.Append len) k grants known m = len ≤ 65536
IsReady (act.Lock t o) k grants known m = (is_held (kept known k) t ≡ false) × (known.locks < lock_limit)
IsReady (act.Unlock t) k grants known m = is_held (kept known k) t ≡ true
IsReady _ k grants known m = Unit {0}

pub record IsAct (a : StateAct) (k : ℕ) (grants : List Grant) (known : Known) (m : Memory) : Type 0 where
  pub place : k < length grants
  pub ready : IsReady a k grants known m

-- it stands at a question
abbrev pub AtQuestion : StateStage → List Grant → Known → Memory → Type 0
AtQuestion (stage.Gives n) grants known m = ⊥
AtQuestion (stage.Collects k p b) grants known m = (k < length grants) × AtPiece m b
AtQuestion (stage.Probes k a) grants known m = (needs_presence a ≡ true) × IsAct a k grants known m
AtQuestion (stage.Fills k a) grants known m = (needs_presence a ≡ true) × IsAct a k grants known m
AtQuestion (stage.Acts k a) grants known m = IsAct a k grants known m
AtQuestion (stage.Sends b) grants known m = AtPiece m b

-- ---- The relations between a call of the code and the definition

-- the machine stands at this host call, whose checks of places, modes, ranges and limits have passed, and nothing of it was done
pub record IsBegun (t : StateStage) (j : Invocation) (s : State) (h : HostCall) : Type 0 where
  pub acts : operations j s h ≡ acts_at t
  pub passed : first_trap j s (limit_checks h) ≡ None
  pub memory : first_trap j s (memory_checks h) ≡ trap_at t j.program.grants s.config.memory

-- the call stands at a question inside a host call
pub record IsAmid (t : StateStage) (h : Here) (s : State) : Type 0 where
  pub stage_is : s.stage ≡ calling (work_of t h)

-- a reply that belongs to the question at which a call stands
abbrev pub ActBelongs : StateAct → Reply → Type 0
ActBelongs (act.Read off b) (reply.Bytes n) = n ≡ b.len
ActBelongs (act.Write off len) reply.Done = Unit {0}
ActBelongs (act.Push off len) reply.Done = Unit {0}
ActBelongs (act.Pull off len) reply.Done = Unit {0}
ActBelongs act.Used (reply.Number n) = Unit {0}
ActBelongs (act.Append len) (reply.Number n) = Unit {0}
ActBelongs (act.Append len) reply.Full = Unit {0}
ActBelongs (act.Lock t m) reply.Done = Unit {0}
ActBelongs (act.Unlock t) reply.Done = Unit {0}
ActBelongs _ r = ⊥

abbrev pub Belongs : StateStage → Reply → Type 0
Belongs (stage.Collects k p b) (reply.Bytes n) = n ≡ b.next
Belongs (stage.Probes k a) (reply.Present is_so) = Unit {0}
Belongs (stage.Fills k a) reply.Done = Unit {0}
Belongs (stage.Acts k a) r = ActBelongs a r
Belongs (stage.Sends b) reply.Done = Unit {0}
Belongs _ r = ⊥

-- ---- What a step comes to

-- The state t is s with what the code has: its memory, and what it keeps of keys and locks. All else is as in s.
pub record IsNow (s t : State) (h : Here) : Type 0 where
  pub only : t ≡ record s { config = record s.config { memory = h.memory }; present = t.present; mapped = t.mapped; locks = t.locks }
  pub keeps : KeepsOf h.known t

-- it asks this, and the definition waits for it
pub record AsksIt (j : Invocation) (s : State) (v : Served) (a : Ask) (t : StateStage) (h : Here) : Type 0 where
  pub state : State
  pub question : Question
  pub asked : question_of_ask j a h.scratch ≡ Some question
  pub comes : v ≡ waits (record state { stage = calling (work_of t h) }) question
  pub now : IsNow s state h
  pub at : AtQuestion t j.program.grants h.known h.memory

-- it is through
pub record EndsIt (s : State) (v : Served) (result : Result (Option ℕ) Trap) (h : Here) : Type 0 where
  pub state : State
  pub comes : v ≡ through state result
  pub now : IsNow s state h

-- what the code's step tells is what the definition comes to
abbrev pub Shows : Invocation → State → Served → StateStep → StateStage → Here → Type 0
Shows j s v (step.Ask a) t h = AsksIt j s v a t h
Shows j s v (step.Done o) t h = EndsIt s v (Ok o) h
Shows j s v (step.Trap x) t h = EndsIt s v (Err x) h

-- the call comes to this, and the code's step tells it
pub record Comes (j : Invocation) (s : State) (p : Progress) (told : StateStep) (t : StateStage) (h : Here) : Type 0 where
  pub at : Served
  pub comes : p ≡ served j at
  pub shows : Shows j s at told t h

-- ---- The parts that a step is made of

-- the stage of a host call that begins
abbrev pub stage_by : ℕ → ℕ → Option ℕ → StateKind → StateStage
stage_by k size address kind.Size = stage.Gives size
stage_by k size address kind.Used = stage.Acts k act.Used
stage_by k size None kind.Get = stage.Acts k act.Map
stage_by k size (Some a) kind.Get = stage.Gives a
stage_by k size address (kind.Read off ptr len) = stage.Acts k (act.Read off (fresh_span ptr len))
stage_by k size address (kind.Set off ptr len) = stage.Collects k (put.At off) (fresh_span ptr len)
stage_by k size address kind.Push = stage.Acts k (act.Push 0 size)
stage_by k size address kind.Pull = stage.Acts k (act.Pull 0 size)
stage_by k size address (kind.PushPart off len) = stage.Acts k (act.Push off len)
stage_by k size address (kind.PullPart off len) = stage.Acts k (act.Pull off len)
stage_by k size address (kind.Append ptr len) = stage.Collects k put.Behind (fresh_span ptr len)
stage_by k size address (kind.Lock t m) = stage.Acts k (act.Lock t m)
stage_by k size address (kind.Unlock t) = stage.Acts k (act.Unlock t)

abbrev pub stage_of : List Grant → Known → StateHost → StateStage
stage_of grants known x = stage_by x.place (size_of grants x.place) (kept known x.place).address x.kind

-- holds these bytes, and has no result yet
abbrev pub holding : List ℕ → State → Carried
holding held s = record { held = held; result = None; state = s }

-- what the first of these acts is asked, and what a reply to it comes to
abbrev pub first_question : Invocation → Carried → List Act → Option Question
first_question j x [] = None
first_question j x (a ∷ acts) = question_of j x a

abbrev pub first_reply : Invocation → Carried → List Act → Answer → Served
first_reply j x [] answer = misfit
first_reply j x (a ∷ acts) answer = reply_to j a acts x answer

-- acts on a key go on
abbrev pub goes : Invocation → State → Here → List Act → StateAct → Served
goes j s h acts a = go_on j acts (holding (held_for a h.aside) s)

-- a buffer out goes on, with which the call ends
abbrev pub sends : Invocation → State → Here → Span → Served
sends j s h b = passed j [] (go_on j []) (holding (take b.len h.aside) s) (written_on h.memory b h.aside)

-- a buffer in goes on, and then comes what is done with it
abbrev pub collecting : Invocation → State → Here → ℕ → Put → Span → Served
collecting j s h k p b = passed j (whole_acts k (act_put p b.len)) (go_on j (whole_acts k (act_put p b.len))) (holding [] s) (record { memory = h.memory; access = reading_on h.memory b h.aside })

-- the key at a place was seen present, and what is done with it goes on
abbrev pub sees : Invocation → State → Here → ℕ → StateAct → Served
sees j s h k a = go_on j (acts_of k a) (seen k (holding (held_for a h.aside) s))

-- the key is present, or is filled
abbrev pub probed : Invocation → State → Here → ℕ → StateAct → Bool → Served
probed j s h k a is_so = if is_so then sees j s h k a else goes j s h (fill k ∷ acts_of k a) a

-- what is done with a key is asked this, and comes to this by a reply
abbrev pub act_carries : State → StateAct → List ℕ → Carried
act_carries s a aside = holding (held_for a aside) s

abbrev pub act_question : Invocation → State → ℕ → StateAct → List ℕ → Option Question
act_question j s k a aside = first_question j (act_carries s a aside) (acts_of k a)

abbrev pub acted : Invocation → State → Here → ℕ → StateAct → Answer → Served
acted j s h k a answer = first_reply j (act_carries s a h.aside) (acts_of k a) answer

-- ---- Whether it ends with a result, where it ends without a trap

abbrev pub act_gives : StateAct → Bool
act_gives act.Map = true
act_gives act.Used = true
act_gives (act.Append len) = true
act_gives _ = false

abbrev pub put_gives : Put → Bool
put_gives (put.At off) = false
put_gives put.Behind = true

abbrev pub gives_result : StateStage → Bool
gives_result (stage.Gives n) = true
gives_result (stage.Collects k p b) = put_gives p
gives_result (stage.Probes k a) = act_gives a
gives_result (stage.Fills k a) = act_gives a
gives_result (stage.Acts k a) = act_gives a
gives_result (stage.Sends b) = false

-- what a step tells has a result where the call has one, and what is left of it at a question does too
abbrev pub GivesSo : Bool → StateStep → StateStage → Type 0
GivesSo b (step.Ask a) t = gives_result t ≡ b
GivesSo b (step.Done o) t = is_some o ≡ b
GivesSo b (step.Trap x) t = Unit {0}
