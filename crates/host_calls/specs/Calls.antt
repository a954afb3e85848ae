-- A host call on calls in progress: what the definition has left of it, and what a step of it comes to. This project's own.
use Rattle.std.specs.Prelude.{◌≡◌, ℕ, ◌+◌, ◌<◌, ◌≤◌, Bool, true, false, List, [], ◌∷◌, ◌++◌, Option, Some, None, Ok, Err, IsTrue, length, take, unwrap_or, is_some}
use Rattle.faaslet_meaning.specs.declared.ask.Ask.{Ask}
use Rattle.faaslet_meaning.specs.declared.ask.Reply.{Reply}
use Rattle.faaslet_meaning.specs.declared.ask.Reply.TheVariants as reply
use Rattle.faaslet_meaning.specs.declared.grant.Channel.{Channel}
use Rattle.faaslet_meaning.specs.declared.grant.Grant.{Grant}
use Rattle.faaslet_meaning.specs.declared.grant.Mode.TheVariants as mode
use Rattle.faaslet_meaning.specs.declared.outcome.Trap.{Trap}
use Rattle.faaslet_meaning.specs.Memory.{Memory}
use Rattle.faaslet_meaning.specs.HostCalls.{HostCall}
use Rattle.faaslet_meaning.specs.Channels as channels
use Rattle.faaslet_meaning.specs.CallState.{Invocation, Act, buffer_in, buffer_out, passing, take_input, give_output, submit, await, look, gives, Work, calling, State, Progress}
use Rattle.faaslet_meaning.specs.Checks.{first_trap, limit_checks, memory_checks, fits_in}
use Rattle.faaslet_meaning.specs.Operations.{operations}
use Rattle.faaslet_meaning.specs.Serve.{Served, waits, through, no_memory, Carried, passed, go_on}
use Rattle.faaslet_meaning.specs.Call.{served}
use Rattle.faaslet_meaning.specs.Asks.{question_of_ask}
use Rattle.wasm_interp.specs.declared.machine.Machine.{Machine}
use Rattle.host_calls.specs.declared.span.Span.{Span}
use Rattle.host_calls.specs.declared.span.Shared.{Shared}
use Rattle.host_calls.specs.declared.call_host.CallHost.{CallHost}
use Rattle.host_calls.specs.declared.call_host.CallHost.TheVariants as host
use Rattle.host_calls.specs.declared.call_call.CallStage.{CallStage}
use Rattle.host_calls.specs.declared.call_call.CallStage.TheVariants as stage
use Rattle.host_calls.specs.declared.call_call.CallStep.{CallStep}
use Rattle.host_calls.specs.declared.call_call.CallStep.TheVariants as step
use Rattle.host_calls.specs.Buffers.{IsWithin, AtShared, reading_on, writing_on, written_on}
use Rattle.host_calls.specs.Reads.{buffer_trap}
use Rattle.host_calls.specs.Children.{noted_at}

-- ---- What the code has beside the host call

pub record Here : Type 0 where
  pub memory : Memory
  pub aside : List ℕ
  pub scratch : List ℕ
  pub children : List (Option ℕ)

abbrev pub here : {M : Type 0} (shape : M → Memory) (m : Machine M) (children : List (Option ℕ)) → Here
here shape m children = record { memory = shape m.memory; aside = m.aside; scratch = m.scratch; children = children }

-- it has what the state says
pub record IsOf (h : Here) (s : State) : Type 0 where
  pub memory : s.config.memory ≡ h.memory
  pub children : s.children ≡ h.children

-- the state with what the code has, and this output
abbrev pub with_here : State → Here → List ℕ → State
with_here s h output = record s { config = record s.config { memory = h.memory }; children = h.children; output = output }

abbrev pub carried : State → Here → List ℕ → Option ℕ → Carried
carried s h held result = record { held = held; result = result; state = with_here s h s.output }

-- a buffer of which nothing is through
abbrev pub fresh_span : ℕ → ℕ → Span
fresh_span ptr len = record { ptr = ptr; len = len; done = 0; next = 0 }

-- ---- What is left of it

-- before its first step
abbrev pub acts_at : CallStage → List Act
acts_at (stage.Gives n) = gives n ∷ []
acts_at (stage.TakesInput off b) = take_input off b.len ∷ buffer_out b.ptr b.len ∷ []
acts_at (stage.SendsOut b) = []
acts_at (stage.Writes b) = buffer_in b.ptr b.len ∷ give_output ∷ []
acts_at (stage.Chains f b) = buffer_in b.ptr b.len ∷ submit f ∷ []
acts_at (stage.Submits f len) = []
acts_at (stage.Awaits c) = await c ∷ []
acts_at (stage.Looks c off b) = look c off b.len ∷ buffer_out b.ptr b.len ∷ []

-- the check of its buffer, where it has one
abbrev pub trap_at : CallStage → List Grant → Memory → Option Trap
trap_at (stage.TakesInput off b) grants m = buffer_trap grants m mode.Write b.ptr b.len
trap_at (stage.Looks c off b) grants m = buffer_trap grants m mode.Write b.ptr b.len
trap_at (stage.Writes b) grants m = buffer_trap grants m mode.Read b.ptr b.len
trap_at (stage.Chains f b) grants m = buffer_trap grants m mode.Read b.ptr b.len
trap_at _ grants m = None

-- amid it, at a question
abbrev pub work_of : CallStage → Here → Work
work_of (stage.Gives n) h = record { acts = gives n ∷ []; held = []; result = None }
work_of (stage.TakesInput off b) h = record { acts = take_input off b.len ∷ buffer_out b.ptr b.len ∷ []; held = []; result = None }
work_of (stage.SendsOut b) h = record { acts = passing (writing_on h.memory b h.aside) ∷ []; held = take b.len h.aside; result = None }
work_of (stage.Writes b) h = record { acts = passing (reading_on h.memory b h.aside) ∷ give_output ∷ []; held = []; result = None }
work_of (stage.Chains f b) h = record { acts = passing (reading_on h.memory b h.aside) ∷ submit f ∷ []; held = []; result = None }
work_of (stage.Submits f len) h = record { acts = submit f ∷ []; held = take len h.aside; result = None }
work_of (stage.Awaits c) h = record { acts = await c ∷ []; held = []; result = None }
work_of (stage.Looks c off b) h = record { acts = look c off b.len ∷ buffer_out b.ptr b.len ∷ []; held = []; result = None }

-- nothing of its buffer is through, which is short enough
pub record IsFreshSpan (b : Span) : Type 0 where
  pub none : b.done ≡ 0
  pub short : b.len ≤ 65536

abbrev pub IsFresh : CallStage → Type 0
IsFresh (stage.Gives n) = Unit {0}
IsFresh (stage.TakesInput off b) = IsFreshSpan b
IsFresh (stage.Writes b) = IsFreshSpan b
IsFresh (stage.Chains f b) = IsFreshSpan b
IsFresh (stage.Awaits c) = Unit {0}
IsFresh (stage.Looks c off b) = IsFreshSpan b
IsFresh _ = ⊥

-- a buffer that stands at a shared piece
pub record AtPiece (m : Memory) (b : Span) : Type 0 where
  pub within : IsWithin m b
  pub piece : Shared
  pub at : AtShared m b piece

-- it stands at a question
abbrev pub AtQuestion : CallStage → Memory → Type 0
AtQuestion (stage.SendsOut b) m = AtPiece m b
AtQuestion (stage.Writes b) m = AtPiece m b
AtQuestion (stage.Chains f b) m = AtPiece m b
AtQuestion (stage.Submits f len) m = len ≤ 65536
AtQuestion (stage.Awaits c) m = Unit {0}
AtQuestion (stage.Looks c off b) m = IsFreshSpan b × IsWithin m b
AtQuestion _ m = ⊥

-- its arguments are those of a call that passed its checks
abbrev pub IsAllowed : Invocation → List (Option ℕ) → CallStage → Type 0
IsAllowed j children (stage.TakesInput off b) = off + b.len ≤ length j.input
IsAllowed j children (stage.Chains f b) = f < length j.callees
IsAllowed j children (stage.Looks c off b) = IsTrue (fits_in off b.len (noted_at children c))
IsAllowed j children _ = Unit {0}

-- ---- The relations between a call of the code and the definition

-- the machine stands at this host call, whose checks of places and limits have passed, and nothing of it was done
pub record IsBegun (t : CallStage) (j : Invocation) (s : State) (h : HostCall) : Type 0 where
  pub acts : operations j s h ≡ acts_at t
  pub passed : first_trap j s (limit_checks h) ≡ None
  pub memory : first_trap j s (memory_checks h) ≡ trap_at t j.program.grants s.config.memory
  pub allowed : IsAllowed j s.children t

-- the call stands at a question inside a host call
pub record IsAmid (t : CallStage) (h : Here) (j : Invocation) (s : State) : Type 0 where
  pub stage_is : s.stage ≡ calling (work_of t h)
  pub allowed : IsAllowed j h.children t

-- a reply that belongs to the question at which a call stands
abbrev pub Belongs : CallStage → List (Option ℕ) → Reply → Type 0
Belongs (stage.SendsOut b) children reply.Done = Unit {0}
Belongs (stage.Writes b) children (reply.Bytes n) = n ≡ b.next
Belongs (stage.Chains f b) children (reply.Bytes n) = n ≡ b.next
Belongs (stage.Submits f len) children (reply.Child n) = length children < 1023
Belongs (stage.Submits f len) children reply.ChainFull = Unit {0}
Belongs (stage.Submits f len) children reply.Want = Unit {0}
Belongs (stage.Awaits c) children (reply.Finished o n) = n ≤ 65536
Belongs (stage.Looks c off b) children (reply.Finished o n) = (off + b.len ≤ n) × (n ≤ 65536)
Belongs _ children r = ⊥

-- ---- What a step comes to

-- the output once the call is done
abbrev pub output_after : CallStage → Here → List ℕ → List ℕ
output_after (stage.Writes b) h output = output ++ take b.len h.scratch
output_after _ h output = output

-- it asks this, and the definition waits for it
pub record AsksIt (j : Invocation) (s : State) (v : Served) (a : Ask) (t : CallStage) (h : Here) : Type 0 where
  pub channel : Channel
  pub operation : channels.Operation
  pub asked : question_of_ask j a h.scratch ≡ Some (channels.ask channel operation)
  pub comes : v ≡ waits (record (with_here s h s.output) { stage = calling (work_of t h) }) (channels.ask channel operation)
  pub at : AtQuestion t h.memory

-- what the code's step tells is what the definition comes to
abbrev pub Shows : Invocation → State → Served → CallStep → CallStage → Here → Type 0
Shows j s v (step.Ask a) t h = AsksIt j s v a t h
Shows j s v (step.Done o) t h = v ≡ through (with_here s h (output_after t h s.output)) (Ok o)
Shows j s v (step.Trap x) t h = v ≡ through (with_here s h s.output) (Err x)
Shows j s v step.Want t h = v ≡ no_memory (with_here s h s.output)

-- the call comes to this, and the code's step tells it
pub record Comes (j : Invocation) (s : State) (p : Progress) (told : CallStep) (t : CallStage) (h : Here) : Type 0 where
  pub at : Served
  pub comes : p ≡ served j at
  pub shows : Shows j s at told t h
  pub allowed : IsAllowed j h.children t

-- ---- The parts that a step is made of

-- the stage of a host call that begins
abbrev pub stage_of : List (Option ℕ) → ℕ → CallHost → CallStage
stage_of known input host.InputSize = stage.Gives input
stage_of known input (host.ReadInput off ptr len) = stage.TakesInput off (fresh_span ptr len)
stage_of known input (host.WriteOutput ptr len) = stage.Writes (fresh_span ptr len)
stage_of known input (host.ChainCall f ptr len) = stage.Chains f (fresh_span ptr len)
stage_of known input (host.AwaitCall c) = stage.Awaits c
stage_of known input (host.OutputSize c) = stage.Gives (unwrap_or (noted_at known c) 0)
stage_of known input (host.ReadOutput c off ptr len) = stage.Looks c off (fresh_span ptr len)

-- the input has the bytes that it takes
abbrev pub HasInput : CallStage → List ℕ → Type 0
HasInput (stage.TakesInput off b) input = off + b.len ≤ length input
HasInput _ input = Unit {0}

-- whether it ends with a result, where it ends without a trap
abbrev pub gives_result : CallStage → Bool
gives_result (stage.Gives n) = true
gives_result (stage.Chains f b) = true
gives_result (stage.Submits f len) = true
gives_result (stage.Awaits c) = true
gives_result _ = false

abbrev pub EndsSo : Bool → CallStep → Type 0
EndsSo b (step.Done o) = is_some o ≡ b
EndsSo b _ = Unit {0}

-- what a step tells has a result where the call has one, and what is left of it does too
abbrev pub GivesSo : Bool → CallStep → CallStage → Type 0
GivesSo b told t = EndsSo b told × (gives_result t ≡ b)

-- how many bytes it adds to the output
abbrev pub added_by : CallStage → ℕ
added_by (stage.Writes b) = b.len
added_by _ = 0

-- a buffer out goes on, with which the call ends
abbrev pub sends : Invocation → State → Here → Span → Served
sends j s h b = passed j [] (go_on j []) (carried s h (take b.len h.aside) None) (written_on h.memory b h.aside)

-- a buffer in goes on, and then comes what is done with it
abbrev pub reads_then : List Act → Invocation → State → Here → Span → Served
reads_then acts j s h b = passed j acts (go_on j acts) (carried s h [] None) (record { memory = h.memory; access = reading_on h.memory b h.aside })

abbrev pub writes : Invocation → State → Here → Span → Served
writes j s h b = reads_then (give_output ∷ []) j s h b

abbrev pub chains : Invocation → State → Here → ℕ → Span → Served
chains j s h f b = reads_then (submit f ∷ []) j s h b
