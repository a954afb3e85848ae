-- Where a Faaslet is in its call: which progress of the definitions it stands for, and how the call came there. This
-- project's own.
use Rattle.std.specs.Prelude.{◌≡◌, ℕ, ◌≤◌, Bool, List, ◌∷◌, Option, Some, None, length, take}
use Rattle.faaslet_meaning.specs.declared.ask.Ask.{Ask}
use Rattle.faaslet_meaning.specs.declared.grant.Channel.{Channel}
use Rattle.faaslet_meaning.specs.declared.module.Module.{Module}
use Rattle.faaslet_meaning.specs.declared.outcome.Outcome.{Outcome}
use Rattle.faaslet_meaning.specs.Call.{locks_from, settled}
use Rattle.faaslet_meaning.specs.CallState.{Invocation, Lock, State, Progress, runs, asks, over, lost, touching, releasing}
use Rattle.faaslet_meaning.specs.Asked.{question_at}
use Rattle.faaslet_meaning.specs.Channels.{Operation, Question, ask, Transcript}
use Rattle.faaslet_meaning.specs.Configuration.{Begun, Configuration, Next, goes, ends, touches, calls}
use Rattle.faaslet_meaning.specs.Fine.{has_result}
use Rattle.faaslet_meaning.specs.Formed.{Formed}
use Rattle.faaslet_meaning.specs.Goes.{Goes}
use Rattle.faaslet_meaning.specs.HostCalls.{HostCall}
use Rattle.faaslet_meaning.specs.Memory.{Memory}
use Rattle.faaslet_meaning.specs.Program.{program_of}
use Rattle.host_calls.specs.Calls.{Here, here, IsAmid, AtQuestion, gives_result}
use Rattle.host_calls.specs.Known.{KeepsOf, lock_of, tier_named}
use Rattle.host_calls.specs.States as on_state
use Rattle.host_calls.specs.declared.call_call.CallStage.{CallStage}
use Rattle.host_calls.specs.declared.state_call.StateStage.{StateStage}
use Rattle.host_calls.specs.declared.state_known.Known.{Known}
use Rattle.region_map.specs.Segments.{Segmented}
use Rattle.wasm_interp.specs.StandsFor.{StandsFor, config_of}
use Rattle.wasm_interp.specs.declared.machine.Machine.{Machine}
use Rattle.faaslet_run.specs.Allowed.{AreGrants}
use Rattle.faaslet_run.specs.Counted.{counted, channels_asked, channels_of}
use Rattle.faaslet_run.specs.declared.faaslet.Called.{Called}
use Rattle.faaslet_run.specs.declared.faaslet.Faaslet.{Faaslet}
use Rattle.faaslet_run.specs.declared.faaslet.Stage.{Stage}
use Rattle.faaslet_run.specs.declared.faaslet.Stage.TheVariants as stages
use Rattle.faaslet_run.specs.declared.faaslet.Work.{Work}
use Rattle.faaslet_run.specs.declared.faaslet.Work.TheVariants as works

abbrev pub shape : Segmented → Memory
shape m = m.memory

-- what a host call on calls has beside it, and what one on state has
abbrev pub here_of : Faaslet → Here
here_of f = here shape f.machine f.known

abbrev pub state_here_of : Faaslet → on_state.Here
state_here_of f = on_state.here shape f.machine f.keys

-- A Faaslet that was started so, with an input at the front of these bytes, was started with the grants, the callable
-- functions, the input and the room of this invocation.
pub record IsCalled (kept : Option Called) (bytes : List ℕ) (j : Invocation) : Type 0 where
  pub called : Called
  pub is_called : kept ≡ Some called
  pub grants : called.grants.now ≡ j.program.grants
  pub allowed : AreGrants j.program.grants
  pub callees : called.callees.now ≡ j.callees
  pub few_callees : length j.callees ≤ 256
  pub input : take called.len bytes ≡ j.input
  pub few_bytes : called.len ≤ 65536
  pub long : length j.input ≡ called.len
  pub room : called.room ≡ j.room
  pub small_room : j.room ≤ 65536

-- the machine stands for this, in the program of the invocation
pub record Stands (m : Machine Segmented) (j : Invocation) (given : ℕ) (next : Next) : Type 0 where
  pub code : Module
  pub program_is : j.program ≡ program_of code j.program.grants
  pub stands : StandsFor shape m code j.program.grants given next

-- it stands somewhere with the fuel of this state
pub record StandsBy (m : Machine Segmented) (j : Invocation) (given : ℕ) (s : State) : Type 0 where
  pub next : Next
  pub config : Configuration
  pub stands : Stands m j given next
  pub config_is : config_of next ≡ Some config
  pub fuel : config.fuel ≡ s.config.fuel

-- what is kept of children, of keys and locks, and of output is the state's
pub record Keeps (known : List (Option ℕ)) (keys : Known) (output : List ℕ) (s : State) : Type 0 where
  pub children : s.children ≡ known
  pub keys_are : KeepsOf keys s
  pub output_is : s.output ≡ output

-- a machine goes on from here, stands at a shared piece, or has ended
abbrev pub IsPlain : Next → Type 0
IsPlain (goes c) = Unit {0}
IsPlain (ends c o) = Unit {0}
IsPlain (touches c b) = Unit {0}
IsPlain _ = ⊥

-- its machine is to run on
pub record RunsOn (f : Faaslet) (j : Invocation) (given : ℕ) (p : Progress) : Type 0 where
  pub state : State
  pub next : Next
  pub stands : Stands f.machine j given next
  pub plain : IsPlain next
  pub keeps : Keeps f.known f.keys f.output state
  pub is : p ≡ settled j state next

-- ---- What stands at a question

-- a host call on calls
pub record CallWaits (f : Faaslet) (j : Invocation) (given : ℕ) (s : State) (t : CallStage) : Type 0 where
  pub host : HostCall
  pub stands : Stands f.machine j given (calls s.config host)
  pub memory : s.config.memory ≡ f.machine.memory.memory
  pub amid : IsAmid t (here_of f) j s
  pub channel : Channel
  pub operation : Operation
  pub asked : question_at j s ≡ Some (ask channel operation)
  pub at : AtQuestion t f.machine.memory.memory
  pub gives : gives_result t ≡ has_result host
  pub keeps : Keeps f.known f.keys f.output s

-- a host call on state
pub record StateWaits (f : Faaslet) (j : Invocation) (given : ℕ) (s : State) (t : StateStage) : Type 0 where
  pub host : HostCall
  pub stands : Stands f.machine j given (calls s.config host)
  pub memory : s.config.memory ≡ f.machine.memory.memory
  pub amid : on_state.IsAmid t (state_here_of f) s
  pub at : on_state.AtQuestion t j.program.grants f.keys f.machine.memory.memory
  pub gives : on_state.gives_result t ≡ has_result host
  pub keeps : Keeps f.known f.keys f.output s

-- a load or a store, at a shared piece
pub record PieceWaits (f : Faaslet) (j : Invocation) (given : ℕ) (s : State) : Type 0 where
  pub begun : Begun
  pub stands : Stands f.machine j given (touches s.config begun)
  pub stage_is : s.stage ≡ touching begun
  pub keeps : Keeps f.known f.keys f.output s

-- the release of the lock at a place, the local one or the global one, after `main` ended so
pub record ReleaseWaits (f : Faaslet) (j : Invocation) (given : ℕ) (s : State) (place : ℕ) (is_local : Bool) (o : Outcome) : Type 0 where
  pub left : List Lock
  pub stage_is : s.stage ≡ releasing (lock_of (tier_named is_local) place ∷ left) o
  pub locks : lock_of (tier_named is_local) place ∷ left ≡ locks_from s (length j.program.grants) 0
  pub machine : StandsBy f.machine j given s
  pub keeps : Keeps f.known f.keys f.output s

abbrev pub WorkIs : Work → Faaslet → Invocation → ℕ → State → Type 0
WorkIs (works.Call call) f j given s = CallWaits f j given s call.stage
WorkIs (works.State call) f j given s = StateWaits f j given s call.stage
WorkIs works.Piece f j given s = PieceWaits f j given s
WorkIs (works.Release place is_local o) f j given s = ReleaseWaits f j given s place is_local o

-- it stands at a question, which is on the channels of this one
pub record Waits (f : Faaslet) (j : Invocation) (given : ℕ) (p : Progress) (w : Work) (a : Ask) : Type 0 where
  pub state : State
  pub question : Question
  pub work : WorkIs w f j given state
  pub kind : channels_asked question ≡ channels_of a
  pub is : p ≡ asks state question

-- it is over
pub record IsOver (f : Faaslet) (j : Invocation) (given : ℕ) (p : Progress) (o : Outcome) : Type 0 where
  pub state : State
  pub machine : StandsBy f.machine j given state
  pub keeps : Keeps f.known f.keys f.output state
  pub is : p ≡ over state o

abbrev pub StageIs : Stage → Faaslet → Invocation → ℕ → Progress → Type 0
StageIs stages.Runs f j given p = RunsOn f j given p
StageIs (stages.Asks w a) f j given p = Waits f j given p w a
StageIs (stages.Over o) f j given p = IsOver f j given p o

-- A call of this invocation, which began with a well-formed state, came to this point with this transcript, and the
-- Faaslet stands for it. Its counts are those of the transcript.
pub record StandsAt (f : Faaslet) (j : Invocation) (start : State) (transcript : Transcript) (p : Progress) : Type 0 where
  pub formed : Formed j start
  pub way : Goes j (runs start) transcript p
  pub called : IsCalled f.called f.input j
  pub counts : f.counts ≡ counted j.program.grants transcript
  pub stage : StageIs f.stage f j start.config.fuel p

-- it stands at the question that `next` told
abbrev pub IsAsking : Stage → Type 0
IsAsking (stages.Asks w a) = Unit {0}
IsAsking _ = ⊥

-- the state of a call, wherever it is
abbrev pub state_of : Progress → Option State
state_of (runs s) = Some s
state_of (asks s q) = Some s
state_of (over s o) = Some s
state_of lost = None
