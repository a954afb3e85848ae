-- A Faaslet whose machine stands at a host call, at a shared piece or at its end, before and after a step. This project's own.
use Rattle.std.specs.Prelude.{◌≡◌, ℕ, ◌<◌, ◌^◌, All, Bool, false, true, IsTrue, List, Ok, Option, Result, Some, is_some, length}
use Rattle.call_laws.specs.HostAsks.{call_numbers}
use Rattle.faaslet_meaning.specs.declared.ask.Ask.{Ask}
use Rattle.faaslet_meaning.specs.declared.ask.Ask.TheVariants as an_ask
use Rattle.faaslet_meaning.specs.declared.ask.AskOp.{AskOp}
use Rattle.faaslet_meaning.specs.declared.ask.AskOp.TheVariants as op
use Rattle.faaslet_meaning.specs.declared.ask.Reply.{Reply}
use Rattle.faaslet_meaning.specs.declared.grant.Channel.TheVariants as a_channel
use Rattle.faaslet_meaning.specs.declared.grant.Grant.{Grant}
use Rattle.faaslet_meaning.specs.declared.outcome.Outcome.{Outcome}
use Rattle.faaslet_meaning.specs.declared.outcome.Trap.{Trap}
use Rattle.faaslet_meaning.specs.Asked.{question_at}
use Rattle.faaslet_meaning.specs.Asks.{RepliesAs}
use Rattle.faaslet_meaning.specs.Call.{fits, locks_from, release, replied, serve, settled}
use Rattle.faaslet_meaning.specs.CallState.{Invocation, Lock, State, Progress, runs}
use Rattle.faaslet_meaning.specs.Channels.{Question, Reply as Answer, Transcript}
use Rattle.faaslet_meaning.specs.Configuration.{Begun, calls, touches}
use Rattle.faaslet_meaning.specs.Fine.{has_result}
use Rattle.faaslet_meaning.specs.Formed.{Formed, IsTied}
use Rattle.faaslet_meaning.specs.Goes.{Goes}
use Rattle.faaslet_meaning.specs.HostCalls.{HostCall}
use Rattle.faaslet_meaning.specs.Step.{finished}
use Rattle.host_calls.specs.CallHosts.{HasShort}
use Rattle.host_calls.specs.Calls.{Comes, GivesSo, HasInput, IsBegun, gives_result}
use Rattle.host_calls.specs.Known.{KeepsOf}
use Rattle.host_calls.specs.Reads.{key_of}
use Rattle.host_calls.specs.States as on_state
use Rattle.host_calls.specs.declared.call_call.CallStage.{CallStage}
use Rattle.host_calls.specs.declared.call_call.CallStep.{CallStep}
use Rattle.host_calls.specs.declared.state_call.StateStage.{StateStage}
use Rattle.host_calls.specs.declared.state_call.StateStep.{StateStep}
use Rattle.wasm_interp.specs.StandsFor.{AsksHost, EventIs}
use Rattle.wasm_interp.specs.declared.machine.Event.TheVariants as event
use Rattle.wasm_interp.specs.declared.machine.HostAsk.{HostAsk}
use Rattle.wasm_interp.specs.declared.machine.PieceAsk.{PieceAsk}
use Rattle.faaslet_run.specs.Counted.{counted}
use Rattle.faaslet_run.specs.Places.{IsCalled, Keeps, Stands, StandsBy, WorkIs, here_of, state_here_of}
use Rattle.faaslet_run.specs.declared.faaslet.Faaslet.{Faaslet}
use Rattle.faaslet_run.specs.declared.faaslet.Work.{Work}

-- all numbers of a host call are those of an i32
abbrev pub HasSmall : HostCall → Type 0
HasSmall h = All (λ n. n < 2 ^ 32) (call_numbers h)

-- a call has come to this point, about which nothing is said yet
pub record IsAmidst (f : Faaslet) (j : Invocation) (start : State) (transcript : Transcript) (p : Progress) : Type 0 where
  pub formed : Formed j start
  pub way : Goes j (runs start) transcript p
  pub called : IsCalled f.called f.input j
  pub counts : f.counts ≡ counted j.program.grants transcript

-- ---- A host call

-- the machine stands at this host call, in this state
pub record StandsHost (f : Faaslet) (j : Invocation) (given : ℕ) (s : State) (h : HostCall) : Type 0 where
  pub stands : Stands f.machine j given (calls s.config h)
  pub memory : s.config.memory ≡ f.machine.memory.memory
  pub keeps : Keeps f.known f.keys f.output s

-- the machine stands at a host call, of which nothing was done, and what is mapped is what the state says
pub record AtHost (f : Faaslet) (j : Invocation) (start : State) (transcript : Transcript) (s : State) (h : HostCall) : Type 0 where
  pub amidst : IsAmidst f j start transcript (serve j s h)
  pub at : StandsHost f j start.config.fuel s h
  pub tied : IsTied s.config.memory.segments s.mapped

-- and it is asked with these arguments, which are those of an i32, with a buffer that is short enough
pub record AsksThat (ask : HostAsk) (h : HostCall) : Type 0 where
  pub asks : AsksHost ask h
  pub short : HasShort h
  pub small : HasSmall h

-- the checks of places and limits have passed
pub record HasBegun (j : Invocation) (s : State) (h : HostCall) (t : CallStage) : Type 0 where
  pub begun : IsBegun t j s h
  pub gives : gives_result t ≡ has_result h
  pub input : HasInput t j.input

pub record StateHasBegun (f : Faaslet) (j : Invocation) (s : State) (h : HostCall) (t : StateStage) : Type 0 where
  pub begun : on_state.IsBegun t j s h
  pub gives : on_state.gives_result t ≡ has_result h
  pub fresh : on_state.IsFresh t (length j.program.grants) f.keys

-- a step of the host call was done, and told this
pub record HasCome (f : Faaslet) (j : Invocation) (start : State) (transcript : Transcript) (p : Progress) (told : CallStep) (t : CallStage) : Type 0 where
  pub amidst : IsAmidst f j start transcript p
  pub state : State
  pub host : HostCall
  pub stands : Stands f.machine j start.config.fuel (calls (record state.config { memory = f.machine.memory.memory }) host)
  pub keys : KeepsOf f.keys state
  pub output : state.output ≡ f.output
  pub comes : Comes j state p told t (here_of f)
  pub gives : GivesSo (has_result host) told t

pub record StateHasCome (f : Faaslet) (j : Invocation) (start : State) (transcript : Transcript) (p : Progress) (told : StateStep) (t : StateStage) : Type 0 where
  pub amidst : IsAmidst f j start transcript p
  pub state : State
  pub host : HostCall
  pub stands : Stands f.machine j start.config.fuel (calls (record state.config { memory = f.machine.memory.memory }) host)
  pub children : state.children ≡ f.known
  pub output : state.output ≡ f.output
  pub comes : on_state.Comes j state p told t (state_here_of f)
  pub gives : on_state.GivesSo (has_result host) told t

-- the host call is done, with this result
pub record HasResult (f : Faaslet) (j : Invocation) (start : State) (transcript : Transcript) (p : Progress) (value : Option ℕ) : Type 0 where
  pub amidst : IsAmidst f j start transcript p
  pub state : State
  pub host : HostCall
  pub stands : Stands f.machine j start.config.fuel (calls state.config host)
  pub keeps : Keeps f.known f.keys f.output state
  pub gives : is_some value ≡ has_result host
  pub is : let r : Result (Option ℕ) Trap = Ok value in p ≡ settled j state (finished state.config r)

-- ---- A shared piece

-- what is asked for a piece, of the key with this number
abbrev pub piece_op : Bool → ℕ → ℕ → AskOp
piece_op true off len = op.Write off len
piece_op false off len = op.Read off len

abbrev pub piece_of : List Grant → PieceAsk → Ask
piece_of grants piece = an_ask.Region (a_channel.Local (key_of grants piece.place)) (piece_op piece.write piece.off piece.len)

-- a load or a store stands at it
pub record HasStopped (f : Faaslet) (j : Invocation) (start : State) (transcript : Transcript) (p : Progress) (piece : PieceAsk) : Type 0 where
  pub amidst : IsAmidst f j start transcript p
  pub state : State
  pub begun : Begun
  pub stands : Stands f.machine j start.config.fuel (touches state.config begun)
  pub keeps : Keeps f.known f.keys f.output state
  pub asks : EventIs (event.Piece piece) f.machine.scratch (touches state.config begun)
  pub near : piece.off < 2 ^ 32
  pub is : p ≡ settled j state (touches state.config begun)

-- ---- The end

abbrev pub unlock_of : List Grant → ℕ → Bool → Ask
unlock_of grants place true = an_ask.Region (a_channel.Local (key_of grants place)) op.Unlock
unlock_of grants place false = an_ask.Region (a_channel.Global (key_of grants place)) op.Unlock

-- it has ended so, and these locks are still to be released
pub record HasEnded (f : Faaslet) (j : Invocation) (start : State) (transcript : Transcript) (p : Progress) (o : Outcome) : Type 0 where
  pub amidst : IsAmidst f j start transcript p
  pub state : State
  pub left : List Lock
  pub locks : left ≡ locks_from state (length j.program.grants) 0
  pub machine : StandsBy f.machine j start.config.fuel state
  pub keeps : Keeps f.known f.keys f.output state
  pub is : p ≡ release j state o left

-- ---- A reply

-- to the question at which this stood
pub record HasReply (f : Faaslet) (j : Invocation) (start : State) (transcript : Transcript) (s : State) (q : Question) (r : Answer) (stood : Work) (reply : Reply) : Type 0 where
  pub amidst : IsAmidst f j start transcript (replied j s r)
  pub was : Formed j s
  pub work : WorkIs stood f j start.config.fuel s
  pub asked : question_at j s ≡ Some q
  pub replies : RepliesAs q reply f.machine.scratch r
  pub fit : IsTrue (fits s q r)
