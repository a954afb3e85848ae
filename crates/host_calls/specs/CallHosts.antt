-- The host calls on calls with their arguments, and the trap of the first of their checks of places and limits that doesn't
-- pass. This project's own.
use Rattle.std.specs.Prelude.{◌≡◌, ℕ, ◌+◌, ◌<◌, ◌≤◌, ◌^◌, List, Option, Some, None, length, is_some, nat_le, nat_lt, slice_index, if◌then◌else◌}
use Rattle.faaslet_meaning.specs.declared.outcome.Trap.{Trap}
use Rattle.faaslet_meaning.specs.declared.outcome.Trap.TheVariants.{BadChild, BadFunction, CallRange, OutputFull}
use Rattle.faaslet_meaning.specs.HostCalls.{HostCall, input_size, read_input, write_output, chain_call, await_call, output_size, read_output, Buffer, buffer_of}
use Rattle.faaslet_meaning.specs.CallState.{Invocation, State}
use Rattle.faaslet_meaning.specs.ControlRules.{buffer_limit}
use Rattle.host_calls.specs.declared.call_host.CallHost.{CallHost}
use Rattle.host_calls.specs.declared.call_host.CallHost.TheVariants as host
use Rattle.host_calls.specs.declared.call_host.CallLimits.{CallLimits}
use Rattle.host_calls.specs.Children.{noted_at}

-- the arguments are below 2 ^ 32
abbrev pub AreSmall : List ℕ → Type 0
AreSmall args = (k : ℕ) → slice_index args k < 2 ^ 32

-- a buffer is no longer than a buffer may be
abbrev pub IsShort : Option Buffer → Type 0
IsShort None = Unit {0}
IsShort (Some b) = b.len ≤ buffer_limit

abbrev pub HasShort : HostCall → Type 0
HasShort h = IsShort (buffer_of h)

abbrev pub host_of : CallHost → HostCall
host_of host.InputSize = input_size
host_of (host.ReadInput off ptr len) = read_input off ptr len
host_of (host.WriteOutput ptr len) = write_output ptr len
host_of (host.ChainCall f ptr len) = chain_call f ptr len
host_of (host.AwaitCall c) = await_call c
host_of (host.OutputSize c) = output_size c
host_of (host.ReadOutput c off ptr len) = read_output c off ptr len

-- what a call knows of itself beside its memory
pub record Knows (j : Invocation) (s : State) (known : List (Option ℕ)) (l : CallLimits) : Type 0 where
  pub children : s.children ≡ known
  pub callees : length j.callees ≡ l.callees
  pub input : length j.input ≡ l.input
  pub output : length s.output ≡ l.output
  pub room : j.room ≡ l.room

-- the first refusal by place or limit
abbrev pub refusal_of : List (Option ℕ) → CallLimits → CallHost → Option Trap
refusal_of known l host.InputSize = None
refusal_of known l (host.ReadInput off ptr len) = if nat_le (off + len) l.input then None else Some CallRange
refusal_of known l (host.WriteOutput ptr len) = if nat_le (l.output + len) l.room then None else Some OutputFull
refusal_of known l (host.ChainCall f ptr len) = if nat_lt f l.callees then None else Some BadFunction
refusal_of known l (host.AwaitCall c) = if nat_lt c (length known) then None else Some BadChild
refusal_of known l (host.OutputSize c) = if is_some (noted_at known c) then None else Some BadChild
refusal_of known l (host.ReadOutput c off ptr len) =
    elim (noted_at known c) [ None ↦ Some BadChild | Some n ↦ if nat_le (off + len) n then None else Some CallRange ]
