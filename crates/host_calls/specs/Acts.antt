-- What host calls on state do with a key: the acts of the definition that stand for it, and its question. This project's own.
use Rattle.std.specs.Prelude.{ℕ, Bool, true, false, not, ◌&&◌, List, [], ◌∷◌, Option, Some, None, take, if◌then◌else◌}
use Rattle.faaslet_meaning.specs.declared.ask.Ask.{Ask}
use Rattle.faaslet_meaning.specs.declared.ask.Ask.TheVariants as an_ask
use Rattle.faaslet_meaning.specs.declared.ask.AskOp.{AskOp}
use Rattle.faaslet_meaning.specs.declared.ask.AskOp.TheVariants as op
use Rattle.faaslet_meaning.specs.declared.ask.Move.TheVariants as move
use Rattle.faaslet_meaning.specs.declared.grant.Channel.{Channel}
use Rattle.faaslet_meaning.specs.declared.grant.Channel.TheVariants as a_channel
use Rattle.faaslet_meaning.specs.declared.grant.Mode.{Mode}
use Rattle.faaslet_meaning.specs.declared.grant.Mode.TheVariants as mode
use Rattle.faaslet_meaning.specs.CallState.{Act, presence, local_read, local_write, buffer_out, push, pull, used, append, map, lock_read, lock_write, unlock}
use Rattle.faaslet_meaning.specs.declared.outcome.Trap.{Trap}
use Rattle.faaslet_meaning.specs.declared.outcome.Trap.TheVariants.{MapFull}
use Rattle.faaslet_meaning.specs.Memory.{Memory, may_map, key_pages}
use Rattle.host_calls.specs.Calls.{IsFreshSpan}
use Rattle.host_calls.specs.declared.state_act.Put.{Put}
use Rattle.host_calls.specs.declared.state_act.Put.TheVariants as put
use Rattle.host_calls.specs.declared.state_act.StateAct.{StateAct}
use Rattle.host_calls.specs.declared.state_act.StateAct.TheVariants as act
use Rattle.host_calls.specs.declared.state_known.Tier.{Tier}
use Rattle.host_calls.specs.declared.state_known.Tier.TheVariants as tier
use Rattle.host_calls.specs.declared.state_known.Known.{Known}
use Rattle.host_calls.specs.Known.{kept, tier_of}

abbrev pub lock_act : Mode → Tier → ℕ → Act
lock_act mode.Read t k = lock_read (tier_of t) k
lock_act mode.Write t k = lock_write (tier_of t) k

-- the acts of the definition, on the key at a place
abbrev pub acts_of : ℕ → StateAct → List Act
acts_of k act.Map = map k ∷ []
acts_of k (act.Read off b) = local_read k off b.len ∷ buffer_out b.ptr b.len ∷ []
acts_of k (act.Write off len) = local_write k off ∷ []
acts_of k (act.Push off len) = push k off len ∷ []
acts_of k (act.Pull off len) = pull k off len ∷ []
acts_of k act.Used = used k ∷ []
acts_of k (act.Append len) = append k ∷ []
acts_of k (act.Lock t m) = lock_act m t k ∷ []
acts_of k (act.Unlock t) = unlock (tier_of t) k ∷ []

abbrev pub needs_presence : StateAct → Bool
needs_presence act.Map = true
needs_presence (act.Read off b) = true
needs_presence (act.Write off len) = true
needs_presence (act.Push off len) = true
needs_presence (act.Pull off len) = true
needs_presence _ = false

-- with the presence that comes before
abbrev pub whole_acts : ℕ → StateAct → List Act
whole_acts k a = if needs_presence a then presence k ∷ acts_of k a else acts_of k a

-- it needs presence that was not seen
abbrev pub is_sought : Known → ℕ → StateAct → Bool
is_sought known k a = needs_presence a && not (kept known k).present

-- how many bytes it carries, and which
abbrev pub carried_by : StateAct → ℕ
carried_by (act.Write off len) = len
carried_by (act.Append len) = len
carried_by _ = 0

abbrev pub held_for : StateAct → List ℕ → List ℕ
held_for a aside = take (carried_by a) aside

abbrev pub act_put : Put → ℕ → StateAct
act_put (put.At off) len = act.Write off len
act_put put.Behind len = act.Append len

abbrev pub channel_of : Tier → ℕ → Channel
channel_of tier.Local key = a_channel.Local key
channel_of tier.Global key = a_channel.Global key

abbrev pub lock_op : Mode → AskOp
lock_op mode.Read = op.LockRead
lock_op mode.Write = op.LockWrite

abbrev pub region : Channel → AskOp → Option Ask
region channel o = Some (an_ask.Region channel o)

abbrev pub ask_of : ℕ → StateAct → Option Ask
ask_of key act.Map = None
ask_of key (act.Read off b) = region (a_channel.Local key) (op.Read off b.len)
ask_of key (act.Write off len) = region (a_channel.Local key) (op.Write off len)
ask_of key (act.Push off len) = Some (an_ask.Move key (move.Push off len))
ask_of key (act.Pull off len) = Some (an_ask.Move key (move.Pull off len))
ask_of key act.Used = region (a_channel.Global key) op.Size
ask_of key (act.Append len) = region (a_channel.Global key) (op.Append len)
ask_of key (act.Lock t m) = region (channel_of t key) (lock_op m)
ask_of key (act.Unlock t) = region (channel_of t key) op.Unlock

abbrev pub probe_of : ℕ → Ask
probe_of key = an_ask.Region (a_channel.Local key) op.Probe

abbrev pub fill_of : ℕ → Ask
fill_of key = an_ask.Move key move.Fill

-- the trap where the pages of a key of this size would be more than there may be
abbrev pub map_trap : Memory → ℕ → Option Trap
map_trap m size = if may_map m (key_pages size) then None else Some MapFull

-- nothing of a buffer is through, and it is short enough
abbrev pub IsShortAct : StateAct → Type 0
IsShortAct (act.Read off b) = IsFreshSpan b
IsShortAct _ = Unit {0}
