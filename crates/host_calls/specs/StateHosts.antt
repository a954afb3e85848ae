-- The host calls on state with their arguments, and the trap of the first of their checks of places, modes, ranges and limits
-- that doesn't pass. This project's own.
use Rattle.std.specs.Prelude.{ℕ, ◌+◌, Option, Some, None, List, is_some, nat_le, nat_lt, slice_get, ◌||◌, if◌then◌else◌}
use Rattle.faaslet_meaning.specs.declared.grant.Grant.{Grant}
use Rattle.faaslet_meaning.specs.declared.grant.Mode.{Mode}
use Rattle.faaslet_meaning.specs.declared.grant.Mode.TheVariants as mode
use Rattle.faaslet_meaning.specs.declared.outcome.Trap.{Trap}
use Rattle.faaslet_meaning.specs.declared.outcome.Trap.TheVariants.{BadKey, Denied, StateRange, LockMisuse, TooManyLocks, TooManyMappings}
use Rattle.faaslet_meaning.specs.HostCalls.{HostCall, state_size, state_used, get_state, read_state, set_state, push_state, pull_state, push_state_offset, pull_state_offset, append_state, lock_state_read, lock_state_write, unlock_state, lock_global_read, lock_global_write, unlock_global}
use Rattle.faaslet_meaning.specs.Memory.{mapping_limit}
use Rattle.faaslet_meaning.specs.MemoryRules.{includes}
use Rattle.faaslet_meaning.specs.Checks.{lock_limit}
use Rattle.host_calls.specs.declared.state_host.StateHost.{StateHost}
use Rattle.host_calls.specs.declared.state_host.StateKind.{StateKind}
use Rattle.host_calls.specs.declared.state_host.StateKind.TheVariants as kind
use Rattle.host_calls.specs.declared.state_known.Known.{Known}
use Rattle.host_calls.specs.declared.state_known.Tier.TheVariants as tier
use Rattle.host_calls.specs.Known.{kept, is_held}

abbrev pub host_at : ℕ → StateKind → HostCall
host_at k kind.Size = state_size k
host_at k kind.Used = state_used k
host_at k kind.Get = get_state k
host_at k (kind.Read off ptr len) = read_state k off ptr len
host_at k (kind.Set off ptr len) = set_state k off ptr len
host_at k kind.Push = push_state k
host_at k kind.Pull = pull_state k
host_at k (kind.PushPart off len) = push_state_offset k off len
host_at k (kind.PullPart off len) = pull_state_offset k off len
host_at k (kind.Append ptr len) = append_state k ptr len
host_at k (kind.Lock tier.Local mode.Read) = lock_state_read k
host_at k (kind.Lock tier.Local mode.Write) = lock_state_write k
host_at k (kind.Lock tier.Global mode.Read) = lock_global_read k
host_at k (kind.Lock tier.Global mode.Write) = lock_global_write k
host_at k (kind.Unlock tier.Local) = unlock_state k
host_at k (kind.Unlock tier.Global) = unlock_global k

abbrev pub host_of : StateHost → HostCall
host_of x = host_at x.place x.kind

-- the mode that the grant must have
abbrev pub needs_of : StateKind → Mode
needs_of kind.Size = mode.Read
needs_of kind.Used = mode.Read
needs_of kind.Get = mode.Read
needs_of (kind.Read off ptr len) = mode.Read
needs_of (kind.Set off ptr len) = mode.Write
needs_of kind.Push = mode.Write
needs_of kind.Pull = mode.Write
needs_of (kind.PushPart off len) = mode.Write
needs_of (kind.PullPart off len) = mode.Write
needs_of (kind.Append ptr len) = mode.Write
needs_of (kind.Lock t m) = m
needs_of (kind.Unlock t) = mode.Read

abbrev pub range_trap : ℕ → ℕ → ℕ → Option Trap
range_trap off len size = if nat_le (off + len) size then None else Some StateRange

-- the refusal by range or limit, on a key of this size at a place
abbrev pub limit_of : Known → ℕ → ℕ → StateKind → Option Trap
limit_of known k size kind.Get = if is_some (kept known k).address || nat_lt known.mappings mapping_limit then None else Some TooManyMappings
limit_of known k size (kind.Read off ptr len) = range_trap off len size
limit_of known k size (kind.Set off ptr len) = range_trap off len size
limit_of known k size (kind.PushPart off len) = range_trap off len size
limit_of known k size (kind.PullPart off len) = range_trap off len size
limit_of known k size (kind.Lock t m) =
    if is_held (kept known k) t then Some LockMisuse else (if nat_lt known.locks lock_limit then None else Some TooManyLocks)
limit_of known k size (kind.Unlock t) = if is_held (kept known k) t then None else Some LockMisuse
limit_of known k size _ = None

-- the first refusal by place, mode, range or limit
abbrev pub refusal_of : List Grant → Known → StateHost → Option Trap
refusal_of grants known x =
    elim (slice_get grants x.place) [
      | None ↦ Some BadKey
      | Some g ↦ if includes g.mode (needs_of x.kind) then limit_of known x.place g.size x.kind else Some Denied
    ]
