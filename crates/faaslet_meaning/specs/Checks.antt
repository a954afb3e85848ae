-- The checks of each host call in their order, each with its trap. This project's own. The first two, the length of a
-- buffer and what it costs, are made where the call begins (`ControlRules`).
use Rattle.std.specs.Prelude.{ℕ, ◌+◌, Bool, false, not, List, [], ◌∷◌, ◌++◌, Option, Some, None, length, is_some, nat_lt, nat_le, if◌then◌else◌, slice_get, ◌||◌, find, unwrap_or}
use Rattle.faaslet_meaning.specs.declared.grant.Mode.{Mode}
use Rattle.faaslet_meaning.specs.declared.grant.Mode.TheVariants.{Read, Write}
use Rattle.faaslet_meaning.specs.declared.outcome.Trap.{Trap}
use Rattle.faaslet_meaning.specs.declared.outcome.Trap.TheVariants.{BadKey, BadFunction, BadChild, Denied, StateRange, CallRange, OutputFull, LockMisuse, TooManyLocks, TooManyMappings, MapFull, OutOfBounds}
use Rattle.faaslet_meaning.specs.Memory.{mapping_limit, key_pages, lies_in, shared_pieces, may_map}
use Rattle.faaslet_meaning.specs.HostCalls.{HostCall, state_size, state_used, get_state, read_state, set_state, push_state, pull_state, push_state_offset, pull_state_offset, append_state, lock_state_read, lock_state_write, unlock_state, lock_global_read, lock_global_write, unlock_global, input_size, read_input, write_output, chain_call, await_call, output_size, read_output, Buffer, buffer_of}
use Rattle.faaslet_meaning.specs.MemoryRules.{granted, all_granted}
use Rattle.faaslet_meaning.specs.CallState.{Invocation, Tier, local, global, State, grant_at, is_lock, address_of}

abbrev pub lock_limit : ℕ
lock_limit = 16

pub data Check : Type 0 where
  is_key : (k : ℕ) → Check
  is_callee : (f : ℕ) → Check
  is_child was_awaited : (c : ℕ) → Check
  has_mode : (k : ℕ) (mode : Mode) → Check
  in_key : (k off len : ℕ) → Check
  in_input : (off len : ℕ) → Check
  in_child : (c off len : ℕ) → Check
  in_room : (len : ℕ) → Check
  not_held is_held : (tier : Tier) (k : ℕ) → Check
  few_locks : Check
  few_mappings few_pages : (k : ℕ) → Check
  in_memory : (b : Buffer) → Check
  is_allowed : (b : Buffer) → Check

-- the place is in its list, and the grant has the mode
abbrev pub key : ℕ → Mode → List Check
key k m = is_key k ∷ has_mode k m ∷ []

abbrev pub may_lock : Tier → ℕ → List Check
may_lock t k = not_held t k ∷ few_locks ∷ []

-- of each call, but for what is looked up in memory
abbrev pub limit_checks : HostCall → List Check
limit_checks (state_size k) = key k Read
limit_checks (state_used k) = key k Read
limit_checks (get_state k) = key k Read ++ few_mappings k ∷ []
limit_checks (read_state k off ptr len) = key k Read ++ in_key k off len ∷ []
limit_checks (set_state k off ptr len) = key k Write ++ in_key k off len ∷ []
limit_checks (push_state k) = key k Write
limit_checks (pull_state k) = key k Write
limit_checks (push_state_offset k off len) = key k Write ++ in_key k off len ∷ []
limit_checks (pull_state_offset k off len) = key k Write ++ in_key k off len ∷ []
limit_checks (append_state k ptr len) = key k Write
limit_checks (lock_state_read k) = key k Read ++ may_lock local k
limit_checks (lock_state_write k) = key k Write ++ may_lock local k
limit_checks (unlock_state k) = key k Read ++ is_held local k ∷ []
limit_checks (lock_global_read k) = key k Read ++ may_lock global k
limit_checks (lock_global_write k) = key k Write ++ may_lock global k
limit_checks (unlock_global k) = key k Read ++ is_held global k ∷ []
limit_checks input_size = []
limit_checks (read_input off ptr len) = in_input off len ∷ []
limit_checks (write_output ptr len) = in_room len ∷ []
limit_checks (chain_call f ptr len) = is_callee f ∷ []
limit_checks (await_call c) = is_child c ∷ []
limit_checks (output_size c) = is_child c ∷ was_awaited c ∷ []
limit_checks (read_output c off ptr len) = is_child c ∷ was_awaited c ∷ in_child c off len ∷ []

-- the buffer lies in memory, and every shared piece of it has its mode
abbrev pub buffer_checks : Option Buffer → List Check
buffer_checks None = []
buffer_checks (Some b) = in_memory b ∷ is_allowed b ∷ []

-- what is looked up in memory: the pages that a mapping takes, and the buffer
abbrev pub memory_checks : HostCall → List Check
memory_checks (get_state k) = few_pages k ∷ []
memory_checks h = buffer_checks (buffer_of h)

abbrev pub checks : HostCall → List Check
checks h = limit_checks h ++ memory_checks h

-- so many bytes from off on lie in a range of this length, where there is one
abbrev pub fits_in : ℕ → ℕ → Option ℕ → Bool
fits_in off len None = false
fits_in off len (Some n) = nat_le (off + len) n

abbrev pub size_at : Invocation → ℕ → Option ℕ
size_at j k = elim (grant_at j k) [ None ↦ None | Some g ↦ Some g.size ]

-- without a grant 0; the checks come before any use of it
abbrev pub key_size : Invocation → ℕ → ℕ
key_size j k = unwrap_or (size_at j k) 0

abbrev pub noted : State → ℕ → Option ℕ
noted s c = elim (slice_get s.children c) [ None ↦ None | Some n ↦ n ]

abbrev pub holds : State → Tier → ℕ → Bool
holds s t k = is_some (find (is_lock t k) s.locks)

abbrev pub is_mapped : State → ℕ → Bool
is_mapped s k = is_some (address_of s k)

-- a check holds
abbrev pub passes : Invocation → State → Check → Bool
passes j s (is_key k) = is_some (grant_at j k)
passes j s (is_callee f) = nat_lt f (length j.callees)
passes j s (is_child c) = nat_lt c (length s.children)
passes j s (was_awaited c) = is_some (noted s c)
passes j s (has_mode k m) = granted m (grant_at j k)
passes j s (in_key k off len) = fits_in off len (size_at j k)
passes j s (in_input off len) = nat_le (off + len) (length j.input)
passes j s (in_child c off len) = fits_in off len (noted s c)
passes j s (in_room len) = nat_le (length s.output + len) j.room
passes j s (not_held t k) = not (holds s t k)
passes j s (is_held t k) = holds s t k
passes j s few_locks = nat_lt (length s.locks) lock_limit
passes j s (few_mappings k) = is_mapped s k || nat_lt (length s.mapped) mapping_limit
passes j s (few_pages k) = is_mapped s k || may_map s.config.memory (key_pages (key_size j k))
passes j s (in_memory b) = lies_in s.config.memory b.ptr b.len
passes j s (is_allowed b) = all_granted j.program.grants b.needs (shared_pieces s.config.memory b.ptr b.len)

-- what it traps with where it doesn't
abbrev pub trap_of : Check → Trap
trap_of (is_key k) = BadKey
trap_of (is_callee f) = BadFunction
trap_of (is_child c) = BadChild
trap_of (was_awaited c) = BadChild
trap_of (has_mode k m) = Denied
trap_of (in_key k off len) = StateRange
trap_of (in_input off len) = CallRange
trap_of (in_child c off len) = CallRange
trap_of (in_room len) = OutputFull
trap_of (not_held t k) = LockMisuse
trap_of (is_held t k) = LockMisuse
trap_of few_locks = TooManyLocks
trap_of (few_mappings k) = TooManyMappings
trap_of (few_pages k) = MapFull
trap_of (in_memory b) = OutOfBounds
trap_of (is_allowed b) = Denied

-- the trap of the first check that doesn't pass
abbrev pub first_trap : Invocation → State → List Check → Option Trap
first_trap j s [] = None
first_trap j s (c ∷ cs) = if passes j s c then first_trap j s cs else Some (trap_of c)
