-- What a host call carries where a machine stands at it: numbers, and a buffer. This project's own.
use Rattle.std.specs.Prelude.{◌≡◌, ℕ, ◌<◌, ◌≤◌, ◌^◌, List, [], ◌∷◌, Some, All}
use Rattle.faaslet_meaning.specs.HostCalls.{HostCall, state_size, state_used, get_state, read_state, set_state, push_state, pull_state, push_state_offset, pull_state_offset, append_state, lock_state_read, lock_state_write, unlock_state, lock_global_read, lock_global_write, unlock_global, input_size, read_input, write_output, chain_call, await_call, output_size, read_output, Buffer, buffer_of}
use Rattle.faaslet_meaning.specs.ControlRules.{buffer_limit}

-- the numbers of a host call
abbrev pub call_numbers : HostCall → List ℕ
call_numbers (state_size k) = k ∷ []
call_numbers (state_used k) = k ∷ []
call_numbers (get_state k) = k ∷ []
call_numbers (read_state k off ptr len) = k ∷ off ∷ ptr ∷ len ∷ []
call_numbers (set_state k off ptr len) = k ∷ off ∷ ptr ∷ len ∷ []
call_numbers (push_state k) = k ∷ []
call_numbers (pull_state k) = k ∷ []
call_numbers (push_state_offset k off len) = k ∷ off ∷ len ∷ []
call_numbers (pull_state_offset k off len) = k ∷ off ∷ len ∷ []
call_numbers (append_state k ptr len) = k ∷ ptr ∷ len ∷ []
call_numbers (lock_state_read k) = k ∷ []
call_numbers (lock_state_write k) = k ∷ []
call_numbers (unlock_state k) = k ∷ []
call_numbers (lock_global_read k) = k ∷ []
call_numbers (lock_global_write k) = k ∷ []
call_numbers (unlock_global k) = k ∷ []
call_numbers input_size = []
call_numbers (read_input off ptr len) = off ∷ ptr ∷ len ∷ []
call_numbers (write_output ptr len) = ptr ∷ len ∷ []
call_numbers (chain_call f ptr len) = f ∷ ptr ∷ len ∷ []
call_numbers (await_call c) = c ∷ []
call_numbers (output_size c) = c ∷ []
call_numbers (read_output c off ptr len) = c ∷ off ∷ ptr ∷ len ∷ []

-- its numbers are below 2 ^ 32, and its buffer is no longer than a buffer may be
pub record IsHostAsk (h : HostCall) : Type 0 where
  pub numbers : All (λ n. n < 2 ^ 32) (call_numbers h)
  pub buffer : (b : Buffer) → buffer_of h ≡ Some b → b.len ≤ buffer_limit
