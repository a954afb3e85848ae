-- What each host call does once its checks have passed, in order. This project's own.
use Rattle.std.specs.Prelude.{ℕ, Option, Some, None, List, [], ◌∷◌, length, unwrap_or}
use Rattle.faaslet_meaning.specs.HostCalls.{HostCall, state_size, state_used, get_state, read_state, set_state, push_state, pull_state, push_state_offset, pull_state_offset, append_state, lock_state_read, lock_state_write, unlock_state, lock_global_read, lock_global_write, unlock_global, input_size, read_input, write_output, chain_call, await_call, output_size, read_output}
use Rattle.faaslet_meaning.specs.CallState.{Invocation, local, global, State, Act, presence, buffer_in, buffer_out, local_read, local_write, push, pull, used, append, map, lock_read, lock_write, unlock, take_input, give_output, submit, await, look, gives, address_of}
use Rattle.faaslet_meaning.specs.Checks.{key_size, noted}

-- a mapped key answers its address, with no operation
abbrev pub address_or_map : ℕ → Option ℕ → List Act
address_or_map k (Some address) = gives address ∷ []
address_or_map k None = presence k ∷ map k ∷ []

abbrev pub operations : Invocation → State → HostCall → List Act
operations j s (state_size k) = gives (key_size j k) ∷ []
operations j s (state_used k) = used k ∷ []
operations j s (get_state k) = address_or_map k (address_of s k)
operations j s (read_state k off ptr len) = presence k ∷ local_read k off len ∷ buffer_out ptr len ∷ []
operations j s (set_state k off ptr len) = buffer_in ptr len ∷ presence k ∷ local_write k off ∷ []
operations j s (push_state k) = presence k ∷ push k 0 (key_size j k) ∷ []
operations j s (pull_state k) = presence k ∷ pull k 0 (key_size j k) ∷ []
operations j s (push_state_offset k off len) = presence k ∷ push k off len ∷ []
operations j s (pull_state_offset k off len) = presence k ∷ pull k off len ∷ []
operations j s (append_state k ptr len) = buffer_in ptr len ∷ append k ∷ []
operations j s (lock_state_read k) = lock_read local k ∷ []
operations j s (lock_state_write k) = lock_write local k ∷ []
operations j s (unlock_state k) = unlock local k ∷ []
operations j s (lock_global_read k) = lock_read global k ∷ []
operations j s (lock_global_write k) = lock_write global k ∷ []
operations j s (unlock_global k) = unlock global k ∷ []
operations j s input_size = gives (length j.input) ∷ []
operations j s (read_input off ptr len) = take_input off len ∷ buffer_out ptr len ∷ []
operations j s (write_output ptr len) = buffer_in ptr len ∷ give_output ∷ []
operations j s (chain_call f ptr len) = buffer_in ptr len ∷ submit f ∷ []
operations j s (await_call c) = await c ∷ []
operations j s (output_size c) = gives (unwrap_or (noted s c) 0) ∷ []
operations j s (read_output c off ptr len) = look c off len ∷ buffer_out ptr len ∷ []
