-- What is read of the grants. This project's own.
use Rattle.std.specs.Prelude.{ℕ, List, Option, Some, None, option_map, slice_get, unwrap_or, if◌then◌else◌}
use Rattle.faaslet_meaning.specs.declared.grant.Grant.{Grant}
use Rattle.faaslet_meaning.specs.declared.grant.Mode.{Mode}
use Rattle.faaslet_meaning.specs.declared.outcome.Trap.{Trap}
use Rattle.faaslet_meaning.specs.declared.outcome.Trap.TheVariants.{OutOfBounds, Denied}
use Rattle.faaslet_meaning.specs.Memory.{Memory, lies_in, shared_pieces}
use Rattle.faaslet_meaning.specs.MemoryRules.{all_granted}

-- the key at a place, or 0 where there is none
abbrev pub key_of : List Grant → ℕ → ℕ
key_of grants k = unwrap_or (option_map (λ g. g.key) (slice_get grants k)) 0

-- the trap of a buffer that doesn't lie in memory, or of which a shared piece doesn't have the mode
abbrev pub buffer_trap : List Grant → Memory → Mode → ℕ → ℕ → Option Trap
buffer_trap grants m needs ptr len =
    if lies_in m ptr len then (if all_granted grants needs (shared_pieces m ptr len) then None else Some Denied) else Some OutOfBounds

-- the size of the key at a place, or 0 where there is none
abbrev pub size_of : List Grant → ℕ → ℕ
size_of grants k = unwrap_or (elim (slice_get grants k) [ None ↦ None | Some g ↦ Some g.size ]) 0
