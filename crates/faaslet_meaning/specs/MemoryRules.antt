-- Loads and stores, the size of memory and its growth. W3C WebAssembly Core Specification 1.0, section 4.4.4, Memory
-- Instructions. Modes and pieces are this project's own: first come the bounds of the whole, then for a store the mode of
-- every shared piece, and then the pieces, the lowest address first; each shared one is a question. The operands stay on the stack until
-- the last reply.
use Rattle.std.specs.Prelude.{ℕ, ◌+◌, ◌-◌, ◌^◌, List, [], ◌∷◌, Option, Some, None, Bool, true, false, length, drop, slice_get, if◌then◌else◌}
use Rattle.std.specs.Int.{w32}
use Rattle.faaslet_meaning.specs.declared.grant.Mode.{Mode}
use Rattle.faaslet_meaning.specs.declared.grant.Mode.TheVariants.{Read, Write}
use Rattle.faaslet_meaning.specs.declared.grant.Grant.{Grant}
use Rattle.faaslet_meaning.specs.declared.outcome.Trap.TheVariants as trap
use Rattle.faaslet_meaning.specs.Integers.{low}
use Rattle.faaslet_meaning.specs.LoadStore.{Load, load_of, load_size, loaded, store_of, bytes_of}
use Rattle.faaslet_meaning.specs.Memory.{Home, private, mapped, Piece, Access, reads, writes, Written, reading, writing, answered, read_bytes, shared_pieces, lies_in, pages_of, may_grow, grown}
use Rattle.faaslet_meaning.specs.Configuration.{Program, Configuration, Begun, load, store, Next, goes, touches, stuck}
use Rattle.faaslet_meaning.specs.Limits.{traps, with_values, push}

-- the mode Write includes Read
abbrev pub includes : Mode → Mode → Bool
includes Write m = true
includes Read Read = true
includes Read Write = false

abbrev pub granted : Mode → Option Grant → Bool
granted m None = false
granted m (Some g) = includes g.mode m

abbrev pub may_touch : List Grant → Mode → Home → Bool
may_touch gs m private = true
may_touch gs m (mapped k) = granted m (slice_get gs k)

abbrev pub all_granted : List Grant → Mode → List Piece → Bool
all_granted gs m [] = true
all_granted gs m (p ∷ ps) = if may_touch gs m p.home then all_granted gs m ps else false

-- the values under the topmost n
abbrev pub under : ℕ → Configuration → List ℕ
under n c = drop n c.frame.values

-- a load that goes on: the value takes the address's place
abbrev pub load_on : Configuration → Load → Access → Next
load_on c l (reads at n [] copy) = goes (with_values c (loaded l (read_bytes at n copy) ∷ under 1 c))
load_on c l (reads at n (p ∷ ps) copy) = touches c (load l (reads at n (p ∷ ps) copy))
load_on c l (writes left bytes) = stuck

abbrev pub store_on : Configuration → Access → Next
store_on c (writes [] bytes) = goes (with_values c (under 2 c))
store_on c (writes (p ∷ ps) bytes) = touches c (store (writes (p ∷ ps) bytes))
store_on c (reads at n left copy) = stuck

abbrev pub stored : Configuration → Written → Next
stored c w = store_on (record c { memory = w.memory }) w.access

-- a mapped place was granted Read at least, so a load has no mode to check
abbrev pub load_at : Configuration → Load → ℕ → Next
load_at c l at =
    if lies_in c.memory at (load_size l) then load_on c l (reading c.memory at (load_size l)) else traps c trap.OutOfBounds

abbrev pub store_at : Program → Configuration → ℕ → List ℕ → Next
store_at p c at bytes =
    if lies_in c.memory at (length bytes)
    then (
    if all_granted p.grants Write (shared_pieces c.memory at (length bytes))
    then stored c (writing c.memory at bytes)
    else traps c trap.Denied)
    else traps c trap.OutOfBounds

-- the effective address does not wrap
abbrev pub begin_load : Configuration → ℕ → ℕ → List ℕ → Next
begin_load c op offset [] = stuck
begin_load c op offset (x ∷ vs) = elim (load_of op) [ None ↦ stuck | Some l ↦ load_at c l (low w32 x + offset) ]

abbrev pub begin_store : Program → Configuration → ℕ → ℕ → List ℕ → Next
begin_store p c op offset [] = stuck
begin_store p c op offset (v ∷ []) = stuck
begin_store p c op offset (v ∷ x ∷ vs) = elim (store_of op) [ None ↦ stuck | Some n ↦ store_at p c (low w32 x + offset) (bytes_of n v) ]

-- after the reply to the piece at which the machine stands: the bytes read, or none
abbrev pub resumed : Configuration → Begun → List ℕ → Next
resumed c (load l a) bytes = load_on c l (answered c.memory a bytes).access
resumed c (store a) bytes = stored c (answered c.memory a bytes)

-- `memory.size` counts private and mapped pages
abbrev pub memory_size : Configuration → Next
memory_size c = push c (pages_of c.memory.segments)

-- `memory.grow` answers the old number of pages, or -1
abbrev pub memory_grow : Program → Configuration → ℕ → List ℕ → Next
memory_grow p c x vs =
    let n = low w32 x in
    if may_grow c.memory n p.most_pages
    then goes (record (with_values c (pages_of c.memory.segments ∷ vs)) { memory = grown c.memory n })
    else goes (with_values c ((2 ^ 32 - 1) ∷ vs))
