-- What every call keeps to, by its steps and by replies that fit, as `IsMemory` says what every memory keeps to. This project's
-- own.
use Rattle.std.specs.Prelude.{◌≡◌, ℕ, ◌+◌, ◌*◌, ◌<◌, ◌≤◌, Bool, IsTrue, List, [], ◌∷◌, Option, Some, None, All, length, reverse, find, ◌==◌}
use Rattle.faaslet_meaning.specs.Memory.{private, mapped, Segment, page_size, page_limit, mapping_limit, pages_of}
use Rattle.faaslet_meaning.specs.CallState.{Invocation, Lock, State, Progress, runs, asks, over, lost, is_lock}
use Rattle.faaslet_meaning.specs.Checks.{lock_limit}
use Rattle.faaslet_meaning.specs.Serve.{is_present}
use Rattle.faaslet_meaning.specs.Call.{child_limit, output_limit}

-- The places that are mapped in a memory, each with its address, in order; so many pages lie before the first segment.
abbrev pub places_mapped : List Segment → ℕ → List (ℕ × ℕ)
places_mapped [] pages = []
places_mapped (s ∷ ss) pages =
    elim s.home [ private ↦ places_mapped ss (pages + s.pages) | mapped k ↦ (k, pages * page_size) ∷ places_mapped ss (pages + s.pages) ]

-- no item is like one behind it
abbrev pub AllDiffer : {A : Type 0} → (A → A → Bool) → List A → Type 0
AllDiffer alike [] = Unit {0}
AllDiffer alike (x ∷ xs) = (find (alike x) xs ≡ None) × AllDiffer alike xs

abbrev pub same_lock : Lock → Lock → Bool
same_lock a b = is_lock a.tier a.place b

abbrev pub same_place : ℕ × ℕ → ℕ × ℕ → Bool
same_place a b = b.0 == a.0

-- the places mapped are those of the memory's segments, the last one first
pub record IsTied (segments : List Segment) (mapped : List (ℕ × ℕ)) : Type 0 where
  pub few_pages : pages_of segments ≤ page_limit
  pub same : mapped ≡ reverse (places_mapped segments 0)

-- each length that was noted is that of an output
abbrev pub IsShortOutput : Option ℕ → Type 0
IsShortOutput None = Unit {0}
IsShortOutput (Some n) = n ≤ output_limit

pub record Formed (j : Invocation) (s : State) : Type 0 where
  pub memory : IsTied s.config.memory.segments s.mapped
  pub mapped_once : AllDiffer same_place s.mapped
  pub few_mapped : length s.mapped ≤ mapping_limit
  pub mapped_present : All (λ m. IsTrue (is_present s m.0)) s.mapped
  pub mapped_granted : All (λ m. m.0 < length j.program.grants) s.mapped
  pub present_granted : All (λ k. k < length j.program.grants) s.present
  pub locked_once : AllDiffer same_lock s.locks
  pub few_locks : length s.locks ≤ lock_limit
  pub locks_granted : All (λ l. l.place < length j.program.grants) s.locks
  pub in_room : length s.output ≤ j.room
  pub few_children : length s.children ≤ child_limit
  pub short_outputs : All IsShortOutput s.children

-- where a call is, it is well formed
abbrev pub FormedAt : Invocation → Progress → Type 0
FormedAt j (runs s) = Formed j s
FormedAt j (asks s q) = Formed j s
FormedAt j (over s o) = Formed j s
FormedAt j lost = Unit {0}

-- grants are on different keys
abbrev pub KeysDiffer : Invocation → Type 0
KeysDiffer j = AllDiffer (λ a b. a.key == b.key) j.program.grants
