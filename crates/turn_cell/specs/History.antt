-- Histories of a value that is taken in turns. This project's own.
use Rattle.std.specs.Prelude.{◌≡◌, ◌≢◌, ℕ, ◌<◌, List, [], ◌∷◌, ◌++◌, filter, All, ◌==◌}
use mathlib.Core.Option.{some}
use lib.ListN.{get_elem?}
use Rattle.turn_cell.specs.declared.view.Entry.{Entry}

-- an entry of the maker n
abbrev pub entry : ℕ → List ℕ → Entry
entry n numbers = record { maker = n; numbers = numbers }

-- the entries of a maker
abbrev pub own : ℕ → List Entry → List Entry
own n log = filter (λ e. e.maker == n) log

-- the entries, one after the other, lead from the start to the value
abbrev pub Stands : {S : Type 0} → (ℕ → List ℕ → S → S → Type 0) → S → List Entry → S → Type 0
Stands makes start [] value = start ≡ value
Stands {S} makes start (e ∷ es) value = (next : S) × makes e.maker e.numbers start next × Stands makes next es value

-- log is these entries, and then entries of other makers than n
abbrev pub Extends : ℕ → List Entry → List Entry → Type 0
Extends n entries log = (rest : List Entry) × (entries ++ rest ≡ log) × All (λ e. e.maker ≢ n) rest

-- every maker in the list is below k
abbrev pub MakersBelow : ℕ → List Entry → Type 0
MakersBelow k log = All (λ e. e.maker < k) log

-- P holds of each place and the element there
abbrev pub Each : {X : Type 0} → List X → (ℕ → X → Type 0) → Type 0
Each {X} xs P = (k : ℕ) (x : X) → get_elem? xs k ≡ some x → P k x

-- the number stands in the list, with this list of entries
abbrev pub Lists : List (ℕ × List Entry) → ℕ → List Entry → Type 0
Lists pairs n list = (i : ℕ) × (get_elem? pairs i ≡ some (n, list))

-- every number below the first is that of a pair in the list
abbrev pub Covers : ℕ → List (ℕ × List Entry) → Type 0
Covers numbers pairs = (n : ℕ) → n < numbers → (i : ℕ) × (r : ℕ × List Entry) × (get_elem? pairs i ≡ some r) × (r.0 ≡ n)
