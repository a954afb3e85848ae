-- What each step on a cell tells the seat that steps: of the seat before, the word found and the seat after.
-- This project's own.
use Rattle.std.specs.Prelude.{◌≡◌, ◌≢◌, ℕ, ◌%◌, ◌^◌, List, [], ◌∷◌, ◌++◌, Some, None}
use Rattle.std.specs.Prelude as std
use mathlib.Core.List.{IsPrefix}
use mathlib.Core.Option.{some}
use lib.ListN.{get_elem?}
use Rattle.atomic_table.specs.Table.{Me, Step}
use Rattle.turn_cell.specs.declared.view.Entry.{Entry}
use Rattle.turn_cell.specs.declared.view.Opening.{Opening}
use Rattle.turn_cell.specs.declared.view.View.{View}
use Rattle.turn_cell.specs.declared.view.Role.{Role}
use Rattle.turn_cell.specs.declared.view.Role.TheVariants.{Begins, Noted, Idle, Waits, Has, Counted, Sealed}
use Rattle.turn_cell.specs.History.{entry, Stands, Extends, MakersBelow}
use Rattle.turn_cell.specs.Views.{number_of, ticket_of, numbers_in}

-- a seat: its view, and the slots that are out with it
abbrev Sat : Type 0 → Type 0
Sat S = Me (std.Option S) (View S)

abbrev At : Type 0 → Type 0
At S = Step (std.Option S)

-- the value stands for the start and this list
abbrev pub StandsFrom : {S : Type 0} → (ℕ → List ℕ → S → S → Type 0) → std.Option (Opening S) → List Entry → S → Type 0
StandsFrom makes (Some key) log x = Stands makes key.start.value log x
StandsFrom makes None log x = Unit {0}

-- what was taken stands for this list
abbrev pub TakenStands : {S : Type 0} → (List Entry → S → Type 0) → List Entry → Role S → Type 0
TakenStands stands seen (Has n x) = stands seen x
TakenStands stands seen _ = Unit {0}

-- who has this role, with this number, may pass the turn on with the value: it is as taken, or the entry is counted
-- and the value stands for the list
abbrev pub MayPassOn : {S : Type 0} → (ℕ → List ℕ → S → S → Type 0) → S → List Entry → ℕ → S → Role S → Type 0
MayPassOn makes start seen n value (Has m x) = (m ≡ n) × (x ≡ value)
MayPassOn makes start seen n value (Counted m) = (m ≡ n) × Stands makes start seen value
MayPassOn makes start seen n value _ = ⊥

module _ {S : Type 0} where
  -- the seat drew a ticket
  abbrev pub drew : At S → Sat S → ℕ → Sat S → Type 0
  drew st m found m' = (t : ℕ) × (t % 2 ^ 64 ≡ found) × (m' ≡ (record m.0 { role = Waits (number_of m.0.role) t }, m.1))

  -- the seat got the turn, with the value
  pub record Turned (makes : ℕ → List ℕ → S → S → Type 0) (m m' : Sat S) : Type 0 where
    pub value : S
    pub view : m'.0 ≡ record m.0 { role = Has (number_of m.0.role) value; seen = m'.0.seen }
    pub carries : m'.1 ≡ (0, Some value) ∷ []
    pub stands : StandsFrom makes m.0.key m'.0.seen value
    pub grows : Extends (number_of m.0.role) m.0.seen m'.0.seen
    pub makers : MakersBelow (numbers_in m.0.key) m'.0.seen

  abbrev pub looked : (ℕ → List ℕ → S → S → Type 0) → At S → Sat S → ℕ → Sat S → Type 0
  looked makes st m found m' = (found ≡ ticket_of m.0.role % 2 ^ 64 → Turned makes m m') × (found ≢ ticket_of m.0.role % 2 ^ 64 → m' ≡ m)

  -- the seat that has the turn added its entry
  abbrev pub counted : (ℕ → List ℕ → S → S → Type 0) → List ℕ → At S → Sat S → ℕ → Sat S → Type 0
  counted makes numbers st m found m' = (m' ≡ (record m.0 { role = Counted (number_of m.0.role); seen = m.0.seen ++ entry (number_of m.0.role) numbers ∷ [] }, m.1))
      × TakenStands (StandsFrom makes m.0.key) m.0.seen m.0.role

  -- the seat passed the turn on
  abbrev pub passed : At S → Sat S → ℕ → Sat S → Type 0
  passed st m found m' = (m' ≡ (record m.0 { role = Idle (number_of m.0.role) }, [])) × MakersBelow (numbers_in m.0.key) m.0.seen

  -- the seat saw the whole list
  abbrev pub heard : At S → Sat S → ℕ → Sat S → Type 0
  heard st m found m' = (m' ≡ (record m.0 { seen = m'.0.seen; heard = [] }, m.1)) × Extends (number_of m.0.role) m.0.seen m'.0.seen × IsPrefix m.0.heard m'.0.seen × MakersBelow (numbers_in m.0.key) m'.0.seen

  -- the list is whole
  abbrev pub sealed : At S → Sat S → ℕ → Sat S → Type 0
  sealed st m found m' = (m' ≡ (record m.0 { role = Sealed; seen = m'.0.seen }, m.1)) × ((i : ℕ) (r : ℕ × List Entry) → get_elem? m.0.retired i ≡ some r → Extends r.0 r.1 m'.0.seen) × MakersBelow (numbers_in m.0.key) m'.0.seen

  -- the seat that begins set the limit, where it found 0
  abbrev pub limited : At S → Sat S → ℕ → Sat S → Type 0
  limited st m found m' = (found ≡ 0 → m' ≡ (record m.0 { role = Begins st.second }, m.1)) × (found ≢ 0 → m' ≡ m)

  -- the seat got the number, where it found it
  abbrev pub numbered : At S → Sat S → ℕ → Sat S → Type 0
  numbered st m found m' = (found ≡ st.first → m' ≡ (record m.0 { role = Idle st.first }, m.1)) × (found ≢ st.first → m' ≡ m)

  -- the first turn is over
  abbrev pub begun : At S → Sat S → ℕ → Sat S → Type 0
  begun st m found m' = m' ≡ (record m.0 { role = Noted }, m.1)
