-- The rule of a cell: what holds of its words, of the value and of all views between any two steps. This project's own.
use Rattle.std.specs.Prelude.{◌≡◌, ◌≢◌, ℕ, ◌+◌, ◌%◌, ◌^◌, ◌<◌, ◌≤◌, List, [], ◌∷◌, length, Bool, true, false, Some, sum_by}
use Rattle.std.specs.Prelude as std
use mathlib.Core.List.{IsPrefix}
use mathlib.Core.Option.{Option, some, none}
use lib.ListN.{get_elem?}
use Rattle.atomic_table.specs.Table.{State}
use Rattle.turn_cell.specs.declared.view.Entry.{Entry}
use Rattle.turn_cell.specs.declared.view.Opening.{Opening}
use Rattle.turn_cell.specs.declared.view.View.{View}
use Rattle.turn_cell.specs.declared.view.Role.{Role}
use Rattle.turn_cell.specs.declared.view.Role.TheVariants.{Begins, Blank, Noted, Idle, Waits, Has, Counted, Sealed}
use Rattle.turn_cell.specs.History.{Stands, Extends, MakersBelow}
use Rattle.turn_cell.specs.Views.{idle, HasTurn}

-- What happened so far: the one list, how many turns were passed on, the seats that wait or have the turn, in order,
-- the seat of each number, none where the number was given back, the limit on numbers, and whether the value is out.
pub record Past : Type 0 where
  pub log : List Entry
  pub served : ℕ
  pub queue : List ℕ
  pub seats : List (Option ℕ)
  pub limit : ℕ
  pub out : Bool

-- the pass with the number n was taken back
abbrev pub IsGone : Past → ℕ → Type 0
IsGone p n = get_elem? p.seats n ≡ some none

-- the pass with the number n sits on the seat id
abbrev pub IsSeat : Past → ℕ → ℕ → Type 0
IsSeat p n id = get_elem? p.seats n ≡ some (some id)

module _ {S : Type 0} (makes : ℕ → List ℕ → S → S → Type 0) where
  -- what the rule says of the role of the seat id, which has seen these entries
  abbrev pub Plays : Opening S → Past → ℕ → List Entry → Role S → Type 0
  Plays key p id seen (Begins l) = (l ≢ 0 → p.limit ≡ l) × (get_elem? p.queue 0 ≡ some id) × (p.out ≡ false) × (p.log ≡ [])
  Plays key p id seen (Blank l) = l ≢ 0 → p.limit ≡ l
  Plays key p id seen Noted = Unit {0}
  Plays key p id seen (Idle n) = IsSeat p n id × Extends n seen p.log
  Plays key p id seen (Waits n t) = IsSeat p n id × Extends n seen p.log × ((k : ℕ) × (t ≡ p.served + k) × (get_elem? p.queue k ≡ some id))
  Plays key p id seen (Has n x) = IsSeat p n id × (seen ≡ p.log) × (get_elem? p.queue 0 ≡ some id) × (p.out ≡ true) × Stands makes key.start.value p.log x
  Plays key p id seen (Counted n) = IsSeat p n id × (seen ≡ p.log) × (get_elem? p.queue 0 ≡ some id) × (p.out ≡ true)
  Plays key p id seen Sealed = (seen ≡ p.log) × ((n : ℕ) → n < key.numbers → IsGone p n)

-- what the rule says of the view of the seat id
pub record Fits {S : Type 0} (makes : ℕ → List ℕ → S → S → Type 0) (key : Opening S) (p : Past) (id : ℕ) (v : View S) : Type 0 where
  pub seen : IsPrefix v.seen p.log
  pub heard : IsPrefix v.heard p.log
  pub retired : (i : ℕ) (r : ℕ × List Entry) → get_elem? v.retired i ≡ some r → IsGone p r.0 × Extends r.0 r.1 p.log
  pub plays : Plays makes key p id v.seen v.role

-- the value is at home, and stands for the one list; or it is out with the seat that has the turn
abbrev pub Lies : {S : Type 0} → (ℕ → List ℕ → S → S → Type 0) → S → Past → List (Option (std.Option S)) → List (View S) → Bool → Type 0
Lies {S} makes start p homes views false = (value : S) × (homes ≡ some (Some value) ∷ []) × Stands makes start p.log value
Lies {S} makes start p homes views true = (homes ≡ none ∷ []) × ((id : ℕ) × (n : ℕ) × (v : View S) × (get_elem? views id ≡ some v) × HasTurn n v.role × (get_elem? p.queue 0 ≡ some id))

-- The words are the length of the list, the next ticket, the ticket whose turn it is, how many passes have a number,
-- and the limit. The passes that may still draw a ticket leave room in the queue, so that no two tickets are the same
-- word.
pub record Ruled {S : Type 0} (makes : ℕ → List ℕ → S → S → Type 0) (key : Opening S) (s : State (std.Option S) (View S)) : Type 0 where
  pub past : Past
  pub words : s.words ≡ (length past.log % 2 ^ 64) ∷ ((past.served + length past.queue) % 2 ^ 64) ∷ (past.served % 2 ^ 64) ∷ length past.seats ∷ past.limit ∷ []
  pub lies : Lies makes key.start.value past s.homes s.views past.out
  pub fits : (id : ℕ) (v : View S) → get_elem? s.views id ≡ some v → Fits makes key past id v
  pub makers : MakersBelow (length past.seats) past.log
  pub room : length past.queue + sum_by (λ v. idle v.role) s.views ≤ length past.seats + 1
  pub bound : (length past.seats ≤ past.limit) × (past.limit ≤ key.numbers) × (key.numbers < 2 ^ 32)
