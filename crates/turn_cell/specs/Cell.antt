-- What contracts see of a cell and of the tokens by which it is used. This project's own.
use Rattle.std.specs.Prelude.{◌≡◌, ℕ, List, [], Some}
use Rattle.std.specs.Prelude as std
use Rattle.atomic_table.specs.Seated.{TableId}
use Rattle.atomic_table.specs.declared.shared.Seat.{Seat}
use Rattle.turn_cell.specs.declared.view.Entry.{Entry}
use Rattle.turn_cell.specs.declared.view.Opening.{Opening}
use Rattle.turn_cell.specs.declared.view.View.{View}
use Rattle.turn_cell.specs.declared.view.Role.TheVariants.{Noted}
use Rattle.turn_cell.specs.declared.cell.Turns.{Turns}
use Rattle.turn_cell.specs.declared.cell.Pass.{Pass}
use Rattle.turn_cell.specs.declared.cell.Held.{Held}
use Rattle.turn_cell.specs.declared.cell.Note.{Note}
use Rattle.turn_cell.specs.declared.cell.Seen.{Seen}
use Rattle.turn_cell.specs.History.{Each}
use Rattle.turn_cell.specs.Views.{view_full}

-- the value with which the cell was opened
abbrev pub start_of : {S : Type 0} → Turns S → S
start_of turns = turns.table.shared.key.start.value

-- how many passes the cell was opened with
abbrev pub numbers_of : {S : Type 0} → Turns S → ℕ
numbers_of turns = turns.table.shared.key.numbers

abbrev pub pass_number : {S : Type 0} {K : _} → Pass S K → ℕ
pass_number pass = pass.number

-- the list that the pass has seen
abbrev pub pass_list : {S : Type 0} {K : _} → Pass S K → List Entry
pass_list pass = pass.seat.me.0.seen

-- the number of the pass that has the turn
abbrev pub maker_of : {S : Type 0} {K : _} → Held S K → ℕ
maker_of held = held.turn.number

-- the list at the turn
abbrev pub turn_list : {S : Type 0} {K : _} → Held S K → List Entry
turn_list held = held.turn.seat.me.0.seen

-- the value as it was taken
abbrev pub taken_of : {S : Type 0} {K : _} → Held S K → S
taken_of held = held.turn.taken.value

-- the value as it is now
abbrev pub value_of : {S : Type 0} {K : _} → Held S K → S
value_of held = held.value

-- the list that the note keeps
abbrev pub note_list : {S : Type 0} {K : _} → Note S K → List Entry
note_list note = note.seat.me.0.seen

-- the whole list of a closed cell
abbrev pub whole_list : {S : Type 0} → Seen S → List Entry
whole_list seen = seen.seat.me.0.seen

-- the seat is one of the cell with this name and opening
abbrev pub Sits : {S : Type 0} → Seat (std.Option S) (View S) → TableId → Opening S → Type 0
Sits seat table_id key = (seat.table_id ≡ table_id) × (seat.me.0.key ≡ Some key)

-- the pass is one of this cell
abbrev pub IsPassOf : {S : Type 0} {K : _} → Pass S K → Turns S → Type 0
IsPassOf pass turns = Sits pass.seat turns.table.shared.table_id turns.table.shared.key

-- the turn is one of this cell
abbrev pub IsTurnOf : {S : Type 0} {K : _} → Held S K → Turns S → Type 0
IsTurnOf held turns = Sits held.turn.seat turns.table.shared.table_id turns.table.shared.key

-- the note is one of this cell
abbrev pub IsNoteOf : {S : Type 0} {K : _} → Note S K → Turns S → Type 0
IsNoteOf note turns = Sits note.seat turns.table.shared.table_id turns.table.shared.key

-- these are passes of this cell, with the numbers 0, 1, .. in this order
abbrev pub ArePasses : {S : Type 0} {K : _} → List (Pass S K) → Turns S → Type 0
ArePasses passes turns = Each passes (λ k p. (pass_number p ≡ k) × IsPassOf p turns)

-- the same, and none has seen an entry
abbrev pub AreFresh : {S : Type 0} {K : _} → List (Pass S K) → Turns S → Type 0
AreFresh passes turns = Each passes (λ k p. (pass_number p ≡ k) × IsPassOf p turns × (pass_list p ≡ []))

-- the seat is one of this cell, has this view and holds nothing
abbrev pub IsSeatOf : {S : Type 0} → Seat (std.Option S) (View S) → View S → Turns S → Type 0
IsSeatOf seat view turns = (seat.table_id ≡ turns.table.shared.table_id) × (seat.me ≡ (view, []))

-- the seat takes back the passes of this cell: it has seen the first list, and has taken back those of the second
abbrev pub IsKeeper : {S : Type 0} → Seat (std.Option S) (View S) → List Entry → List (ℕ × List Entry) → Turns S → Type 0
IsKeeper seat seen retired turns = IsSeatOf seat (view_full (Some turns.table.shared.key) seen Noted [] retired) turns
