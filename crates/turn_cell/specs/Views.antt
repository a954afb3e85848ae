-- What a seat at the table of a cell knows, and what may be read of it. This project's own.
use Rattle.std.specs.Prelude.{◌≡◌, ℕ, List, [], Some, None}
use Rattle.std.specs.Prelude as std
use Rattle.turn_cell.specs.declared.view.Entry.{Entry}
use Rattle.turn_cell.specs.declared.view.Opening.{Opening}
use Rattle.turn_cell.specs.declared.view.View.{View}
use Rattle.turn_cell.specs.declared.view.Role.{Role}
use Rattle.turn_cell.specs.declared.view.Role.TheVariants.{Begins, Blank, Noted, Idle, Waits, Has, Counted, Sealed}

-- a view with nothing that it took in
abbrev pub view_of : {S : Type 0} → std.Option (Opening S) → List Entry → Role S → View S
view_of key seen role = record { key = key; role = role; seen = seen; heard = []; retired = [] }

-- a view with the list of a note and the passes that it took in
abbrev pub view_full : {S : Type 0} → std.Option (Opening S) → List Entry → Role S → List Entry → List (ℕ × List Entry) → View S
view_full key seen role heard retired = record { key = key; role = role; seen = seen; heard = heard; retired = retired }

-- the number of the pass that has this role
abbrev pub number_of : {S : Type 0} → Role S → ℕ
number_of (Idle n) = n
number_of (Waits n t) = n
number_of (Has n x) = n
number_of (Counted n) = n
number_of _ = 0

abbrev pub ticket_of : {S : Type 0} → Role S → ℕ
ticket_of (Waits n t) = t
ticket_of _ = 0

-- the limit on numbers, where the role knows it
abbrev pub limit_of : {S : Type 0} → Role S → ℕ
limit_of (Begins l) = l
limit_of (Blank l) = l
limit_of _ = 0

-- one where a role has a number and no ticket
abbrev pub idle : {S : Type 0} → Role S → ℕ
idle (Begins n) = 0
idle (Blank n) = 0
idle Noted = 0
idle (Idle n) = 1
idle (Waits n t) = 0
idle (Has n x) = 0
idle (Counted n) = 0
idle Sealed = 0

-- the pass with the number n has the turn
abbrev pub HasTurn : {S : Type 0} → ℕ → Role S → Type 0
HasTurn n (Has m x) = n ≡ m
HasTurn n (Counted m) = n ≡ m
HasTurn n _ = ⊥

-- how many passes the cell has that a view names
abbrev pub numbers_in : {S : Type 0} → std.Option (Opening S) → ℕ
numbers_in (Some key) = key.numbers
numbers_in None = 0
