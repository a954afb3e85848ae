-- What many turns of one pass come to. This project's own.
use Rattle.std.specs.Prelude.{◌≡◌, ℕ, [], ◌∷◌, ◌++◌, replicate}
use Rattle.turn_cell.specs.declared.cell.Turns.{Turns}
use Rattle.turn_cell.specs.declared.cell.Pass.{Pass}
use Rattle.turn_cell.specs.Cell.{IsPassOf, pass_list, pass_number}
use Rattle.turn_cell.specs.History.{own, entry}

-- the pass is as before, and has made the entry of this amount so many times
abbrev pub HasAdded : {S : Type 0} {K : _} → Turns S → ℕ → ℕ → Pass S K → Pass S K → Type 0
HasAdded turns amount times before after = IsPassOf after turns × (pass_number after ≡ pass_number before)
    × (own (pass_number before) (pass_list after) ≡ own (pass_number before) (pass_list before) ++ replicate times (entry (pass_number before) (amount ∷ [])))
