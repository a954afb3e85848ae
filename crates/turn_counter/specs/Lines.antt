-- Lines that were written. This project's own.
use Rattle.std.specs.Prelude.{ℕ, Bool, true, false, List, [], ◌∷◌}
use Rattle.turn_cell.specs.declared.view.Entry.{Entry}
use Rattle.turn_cell.specs.History.{entry}

-- the entry of a line, where it was written
abbrev pub entry_if : Bool → ℕ → ℕ → List Entry
entry_if true maker line = entry maker (line ∷ []) ∷ []
entry_if false maker line = []
