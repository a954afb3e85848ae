-- One turn of a maker, and its one entry there. This project's own.
use Rattle.std.specs.Prelude.{◌≡◌, ℕ, List, [], ◌∷◌, ◌++◌}
use Rattle.faaslet_meaning.specs.Channels.{Reply}
use Rattle.faaslet_meaning.specs.Spelling.{spelled_on_table, OperationFits}
use Rattle.faaslet_meaning.specs.Table.{TableOperation}
use Rattle.turn_cell.specs.declared.view.Entry.{Entry}
use Rattle.turn_cell.specs.History.{Stands, Extends, entry}
use Rattle.call_table.specs.Made.{Made}
use Rattle.call_table.specs.Makers.{MakesTable, MayMake}
use Rattle.call_table.specs.Session.{SessionTable}

-- At a turn of the maker the table was this: its list is then the earlier one and entries of others.
pub record AtItsTurn (start : SessionTable) (maker : ℕ) (old list : List Entry) (t : SessionTable) : Type 0 where
  pub leads : Stands MakesTable start list t
  pub others : Extends maker old list

-- The maker's one entry more is this operation, which it may make, answered by the table at its turn. The list with it leads
-- to the table that the operation leaves.
pub record Entered (start : SessionTable) (maker : ℕ) (old new : List Entry) (made : TableOperation × Reply) : Type 0 where
  pub list : List Entry
  pub before : SessionTable
  pub after : SessionTable
  pub turn : AtItsTurn start maker old list before
  pub entered : new ≡ list ++ entry maker (spelled_on_table made.0) ∷ []
  pub leads : Stands MakesTable start new after
  pub did : Made before made.0 after made.1
  pub may : MayMake before maker made.0
  pub fits : OperationFits made.0

-- The maker made nothing: its list has entries of others more.
abbrev pub Left : SessionTable → ℕ → List Entry → List Entry → Type 0
Left start maker old new = (t : SessionTable) × AtItsTurn start maker old new t
