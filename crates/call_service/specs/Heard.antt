-- What a maker was told of the call table, by a list of entries. This project's own.
use Rattle.std.specs.Prelude.{◌≡◌, ℕ, List, map}
use Rattle.std.specs.List.{AllByRecursion}
use Rattle.faaslet_meaning.specs.Channels.{Reply}
use Rattle.faaslet_meaning.specs.History.{History, told_to, table_rules}
use Rattle.faaslet_meaning.specs.Spelling.{spelled_on_table, OperationFits, Spells}
use Rattle.faaslet_meaning.specs.Table.{Table, TableOperation}
use Rattle.turn_cell.specs.declared.view.Entry.{Entry}

-- A list of entries spells this history, in which each operation can be told from its spelling.
pub record SpellsHistory (list : List Entry) (history : History TableOperation) : Type 0 where
  pub spells : Spells spelled_on_table (map (λ e. (e.maker, e.numbers)) list) history
  pub fits : AllByRecursion (λ e. OperationFits e.1) history

-- Of a table that began as `start`, the maker was told this by the list: each of its operations with the reply, in order.
pub record Heard (start : Table) (maker : ℕ) (list : List Entry) (told : List (TableOperation × Reply)) : Type 0 where
  pub history : History TableOperation
  pub spells : SpellsHistory list history
  pub told_so : told ≡ told_to table_rules maker start history
