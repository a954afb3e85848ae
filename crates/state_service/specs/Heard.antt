-- What a maker was told, by a list of entries. This project's own.
use Rattle.std.specs.Prelude.{◌≡◌, ℕ, List, map}
use Rattle.faaslet_meaning.specs.Channels.{RegionOperation, Operation, on_region, Reply}
use Rattle.faaslet_meaning.specs.History.{History, told_to, region_rules}
use Rattle.faaslet_meaning.specs.Region.{Region}
use Rattle.faaslet_meaning.specs.Spelling.{spelled, Spells}
use Rattle.turn_cell.specs.declared.view.Entry.{Entry}

-- a list of entries spells this history
abbrev pub SpellsHistory : List Entry → History RegionOperation → Type 0
SpellsHistory list history = Spells spelled (map (λ e. (e.maker, e.numbers)) list) history

-- Of a region that began as `start`, the maker was told this by the list: each of its operations with the reply, in order.
pub record Heard (start : Region) (maker : ℕ) (list : List Entry) (told : List (Operation × Reply)) : Type 0 where
  pub history : History RegionOperation
  pub spells : SpellsHistory list history
  pub told_so : told ≡ map (λ x. (on_region x.0, x.1)) (told_to region_rules maker start history)
