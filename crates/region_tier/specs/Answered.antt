-- What an access leaves: one entry, answered at its place. This project's own.
use Rattle.std.specs.Prelude.{◌≡◌, ℕ, List, [], ◌∷◌, ◌++◌, Some}
use Rattle.faaslet_meaning.specs.declared.ask.Reply as coded
use Rattle.faaslet_meaning.specs.Asks.{reply_of}
use Rattle.faaslet_meaning.specs.Channels.{RegionOperation, Reply}
use Rattle.faaslet_meaning.specs.Region.{reply}
use Rattle.faaslet_meaning.specs.Spelling.{spelled}
use Rattle.shared_region.specs.Entries.{MakesShared}
use Rattle.shared_region.specs.Operations.{laid}
use Rattle.shared_region.specs.Shared.{Shared}
use Rattle.turn_cell.specs.declared.view.Entry.{Entry}
use Rattle.turn_cell.specs.History.{Stands, Extends, entry}

-- Of a region that began as `start`, a maker's list `old` has become `new`: entries of others, and then its entry of this
-- operation. The answer is the reply of the region to which the entries before it lead.
pub record Answered (start : Shared) (maker : ℕ) (operation : RegionOperation) (old new : List Entry) (answer : Reply) : Type 0 where
  pub before : List Entry
  pub region : Shared
  pub leads : Stands MakesShared start before region
  pub others : Extends maker old before
  pub entered : new ≡ before ++ entry maker (spelled operation) ∷ []
  pub reply_so : answer ≡ reply region.region maker operation

-- The same of an answer of the code, which stands for the reply with the scratch. Bytes of the reply lie at the front of the
-- scratch, and nothing else of it changed.
pub record Told (start : Shared) (maker : ℕ) (operation : RegionOperation) (old new : List Entry) (code : coded.Reply) (scratch told : List ℕ) : Type 0 where
  pub answer : Reply
  pub stands_for : reply_of code told ≡ Some answer
  pub laid_so : told ≡ laid answer scratch
  pub answered : Answered start maker operation old new answer
