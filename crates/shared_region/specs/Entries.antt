-- What an entry makes of a region that is kept in turns. This project's own.
use Rattle.std.specs.Prelude.{◌≡◌, ℕ, ◌+◌, ◌≤◌, true, false, List, length}
use Rattle.faaslet_meaning.specs.Channels.{RegionOperation}
use Rattle.faaslet_meaning.specs.History.{region_rules}
use Rattle.faaslet_meaning.specs.Region.{Region, holds}
use Rattle.faaslet_meaning.specs.Spelling.{spelled, Makes}
use Rattle.shared_region.specs.Shared.{Shared}

-- the range of an operation lies in so many bytes
abbrev pub InBytes : ℕ → RegionOperation → Type 0
InBytes n (RegionOperation.read off len) = off + len ≤ n
InBytes n (RegionOperation.send off len) = off + len ≤ n
InBytes n (RegionOperation.fill bytes) = length bytes ≤ n
InBytes n (RegionOperation.write off bytes) = off + length bytes ≤ n
InBytes n (RegionOperation.take off bytes) = off + length bytes ≤ n
InBytes n (RegionOperation.put off bytes) = off + length bytes ≤ n
InBytes n _ = Unit {0}

-- a maker locks where it holds nothing, and unlocks what it holds
abbrev pub OwnLocks : Region → ℕ → RegionOperation → Type 0
OwnLocks s maker RegionOperation.lock_read = holds s maker ≡ false
OwnLocks s maker RegionOperation.lock_write = holds s maker ≡ false
OwnLocks s maker RegionOperation.unlock = holds s maker ≡ true
OwnLocks s maker _ = Unit {0}

-- A maker's entry makes one region of another, where it spells an operation that may stand, lies in the bytes, and locks and
-- unlocks as a maker does. The room stays as it is.
pub record MakesShared (maker : ℕ) (entry : List ℕ) (before after : Shared) : Type 0 where
  pub region : Makes region_rules spelled maker entry before.region after.region
  pub in_bytes : InBytes (length before.region.bytes) region.operation
  pub own_locks : OwnLocks before.region maker region.operation
  pub room : after.room ≡ before.room
