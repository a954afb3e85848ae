-- Write-lock sections of histories in which no maker unlocks what it does not hold. This project's own.
use Rattle.std.specs.Prelude.{◌≡◌, ℕ, ◌∷◌, ◌++◌, IsTrue, IsFalse}
use Rattle.std.specs.List.{list_any}
use Rattle.faaslet_meaning.specs.Channels.{RegionOperation}
use Rattle.faaslet_meaning.specs.Region.{Region, holds}
use Rattle.faaslet_meaning.specs.History.{History, left, region_rules}
use Rattle.faaslet_meaning.specs.Sections.{unlocks}

-- Each Unlock finds a lock of its maker.
abbrev pub UnlocksHeld : Region → History RegionOperation → Type 0
UnlocksHeld s history =
    (maker : ℕ) (before behind : History RegionOperation)
    → history ≡ before ++ (maker, RegionOperation.unlock) ∷ behind
    → IsTrue (holds (left region_rules s before) maker)

-- Behind a LockWrite of a maker, and before its Unlock, there is no entry of another maker.
abbrev pub HasOwnSections : History RegionOperation → Type 0
HasOwnSections history =
    (maker other : ℕ) (op : RegionOperation) (before between behind : History RegionOperation)
    → history ≡ before ++ (maker, RegionOperation.lock_write) ∷ (between ++ (other, op) ∷ behind)
    → IsFalse (list_any (unlocks maker) between)
    → other ≡ maker
