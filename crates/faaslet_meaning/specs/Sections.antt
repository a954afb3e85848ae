-- Write-lock sections of a history. This project's own.
use Rattle.std.specs.Prelude.{◌≡◌, ◌≢◌, ℕ, Bool, true, false, ◌∷◌, ◌++◌, IsFalse, ◌==◌, ◌&&◌}
use Rattle.std.specs.List.{list_any}
use Rattle.faaslet_meaning.specs.Channels.{RegionOperation}
use Rattle.faaslet_meaning.specs.Region.{Region, holds}
use Rattle.faaslet_meaning.specs.History.{History, left, region_rules}

abbrev pub is_unlock : RegionOperation → Bool
is_unlock RegionOperation.unlock = true
is_unlock op = false

-- an entry is an Unlock of this maker
abbrev pub unlocks : ℕ → ℕ × RegionOperation → Bool
unlocks maker e = (e.0 == maker) && is_unlock e.1

-- Behind a LockWrite of a maker, and before its Unlock, the only entry of another maker is an Unlock that finds no lock of its
-- maker.
abbrev pub HasSections : Region → History RegionOperation → Type 0
HasSections s history =
    (maker other : ℕ) (op : RegionOperation) (before between behind : History RegionOperation)
    → history ≡ before ++ (maker, RegionOperation.lock_write) ∷ (between ++ (other, op) ∷ behind)
    → IsFalse (list_any (unlocks maker) between)
    → other ≢ maker
    → (op ≡ RegionOperation.unlock) × IsFalse (holds (left region_rules s (before ++ (maker, RegionOperation.lock_write) ∷ between)) other)
