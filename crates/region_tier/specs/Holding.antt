-- Whether a maker holds a lock, by the entries that it made. This project's own.
use Rattle.std.specs.Prelude.{◌≡◌, ℕ, Bool, true, false, List, [], ◌∷◌, ◌==◌, if◌then◌else◌}
use Rattle.faaslet_meaning.specs.Channels.{RegionOperation}
use Rattle.turn_cell.specs.declared.view.Entry.{Entry}

-- the place of a spelled operation among those on a region
abbrev pub place : List ℕ → ℕ
place [] = 0
place (n ∷ ns) = n

-- whether a maker holds a lock after an entry of its own: after one that locks it does, after an Unlock it does not
abbrev pub locked_after : List ℕ → Bool → Bool
locked_after numbers before =
    if place numbers == 9 then true else
    (if place numbers == 10 then true else
    (if place numbers == 11 then false else before))

-- whether a maker holds a lock after a list, where it did or did not before
abbrev pub locked_by : ℕ → Bool → List Entry → Bool
locked_by maker before [] = before
locked_by maker before (e ∷ es) = locked_by maker (if e.maker == maker then locked_after e.numbers before else before) es

-- whether a maker holds a lock after a list, where nobody did before
abbrev pub has_lock : ℕ → List Entry → Bool
has_lock maker es = locked_by maker false es

-- by the entries that it made, a maker locks where it holds nothing and unlocks what it holds
abbrev pub LocksInTurn : RegionOperation → Bool → Type 0
LocksInTurn RegionOperation.lock_read held = held ≡ false
LocksInTurn RegionOperation.lock_write held = held ≡ false
LocksInTurn RegionOperation.unlock held = held ≡ true
LocksInTurn _ held = Unit {0}
