-- What a maker leaves that gives its locks up.
use Rattle.std.proofs.Common.{◌≡◌, ℕ, Option, Some, None, true, false, eqb, refl}
use Rattle.std.specs.Option.{option_eq}
use Rattle.faaslet_meaning.specs.Channels.RegionOperation.{unlock}
use Rattle.faaslet_meaning.specs.Region.{after, unless_held_by}
use Rattle.state_locks.specs.Held.{Locks}
use Rattle.state_locks.specs.Locks.{locked, apart_from}

-- the writer is the maker
pub freed : (maker : ℕ) (w : Option ℕ) → option_eq eqb w (Some maker) ≡ true → None ≡ unless_held_by maker w
freed maker None e = refl
freed maker (Some h) e = rw e refl

-- the writer is another, or there is none
pub kept : (maker : ℕ) (w : Option ℕ) → option_eq eqb w (Some maker) ≡ false → w ≡ unless_held_by maker w
kept maker None e = refl
kept maker (Some h) e = rw e refl

pub given_up : (maker : ℕ) (old new : Locks) → new.writer ≡ unless_held_by maker old.writer → new.readers ≡ apart_from maker old.readers → locked new ≡ after (locked old) maker unlock
given_up maker old new e f = rw (e, f) refl
