-- Locks as those of a region, by whose definition they block. This project's own.
use Rattle.std.specs.Prelude.{ℕ, List, [], Option, None, Some, Result, Ok, Err, false, not, filter, length, ◌==◌}
use Rattle.faaslet_meaning.specs.Region.{Region, Kind, reads, writes, holders}
use Rattle.state_locks.specs.Held.{Locks}
use Rattle.state_locks.specs.declared.locks.Blocked.{Blocked}
use Rattle.state_locks.specs.declared.locks.LockKind.{LockKind}
use Rattle.state_locks.specs.declared.locks.LockKind.TheVariants as kind

-- a region that has these locks and nothing else
abbrev pub locked : Locks → Region
locked l = record { bytes = []; size = 0; used = 0; present = false; writer = l.writer; readers = l.readers }

abbrev pub kind_of : LockKind → Kind
kind_of kind.Reads = reads
kind_of kind.Writes = writes

-- how many locks are held
abbrev pub held : Locks → ℕ
held l = length (holders (locked l) writes)

-- those that are other makers
abbrev pub apart_from : ℕ → List ℕ → List ℕ
apart_from maker makers = filter (λ holder. not (holder == maker)) makers

-- the holder that an answer names, where it is a refusal
abbrev pub holder_of : {T : Type 0} → Result T Blocked → Option ℕ
holder_of (Ok x) = None
holder_of (Err b) = Some b.holder
