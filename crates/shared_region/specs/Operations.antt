-- Operations of the code as those of a region. This project's own.
use Rattle.std.specs.Prelude.{ℕ, ◌+◌, ◌<◌, ◌≤◌, List, length}
use Rattle.faaslet_meaning.specs.declared.ask.RegionOp.{RegionOp}
use Rattle.faaslet_meaning.specs.declared.ask.RegionOp.TheVariants as op
use Rattle.faaslet_meaning.specs.Channels.{RegionOperation, Reply}
use Rattle.faaslet_meaning.specs.Memory.{over}
use Rattle.shared_region.specs.Shared.{Shared, held_in}

abbrev pub operation_of : RegionOp → RegionOperation
operation_of op.Probe = RegionOperation.probe
operation_of (op.Read off len) = RegionOperation.read off len
operation_of (op.Write off bytes) = RegionOperation.write off bytes.now
operation_of (op.Append bytes) = RegionOperation.append bytes.now
operation_of op.Size = RegionOperation.size
operation_of op.LockRead = RegionOperation.lock_read
operation_of op.LockWrite = RegionOperation.lock_write
operation_of op.Unlock = RegionOperation.unlock

-- what an operation asks for: its range lies in the bytes, the scratch holds what is read, and one more lock finds room
abbrev pub Fits : Shared → RegionOp → ℕ → Type 0
Fits s (op.Read off len) scratch = (off + len ≤ length s.region.bytes) × (len ≤ scratch)
Fits s (op.Write off bytes) scratch = off + length bytes.now ≤ length s.region.bytes
Fits s op.LockRead scratch = held_in s < s.room
Fits s _ scratch = Unit {0}

-- bytes of a reply lie at the front of the scratch; no other reply touches it
abbrev pub laid : Reply → List ℕ → List ℕ
laid (Reply.bytes content) scratch = over scratch 0 content
laid _ scratch = scratch
