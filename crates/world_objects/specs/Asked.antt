-- Operations as a call asks them: which of the definition's they are with the bytes of the scratch, and what they take.
-- This project's own.
use Rattle.std.specs.Prelude.{ℕ, ◌+◌, ◌<◌, ◌≤◌, List, length, take}
use Rattle.faaslet_meaning.specs.declared.ask.AskOp.{AskOp}
use Rattle.faaslet_meaning.specs.declared.ask.AskOp.TheVariants as op
use Rattle.faaslet_meaning.specs.declared.ask.Move.{Move}
use Rattle.faaslet_meaning.specs.declared.ask.Move.TheVariants as move
use Rattle.faaslet_meaning.specs.Channels.{RegionOperation}
use Rattle.faaslet_meaning.specs.Region.{Region, Kind, reads, writes, always}
use Rattle.shared_region.specs.Shared.{Shared, held_in}

-- what it carries is the front of the scratch
abbrev pub operation : AskOp → List ℕ → RegionOperation
operation op.Probe scratch = RegionOperation.probe
operation (op.Read off len) scratch = RegionOperation.read off len
operation (op.Write off len) scratch = RegionOperation.write off (take len scratch)
operation (op.Append len) scratch = RegionOperation.append (take len scratch)
operation op.Size scratch = RegionOperation.size
operation op.LockRead scratch = RegionOperation.lock_read
operation op.LockWrite scratch = RegionOperation.lock_write
operation op.Unlock scratch = RegionOperation.unlock

abbrev pub asked_kind : AskOp → Kind
asked_kind op.Probe = reads
asked_kind (op.Read off len) = reads
asked_kind (op.Write off len) = writes
asked_kind (op.Append len) = writes
asked_kind op.Size = reads
asked_kind op.LockRead = reads
asked_kind op.LockWrite = writes
asked_kind op.Unlock = always

-- a scratch of so many bytes holds what it carries
abbrev pub Carries : AskOp → ℕ → Type 0
Carries (op.Write off len) scratch = len ≤ scratch
Carries (op.Append len) scratch = len ≤ scratch
Carries _ scratch = Unit {0}

-- its range lies in the bytes of the region, and the scratch holds what it carries and what is read
abbrev pub Fits : Region → AskOp → ℕ → Type 0
Fits s (op.Read off len) scratch = (off + len ≤ length s.bytes) × (len ≤ scratch)
Fits s (op.Write off len) scratch = (off + len ≤ length s.bytes) × (len ≤ scratch)
Fits s (op.Append len) scratch = len ≤ scratch
Fits s _ scratch = Unit {0}

-- how many locks more are held after it, at most
abbrev pub lock_count : AskOp → ℕ
lock_count op.LockRead = 1
lock_count op.LockWrite = 1
lock_count _ = 0

-- a read lock finds room
abbrev pub HasRoom : AskOp → Shared → Type 0
HasRoom op.LockRead s = held_in s < s.room
HasRoom _ s = Unit {0}

-- how many bytes a move moves, at a key of this size
abbrev pub moved_length : Move → ℕ → ℕ
moved_length move.Fill size = size
moved_length (move.Pull off len) size = len
moved_length (move.Push off len) size = len
