-- A region as a cell is opened with it, and what may be asked of it from then on. This project's own.
use Rattle.std.specs.Prelude.{◌≡◌, ℕ, ◌+◌, ◌≤◌, None, [], length}
use Rattle.faaslet_meaning.specs.declared.ask.RegionOp.{RegionOp}
use Rattle.faaslet_meaning.specs.declared.ask.RegionOp.TheVariants as op
use Rattle.shared_region.specs.Shared.{Shared}
use Rattle.turn_cell.specs.declared.cell.Turns.{Turns}
use Rattle.turn_cell.specs.Cell.{start_of, numbers_of}

-- nobody holds a lock, there is room for as many holders as there are makers, and the bytes have the size
pub record IsFree (start : Shared) (numbers : ℕ) : Type 0 where
  pub writer : start.region.writer ≡ None
  pub readers : start.region.readers ≡ []
  pub room : start.room ≡ numbers
  pub whole : start.region.size ≤ length start.region.bytes

abbrev pub IsOpened : Turns Shared → Type 0
IsOpened turns = IsFree (start_of turns) (numbers_of turns)

-- the range of an operation lies in the bytes, and the scratch holds what is read
abbrev pub InRange : Shared → RegionOp → ℕ → Type 0
InRange s (op.Read off len) scratch = (off + len ≤ length s.region.bytes) × (len ≤ scratch)
InRange s (op.Write off bytes) scratch = off + length bytes.now ≤ length s.region.bytes
InRange s _ scratch = Unit {0}
