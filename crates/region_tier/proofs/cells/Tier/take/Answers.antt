-- The cell of the key is there.
use Rattle.turn_cell.proofs.Frames.{there}
use Rattle.region_tier.proofs.cells.Tier.take.Goals as goal

pub cell-requires : goal.cell-requires
cell-requires g c = there _ _ _ c.requires.at_cell
