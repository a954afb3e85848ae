-- The cell and the slot of the key are there.
use Rattle.turn_cell.proofs.Frames.{there}
use Rattle.region_tier.proofs.cells.Tier.give.Goals as goal

pub cell-requires : goal.cell-requires
cell-requires g c = there _ _ _ c.requires.out.at_cell

pub put_back-requires : goal.put_back-requires
put_back-requires g c = there _ _ _ c.requires.out.out
