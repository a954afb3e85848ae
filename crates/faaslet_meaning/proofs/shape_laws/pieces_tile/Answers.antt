use Rattle.faaslet_meaning.proofs.Tiling.{pieces_tile}
use Rattle.faaslet_meaning.proofs.shape_laws.pieces_tile.Goals as goal

pub returns : goal.returns
returns c = pieces_tile
