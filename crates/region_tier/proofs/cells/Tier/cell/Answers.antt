-- The cell that is read stands at its key.
use Rattle.region_tier.specs.Tiers.{cells_of}
use Rattle.region_tier.proofs.At.{read_at}
use Rattle.region_tier.proofs.cells.Tier.cell.Goals as goal

pub returns-clause-at : goal.returns-clause-at
returns-clause-at c = read_at (cells_of c.args.self.now) c.args.key c.index.result.now c.requires c.index.ensures
