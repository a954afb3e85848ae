-- Takes, Asks and Ends each by themselves.
use Rattle.world_core.proofs.Offered.{offered_so}
use Rattle.world_core.proofs.laws.floors_offer.Goals as goal

pub returns : goal.returns
returns c = offered_so
