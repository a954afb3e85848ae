-- By what is known of lists that grow.
use Rattle.state_service.proofs.Listens.{heard_stays}
use Rattle.state_service.proofs.laws.heard_stays.Goals as goal

pub returns : goal.returns
returns c = heard_stays
