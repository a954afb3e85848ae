-- By what is known of lists that grow.
use Rattle.state_service.proofs.Listens.{heard_once}
use Rattle.state_service.proofs.laws.heard_once.Goals as goal

pub returns : goal.returns
returns c = heard_once
