-- By what is known of lists that grow.
use Rattle.state_service.proofs.Listens.{heard_none}
use Rattle.state_service.proofs.laws.nothing_is_heard.Goals as goal

pub returns : goal.returns
returns c = heard_none
