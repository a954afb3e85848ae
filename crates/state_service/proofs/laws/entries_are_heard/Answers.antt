-- By what is known of lists that grow.
use Rattle.state_service.proofs.Listens.{heard_more}
use Rattle.state_service.proofs.laws.entries_are_heard.Goals as goal

pub returns : goal.returns
returns c = heard_more
