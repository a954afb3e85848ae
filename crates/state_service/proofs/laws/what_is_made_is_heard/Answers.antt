-- By what was made: nothing, or one operation.
use Rattle.state_service.proofs.Listens.{made_heard}
use Rattle.state_service.proofs.laws.what_is_made_is_heard.Goals as goal

pub returns : goal.returns
returns c = made_heard
