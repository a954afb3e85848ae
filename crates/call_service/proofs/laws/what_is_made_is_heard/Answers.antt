-- By the lemma that says it.
use Rattle.call_service.proofs.Listens.{made_heard}
use Rattle.call_service.proofs.laws.what_is_made_is_heard.Goals as goal

pub returns : goal.returns
returns c = made_heard
