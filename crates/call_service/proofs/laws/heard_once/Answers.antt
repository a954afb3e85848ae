-- By the lemma that says it.
use Rattle.call_service.proofs.Listens.{heard_once}
use Rattle.call_service.proofs.laws.heard_once.Goals as goal

pub returns : goal.returns
returns c = heard_once
