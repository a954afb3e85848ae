-- By the lemma that says it.
use Rattle.call_service.proofs.Listens.{heard_stays}
use Rattle.call_service.proofs.laws.heard_stays.Goals as goal

pub returns : goal.returns
returns c = heard_stays
