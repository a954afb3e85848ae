-- By the lemma that says it.
use Rattle.call_service.proofs.Adds.{serving_adds}
use Rattle.call_service.proofs.laws.serving_only_adds.Goals as goal

pub returns : goal.returns
returns c = serving_adds
