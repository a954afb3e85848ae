-- By the lemma that says it.
use Rattle.call_service.proofs.Further.{children_stay}
use Rattle.call_service.proofs.laws.children_stay.Goals as goal

pub returns : goal.returns
returns c = children_stay
