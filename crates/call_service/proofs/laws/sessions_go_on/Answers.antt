-- By the lemma that says it.
use Rattle.call_service.proofs.Further.{goes_on}
use Rattle.call_service.proofs.laws.sessions_go_on.Goals as goal

pub returns : goal.returns
returns c = goes_on
