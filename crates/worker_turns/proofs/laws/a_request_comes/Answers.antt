-- By the lemma that says it.
use Rattle.worker_turns.proofs.Coming.{one_comes}
use Rattle.worker_turns.proofs.laws.a_request_comes.Goals as goal

pub returns : goal.returns
returns c = one_comes
