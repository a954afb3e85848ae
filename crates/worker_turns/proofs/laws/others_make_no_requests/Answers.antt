-- By the lemma that says it.
use Rattle.worker_turns.proofs.Coming.{others_bring_none}
use Rattle.worker_turns.proofs.laws.others_make_no_requests.Goals as goal

pub returns : goal.returns
returns c = others_bring_none
