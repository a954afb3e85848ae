-- By the lemma that says it.
use Rattle.worker_turns.proofs.Ends.{taken_may_end}
use Rattle.worker_turns.proofs.laws.what_was_taken_may_end.Goals as goal

pub returns : goal.returns
returns c = taken_may_end
