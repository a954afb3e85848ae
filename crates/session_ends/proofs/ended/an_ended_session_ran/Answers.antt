-- By the lemma that says it.
use Rattle.session_ends.proofs.Whole.{ended_ran}
use Rattle.session_ends.proofs.ended.an_ended_session_ran.Goals as goal

pub returns : goal.returns
returns c = ended_ran
