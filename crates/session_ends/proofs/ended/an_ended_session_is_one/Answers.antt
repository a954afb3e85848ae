-- By the lemma that says it.
use Rattle.session_ends.proofs.One.{ended_is_one}
use Rattle.session_ends.proofs.ended.an_ended_session_is_one.Goals as goal

pub returns : goal.returns
returns c = ended_is_one
