-- By the lemma that says it.
use Rattle.session_ends.proofs.Alone.{one_more}
use Rattle.session_ends.proofs.begins.the_session_enters_one_more.Goals as goal

pub returns : goal.returns
returns c = one_more
