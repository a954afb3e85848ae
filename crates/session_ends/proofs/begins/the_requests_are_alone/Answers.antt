-- By the lemma that says it.
use Rattle.session_ends.proofs.Alone.{alone}
use Rattle.session_ends.proofs.begins.the_requests_are_alone.Goals as goal

pub returns : goal.returns
returns c = alone
