-- By the lemmas that say it.
use Rattle.held_calls.proofs.Walks.{cut, behind, joined}
use Rattle.held_calls.proofs.ends.lists_are_cut_and_joined.Goals as goal

pub returns-clause-cut : goal.returns-clause-cut
returns-clause-cut c = cut

pub returns-clause-rest : goal.returns-clause-rest
returns-clause-rest c = behind

pub returns-clause-joined : goal.returns-clause-joined
returns-clause-joined c = joined
