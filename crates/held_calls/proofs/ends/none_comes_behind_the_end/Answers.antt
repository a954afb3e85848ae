-- By the lemmas that say it.
use Rattle.held_calls.proofs.Walks.{no_more, none_extends}
use Rattle.held_calls.proofs.ends.none_comes_behind_the_end.Goals as goal

pub returns-clause-front : goal.returns-clause-front
returns-clause-front c = no_more

pub returns-clause-others : goal.returns-clause-others
returns-clause-others c = none_extends
