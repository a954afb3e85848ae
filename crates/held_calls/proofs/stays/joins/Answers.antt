-- By the lemmas that say it.
use Rattle.held_calls.proofs.Alike.{same_none, same_both}
use Rattle.held_calls.proofs.stays.joins.Goals as goal

pub returns-clause-none : goal.returns-clause-none
returns-clause-none c = same_none

pub returns-clause-both : goal.returns-clause-both
returns-clause-both c = same_both
