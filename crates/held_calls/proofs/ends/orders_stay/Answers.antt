-- By the lemmas that say it.
use Rattle.held_calls.proofs.Walks.{list_ordered, empty_ordered}
use Rattle.held_calls.proofs.ends.orders_stay.Goals as goal

pub returns-clause-kept : goal.returns-clause-kept
returns-clause-kept c = list_ordered

pub returns-clause-from_none : goal.returns-clause-from_none
returns-clause-from_none c = empty_ordered
