-- By the lemmas that say it.
use Rattle.worker_turns.proofs.Ends.{by_others, by_own}
use Rattle.worker_turns.proofs.laws.a_call_may_end_later.Goals as goal

pub returns-clause-others : goal.returns-clause-others
returns-clause-others c = by_others

pub returns-clause-own : goal.returns-clause-own
returns-clause-own c = by_own
