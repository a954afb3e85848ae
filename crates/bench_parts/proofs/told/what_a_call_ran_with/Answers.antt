-- By the lemmas that say it.
use Rattle.bench_parts.proofs.Tells.{answered_ran, answered_broken, answered_counts}
use Rattle.bench_parts.proofs.told.what_a_call_ran_with.Goals as goal

pub returns-clause-ended : goal.returns-clause-ended
returns-clause-ended c = answered_ran

pub returns-clause-broken : goal.returns-clause-broken
returns-clause-broken c = answered_broken

pub returns-clause-counted : goal.returns-clause-counted
returns-clause-counted c = answered_counts
