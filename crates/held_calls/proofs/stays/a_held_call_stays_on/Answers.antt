-- By the lemmas that say it.
use Rattle.held_calls.proofs.Turned.{taken_runs, same_runs, lists_run, same_still}
use Rattle.held_calls.proofs.stays.a_held_call_stays_on.Goals as goal

pub returns-clause-taken : goal.returns-clause-taken
returns-clause-taken c = taken_runs

pub returns-clause-runs : goal.returns-clause-runs
returns-clause-runs c = same_runs

pub returns-clause-by_lists : goal.returns-clause-by_lists
returns-clause-by_lists c = lists_run

pub returns-clause-same : goal.returns-clause-same
returns-clause-same c = same_still
