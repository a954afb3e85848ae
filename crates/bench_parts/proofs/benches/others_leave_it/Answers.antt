-- By the lemmas that say it.
use Rattle.bench_parts.proofs.Calls.{others_leave_ran, others_leave_runs}
use Rattle.bench_parts.proofs.benches.others_leave_it.Goals as goal

pub returns-clause-ran : goal.returns-clause-ran
returns-clause-ran c = others_leave_ran

pub returns-clause-runs : goal.returns-clause-runs
returns-clause-runs c = others_leave_runs
