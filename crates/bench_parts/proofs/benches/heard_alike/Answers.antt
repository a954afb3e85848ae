-- By the lemmas that say it.
use Rattle.bench_parts.proofs.Calls.{heard_ran, heard_runs}
use Rattle.bench_parts.proofs.benches.heard_alike.Goals as goal

pub returns-clause-ran : goal.returns-clause-ran
returns-clause-ran c = heard_ran

pub returns-clause-runs : goal.returns-clause-runs
returns-clause-runs c = heard_runs
