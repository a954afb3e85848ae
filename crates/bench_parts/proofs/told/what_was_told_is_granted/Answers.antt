-- By the lemmas that say it.
use Rattle.bench_parts.proofs.Granted.{told_granted, told_table}
use Rattle.bench_parts.proofs.told.what_was_told_is_granted.Goals as goal

pub returns-clause-granted : goal.returns-clause-granted
returns-clause-granted c = told_granted

pub returns-clause-on_table : goal.returns-clause-on_table
returns-clause-on_table c = told_table
