-- By the lemmas that say it.
use Rattle.session_ends.proofs.Hearing.{heard_region, heard_table}
use Rattle.session_ends.proofs.benches.what_is_heard_is_told.Goals as goal

pub returns-clause-region : goal.returns-clause-region
returns-clause-region c = heard_region

pub returns-clause-table : goal.returns-clause-table
returns-clause-table c = heard_table
