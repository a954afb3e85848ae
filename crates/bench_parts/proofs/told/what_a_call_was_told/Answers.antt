-- By the lemmas that say it.
use Rattle.bench_parts.proofs.Tells.{answered_told, answered_keys, answered_table}
use Rattle.bench_parts.proofs.told.what_a_call_was_told.Goals as goal

pub returns-clause-told : goal.returns-clause-told
returns-clause-told c = answered_told

pub returns-clause-of_keys : goal.returns-clause-of_keys
returns-clause-of_keys c = answered_keys

pub returns-clause-on_table : goal.returns-clause-on_table
returns-clause-on_table c = answered_table
