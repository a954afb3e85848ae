-- By the lemma that says it.
use Rattle.bench_parts.proofs.Tells.{answered_joins}
use Rattle.bench_parts.proofs.told.what_was_told_joins.Goals as goal

pub returns : goal.returns
returns c = answered_joins
