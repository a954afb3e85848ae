-- By the lemmas that say it.
use Rattle.told_asks.proofs.Counting.{none_counted, kept_counts}
use Rattle.told_asks.proofs.children.children_are_counted.Goals as goal

pub returns-clause-none : goal.returns-clause-none
returns-clause-none c = none_counted

pub returns-clause-kept : goal.returns-clause-kept
returns-clause-kept c = kept_counts
