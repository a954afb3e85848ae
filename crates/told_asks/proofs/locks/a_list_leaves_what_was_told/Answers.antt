-- By the lemma that says it.
use Rattle.told_asks.proofs.LockTurns.{list_leaves}
use Rattle.told_asks.proofs.locks.a_list_leaves_what_was_told.Goals as goal

pub returns : goal.returns
returns c = list_leaves
