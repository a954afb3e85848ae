-- By the lemma that says it.
use Rattle.told_asks.proofs.LockTurns.{leaves_both}
use Rattle.told_asks.proofs.locks.locks_are_left_in_order.Goals as goal

pub returns : goal.returns
returns c = leaves_both
