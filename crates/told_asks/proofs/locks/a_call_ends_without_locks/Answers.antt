-- By the lemma that says it.
use Rattle.told_asks.proofs.Ends.{ends_without}
use Rattle.told_asks.proofs.locks.a_call_ends_without_locks.Goals as goal

pub returns : goal.returns
returns c = ends_without
