-- By the lemma that says it.
use Rattle.told_asks.proofs.Free.{locks_in_turn}
use Rattle.told_asks.proofs.locks.a_call_locks_in_turn.Goals as goal

pub returns : goal.returns
returns c = locks_in_turn
