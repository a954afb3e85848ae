-- By the lemma that says it.
use Rattle.session_ends.proofs.Unlocked.{rests_unlocked}
use Rattle.session_ends.proofs.benches.a_bench_rests_without_locks.Goals as goal

pub returns : goal.returns
returns c = rests_unlocked
