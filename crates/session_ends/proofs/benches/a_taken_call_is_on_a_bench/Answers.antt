-- By the lemma that says it.
use Rattle.session_ends.proofs.Calls.{taken_sits}
use Rattle.session_ends.proofs.benches.a_taken_call_is_on_a_bench.Goals as goal

pub returns : goal.returns
returns c = taken_sits
