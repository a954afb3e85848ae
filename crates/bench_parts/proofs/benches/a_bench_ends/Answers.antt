-- By the lemma that says it.
use Rattle.bench_parts.proofs.Ends.{ends_one}
use Rattle.bench_parts.proofs.benches.a_bench_ends.Goals as goal

pub returns : goal.returns
returns c = ends_one
