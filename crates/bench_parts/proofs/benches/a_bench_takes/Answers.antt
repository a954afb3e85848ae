-- By the lemma that says it.
use Rattle.bench_parts.proofs.Takes.{takes_one}
use Rattle.bench_parts.proofs.benches.a_bench_takes.Goals as goal

pub returns : goal.returns
returns c = takes_one
