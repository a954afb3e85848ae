-- What an entry of the bench itself leaves of its calls.
use Rattle.call_table.proofs.Mine.{took, ended}
use Rattle.call_table.proofs.kept.a_bench_takes_and_ends.Goals as goal

pub returns-clause-takes : goal.returns-clause-takes
returns-clause-takes c = took

pub returns-clause-ends : goal.returns-clause-ends
returns-clause-ends c = λ t call bench o used output counts maker on. ended t call bench o used output counts maker on
