-- An entry of others leaves a bench's records but for their numbers of children.
use Rattle.call_table.proofs.Mine.{others_leave}
use Rattle.call_table.proofs.kept.others_leave_a_bench.Goals as goal

pub returns : goal.returns
returns c = others_leave
