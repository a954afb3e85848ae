use Rattle.session_meaning.proofs.DistinctCalls.{calls_apart}
use Rattle.session_meaning.proofs.cut_laws.distinct_calls.Goals as goal

pub returns : goal.returns
returns c = λ plan events w apart made. calls_apart plan events w apart made
