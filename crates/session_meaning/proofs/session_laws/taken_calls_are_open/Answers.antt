use Rattle.session_meaning.proofs.OpenCalls.{calls_open}
use Rattle.session_meaning.proofs.session_laws.taken_calls_are_open.Goals as goal

pub returns : goal.returns
returns c = λ plan events w fine made. calls_open plan events w fine made
