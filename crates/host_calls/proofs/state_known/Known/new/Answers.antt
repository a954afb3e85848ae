use Rattle.host_calls.proofs.Keeping.{keeps_nothing}
use Rattle.host_calls.proofs.state_known.Known.new.Goals as goal

pub returns-clause-keeps : goal.returns-clause-keeps
returns-clause-keeps c = keeps_nothing
