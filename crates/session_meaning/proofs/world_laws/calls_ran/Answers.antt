use Rattle.session_meaning.proofs.CallsRan.{calls_ran}
use Rattle.session_meaning.proofs.world_laws.calls_ran.Goals as goal

pub returns : goal.returns
returns c = calls_ran
