use Rattle.session_meaning.proofs.TraceEnds.{has_schedule}
use Rattle.session_meaning.proofs.session_laws.has_schedule.Goals as goal

pub returns : goal.returns
returns c = λ plan seed fine. has_schedule plan seed fine
