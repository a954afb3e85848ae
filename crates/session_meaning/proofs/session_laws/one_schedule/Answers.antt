use Rattle.session_meaning.proofs.Schedules.{one_schedule}
use Rattle.session_meaning.proofs.session_laws.one_schedule.Goals as goal

pub returns : goal.returns
returns c = one_schedule
