use Rattle.session_meaning.proofs.Schedules.{schedule_stands, schedule_ends}
use Rattle.session_meaning.proofs.session_laws.schedule_stands.Goals as goal

pub returns-clause-stands : goal.returns-clause-stands
returns-clause-stands c = schedule_stands

pub returns-clause-ends : goal.returns-clause-ends
returns-clause-ends c = schedule_ends
