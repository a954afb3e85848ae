use Rattle.session_meaning.proofs.FilePlans.{finished}
use Rattle.session_meaning.proofs.plan_laws.finished_draft_is_well_formed.Goals as goal

pub returns : goal.returns
returns c = finished
