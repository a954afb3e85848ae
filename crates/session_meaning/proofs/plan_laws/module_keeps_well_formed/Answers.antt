use Rattle.session_meaning.proofs.FilePlans.{module_keeps}
use Rattle.session_meaning.proofs.plan_laws.module_keeps_well_formed.Goals as goal

pub returns : goal.returns
returns c = module_keeps
