use Rattle.session_meaning.proofs.FilePlans.{file_fits}
use Rattle.session_meaning.proofs.plan_laws.file_gives_well_formed.Goals as goal

pub returns : goal.returns
returns c = file_fits
