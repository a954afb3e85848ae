use Rattle.session_meaning.proofs.LoadPlans.{load_fits}
use Rattle.session_meaning.proofs.plan_laws.load_plan_is_well_formed.Goals as goal

pub returns : goal.returns
returns c = load_fits
