use Rattle.faaslet_meaning.proofs.Bounded.{step_bound}
use Rattle.faaslet_meaning.proofs.run_laws.no_step_asks_more.Goals as goal

pub returns : goal.returns
returns c = step_bound
