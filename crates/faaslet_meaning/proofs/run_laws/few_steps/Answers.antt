use Rattle.faaslet_meaning.proofs.Counted.{few_from_fresh}
use Rattle.faaslet_meaning.proofs.run_laws.few_steps.Goals as goal

pub returns : goal.returns
returns c = few_from_fresh
