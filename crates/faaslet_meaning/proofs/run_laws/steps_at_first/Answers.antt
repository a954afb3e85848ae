use Rattle.faaslet_meaning.proofs.Counted.{steps_at_first}
use Rattle.faaslet_meaning.proofs.run_laws.steps_at_first.Goals as goal

pub returns : goal.returns
returns c = steps_at_first
