use Rattle.faaslet_meaning.proofs.Counted.{each_step_leaves_less}
use Rattle.faaslet_meaning.proofs.run_laws.each_step_leaves_less.Goals as goal

pub returns : goal.returns
returns c = each_step_leaves_less
