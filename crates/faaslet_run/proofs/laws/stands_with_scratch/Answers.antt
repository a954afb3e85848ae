use Rattle.faaslet_run.proofs.Standing.{kept_stands}
use Rattle.faaslet_run.proofs.laws.stands_with_scratch.Goals as goal

pub returns : goal.returns
returns c = kept_stands
