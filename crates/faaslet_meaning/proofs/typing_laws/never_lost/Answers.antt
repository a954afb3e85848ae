use Rattle.faaslet_meaning.proofs.NeverStuck.{never_lost}
use Rattle.faaslet_meaning.proofs.typing_laws.never_lost.Goals as goal

pub returns : goal.returns
returns c = never_lost
