use Rattle.faaslet_meaning.proofs.NeverStuck.{never_stuck}
use Rattle.faaslet_meaning.proofs.typing_laws.never_stuck.Goals as goal

pub returns : goal.returns
returns c = never_stuck
