use Rattle.faaslet_meaning.proofs.Halves.{entries_are_halves}
use Rattle.faaslet_meaning.proofs.history_laws.entries_are_halves.Goals as goal

pub returns : goal.returns
returns c = entries_are_halves
