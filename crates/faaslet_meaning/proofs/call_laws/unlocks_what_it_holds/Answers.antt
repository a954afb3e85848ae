use Rattle.faaslet_meaning.proofs.CallAsks.{unlocks_held}
use Rattle.faaslet_meaning.proofs.call_laws.unlocks_what_it_holds.Goals as goal

pub returns : goal.returns
returns c = λ j s t c transcript h g. unlocks_held j s t c h g
