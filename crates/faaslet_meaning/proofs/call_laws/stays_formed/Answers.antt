use Rattle.faaslet_meaning.proofs.CallAsks.{stays_formed}
use Rattle.faaslet_meaning.proofs.call_laws.stays_formed.Goals as goal

pub returns : goal.returns
returns c = λ j s p transcript h g. stays_formed j s p h g
