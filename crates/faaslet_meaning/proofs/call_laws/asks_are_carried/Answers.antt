use Rattle.faaslet_meaning.proofs.CallAsks.{asks_carried}
use Rattle.faaslet_meaning.proofs.call_laws.asks_are_carried.Goals as goal

pub returns : goal.returns
returns c = λ j s t q transcript n h g. asks_carried j s t q n h g
