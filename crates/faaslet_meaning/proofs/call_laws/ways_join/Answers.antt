use Rattle.faaslet_meaning.proofs.Ways.{joined, parted}
use Rattle.faaslet_meaning.proofs.call_laws.ways_join.Goals as goal

pub returns-clause-joined : goal.returns-clause-joined
returns-clause-joined c = λ j p q r before after g h. joined g h

pub returns-clause-parted : goal.returns-clause-parted
returns-clause-parted c = λ j p r before after g. parted before after g
