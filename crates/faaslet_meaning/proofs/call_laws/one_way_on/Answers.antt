use Rattle.faaslet_meaning.proofs.Ways.{one_way_on}
use Rattle.faaslet_meaning.proofs.call_laws.one_way_on.Goals as goal

pub returns : goal.returns
returns c = λ j p q r first second more h k f g e. one_way_on first second more h k f g e
