use Rattle.faaslet_meaning.proofs.Ways.{one_way}
use Rattle.faaslet_meaning.proofs.call_laws.one_way.Goals as goal

pub returns : goal.returns
returns c = λ j p q r first second h k f g e. one_way first second h k f g e
