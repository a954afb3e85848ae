use Rattle.faaslet_meaning.proofs.Ways.{one_way_by_channels}
use Rattle.faaslet_meaning.proofs.call_laws.one_way_by_channels.Goals as goal

pub returns : goal.returns
returns c = λ j p q r first second h k n m f g e. one_way_by_channels first second h k n m f g e
