use Rattle.session_meaning.proofs.AsksGranted.{one_event}
use Rattle.session_meaning.proofs.cut_laws.one_event.Goals as goal

pub returns : goal.returns
returns c = λ plan functions keys events w e closed made. one_event plan functions keys events w e closed made
