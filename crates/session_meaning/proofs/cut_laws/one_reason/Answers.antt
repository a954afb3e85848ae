use Rattle.session_meaning.proofs.AsksGranted.{one_reason}
use Rattle.session_meaning.proofs.cut_laws.one_reason.Goals as goal

pub returns : goal.returns
returns c = λ plan functions keys events w e closed made is. one_reason plan functions keys events w e closed made is
