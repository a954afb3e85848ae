use Rattle.session_meaning.proofs.AsksGranted.{cut_is_world}
use Rattle.session_meaning.proofs.cut_laws.cut_is_world.Goals as goal

pub returns : goal.returns
returns c = λ plan functions keys events w closed made. cut_is_world plan functions keys events w closed made
