use Rattle.session_meaning.proofs.PartMakers.{kin_of_part}
use Rattle.session_meaning.proofs.cut_laws.kin_are_of_part.Goals as goal

pub returns : goal.returns
returns c = λ plan functions keys events w closed made. kin_of_part plan functions keys events w closed made
