use Rattle.session_meaning.proofs.PartMakers.{holder_of_part}
use Rattle.session_meaning.proofs.ReasonChildren.{child_of_part}
use Rattle.session_meaning.proofs.cut_laws.reasons_name_the_part.Goals as goal

pub returns : goal.returns
returns c =
    record {
      holders = λ plan functions keys events w e holder closed made i reason. holder_of_part plan functions keys events w e holder closed made i reason;
      children = λ plan functions keys events w e child fine closed made i reason. child_of_part plan functions keys events w e child fine closed made i reason;
    }
