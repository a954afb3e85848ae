use Rattle.session_meaning.proofs.PathTexts.{paths_apart}
use Rattle.session_meaning.proofs.cut_laws.distinct_paths.Goals as goal

pub returns : goal.returns
returns c = λ plan events w apart plain made. paths_apart plan events w apart plain made
