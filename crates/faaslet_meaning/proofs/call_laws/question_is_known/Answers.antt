use Rattle.faaslet_meaning.proofs.CallAsks.{question_known}
use Rattle.faaslet_meaning.proofs.call_laws.question_is_known.Goals as goal

pub returns : goal.returns
returns c = λ j s t q transcript h g. question_known j s t q h g
