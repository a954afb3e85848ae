use Rattle.session_meaning.proofs.FilePlans.{some_answer}
use Rattle.session_meaning.proofs.plan_laws.file_has_an_answer.Goals as goal

pub returns : goal.returns
returns c = some_answer
