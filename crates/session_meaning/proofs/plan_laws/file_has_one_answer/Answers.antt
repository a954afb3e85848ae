use Rattle.session_meaning.proofs.FilePlans.{one_answer}
use Rattle.session_meaning.proofs.plan_laws.file_has_one_answer.Goals as goal

pub returns : goal.returns
returns c = one_answer
