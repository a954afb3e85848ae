use Rattle.faaslet_meaning.proofs.OneAnswer.{one_answer}
use Rattle.faaslet_meaning.proofs.grammar_laws.one_answer.Goals as goal

pub returns : goal.returns
returns c = one_answer
