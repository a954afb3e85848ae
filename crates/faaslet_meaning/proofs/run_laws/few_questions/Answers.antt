use Rattle.faaslet_meaning.proofs.Counted.{few_questions}
use Rattle.faaslet_meaning.proofs.run_laws.few_questions.Goals as goal

pub returns : goal.returns
returns c = λ j p transcript last o run. few_questions run
