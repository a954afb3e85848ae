use Rattle.faaslet_meaning.proofs.One.{one_run}
use Rattle.faaslet_meaning.proofs.run_laws.one_outcome.Goals as goal

pub returns : goal.returns
returns c = λ f input told other o p x y used spent n m same a b. one_run f input told other o p x y used spent n m same a b
