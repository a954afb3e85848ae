-- By the lemma that says it.
use Rattle.told_asks.proofs.Known.{stay_known}
use Rattle.told_asks.proofs.children.children_stay_known.Goals as goal

pub returns : goal.returns
returns c = stay_known
