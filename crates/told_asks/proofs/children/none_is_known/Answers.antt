-- By the lemma that says it.
use Rattle.told_asks.proofs.Known.{none_known}
use Rattle.told_asks.proofs.children.none_is_known.Goals as goal

pub returns : goal.returns
returns c = none_known
