-- By the lemma that says it.
use Rattle.told_asks.proofs.Known.{looks_at}
use Rattle.told_asks.proofs.children.a_call_looks_at_its_children.Goals as goal

pub returns : goal.returns
returns c = looks_at
