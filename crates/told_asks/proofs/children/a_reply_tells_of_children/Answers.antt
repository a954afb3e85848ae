-- By the lemma that says it.
use Rattle.told_asks.proofs.Known.{answer_known}
use Rattle.told_asks.proofs.children.a_reply_tells_of_children.Goals as goal

pub returns : goal.returns
returns c = answer_known
