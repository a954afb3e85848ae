-- By the lemma that says it.
use Rattle.told_asks.proofs.Seen.{seen_so}
use Rattle.told_asks.proofs.children.what_a_call_has_seen.Goals as goal

pub returns : goal.returns
returns c = seen_so
