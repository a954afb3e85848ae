-- By the lemma that says it.
use Rattle.told_asks.proofs.Seen.{seen_both}
use Rattle.told_asks.proofs.children.what_is_seen_grows.Goals as goal

pub returns : goal.returns
returns c = seen_both
