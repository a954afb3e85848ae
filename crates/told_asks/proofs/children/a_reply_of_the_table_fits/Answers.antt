-- By the lemma that says it.
use Rattle.told_asks.proofs.Known.{answer_fits}
use Rattle.told_asks.proofs.children.a_reply_of_the_table_fits.Goals as goal

pub returns : goal.returns
returns c = answer_fits
