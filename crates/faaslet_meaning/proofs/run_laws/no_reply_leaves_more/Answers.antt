use Rattle.faaslet_meaning.proofs.Counted.{no_reply_leaves_more}
use Rattle.faaslet_meaning.proofs.run_laws.no_reply_leaves_more.Goals as goal

pub returns : goal.returns
returns c = no_reply_leaves_more
