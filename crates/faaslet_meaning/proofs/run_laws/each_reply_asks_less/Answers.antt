use Rattle.faaslet_meaning.proofs.Bounded.{reply_bound}
use Rattle.faaslet_meaning.proofs.run_laws.each_reply_asks_less.Goals as goal

pub returns : goal.returns
returns c = reply_bound
