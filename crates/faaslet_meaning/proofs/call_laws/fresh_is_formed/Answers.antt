use Rattle.faaslet_meaning.proofs.CallFresh.{fresh_formed}
use Rattle.faaslet_meaning.proofs.call_laws.fresh_is_formed.Goals as goal

pub returns : goal.returns
returns c = fresh_formed
