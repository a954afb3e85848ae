use Rattle.faaslet_meaning.proofs.Ways.{told_join}
use Rattle.faaslet_meaning.proofs.call_laws.told_joins.Goals as goal

pub returns : goal.returns
returns c = told_join
