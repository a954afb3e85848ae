-- Where nothing is unfinished no entry may stand.
use Rattle.call_table.proofs.Stable.{none_left}
use Rattle.call_table.proofs.kept.none_unfinished_stays.Goals as goal

pub returns : goal.returns
returns c = none_left
