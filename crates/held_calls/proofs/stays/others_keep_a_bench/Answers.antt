-- By the lemmas that say it.
use Rattle.held_calls.proofs.Steps.{others_same}
use Rattle.held_calls.proofs.Walks.{list_same}
use Rattle.held_calls.proofs.stays.others_keep_a_bench.Goals as goal

pub returns-clause-one : goal.returns-clause-one
returns-clause-one c = others_same

pub returns-clause-all : goal.returns-clause-all
returns-clause-all c = list_same
