-- By cases of the move.
use Rattle.shared_region.proofs.Parts.{on_the_replica, on_the_global_value}
use Rattle.shared_region.proofs.moves.parts_are_entries.Goals as goal

pub returns-clause-local : goal.returns-clause-local
returns-clause-local c = on_the_replica

pub returns-clause-global : goal.returns-clause-global
returns-clause-global c = on_the_global_value
