-- A child is a call that there is.
use Rattle.world_core.proofs.KeptBack.{child_within}
use Rattle.world_core.proofs.running.Running.unfinished_child.Goals as goal

pub record_of-requires : goal.record_of-requires
record_of-requires c = child_within c.args.self.now.table.table.records c.args.call c.args.child c.in-Some.child c.child_of.result c.child_of.ensures c.in-Some.is
