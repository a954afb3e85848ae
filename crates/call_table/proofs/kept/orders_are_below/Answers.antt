-- Orders of calls that were taken stay below the number of those taken.
use Rattle.call_table.proofs.Orders.{entry_ordered}
use Rattle.call_table.proofs.kept.orders_are_below.Goals as goal

pub returns : goal.returns
returns c = entry_ordered
