-- The law on functions is what Starts shows of each.
use Rattle.granted_asks.proofs.Starts.{can_start}
use Rattle.granted_asks.proofs.plan_calls.functions_can_start.Goals as goal

pub returns : goal.returns
returns c = can_start
