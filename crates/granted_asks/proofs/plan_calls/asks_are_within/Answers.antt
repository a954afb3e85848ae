-- The law on asks is what Within shows of all ways of a call.
use Rattle.granted_asks.proofs.Within.{asks_within}
use Rattle.granted_asks.proofs.plan_calls.asks_are_within.Goals as goal

pub returns : goal.returns
returns c = asks_within
