-- The law on host calls is what HostAsks shows of the rules of a step.
use Rattle.call_laws.proofs.HostAsks.{host_asks_carried}
use Rattle.call_laws.proofs.host_asks.host_asks_are_carried.Goals as goal

pub returns : goal.returns
returns c = λ p c d h e. host_asks_carried p c d h e
