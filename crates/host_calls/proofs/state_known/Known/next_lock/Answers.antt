use Rattle.std.proofs.Common.{ap, ◌∙◌}
use Rattle.host_calls.specs.Known.{first_lock}
use Rattle.host_calls.proofs.Keeping.{kept_locks}
use Rattle.host_calls.proofs.state_known.Known.next_lock.Goals as goal

pub returns-clause-released : goal.returns-clause-released
returns-clause-released c s n keeps few below = c.first_lock.ensures ∙ ap first_lock (kept_locks c.args.self.now s n keeps few below)
