use Rattle.std.proofs.Common.{refl}
use Rattle.faaslet_run.proofs.Arguments.{asks_low, lows_small}
use Rattle.faaslet_run.proofs.host.low_halves.Goals as goal

pub returns-clause-small : goal.returns-clause-small
returns-clause-small c = λ k. lows_small _ _ _ _ k

pub returns-clause-same : goal.returns-clause-same
returns-clause-same c = λ h a s. asks_low c.args.ask _ h a s refl refl
