use Rattle.faaslet_meaning.proofs.Ways.{reached_goes, goes_reached}
use Rattle.faaslet_meaning.proofs.call_laws.reached_by_ways.Goals as goal

pub returns-clause-there : goal.returns-clause-there
returns-clause-there c = λ j p q r. reached_goes r

pub returns-clause-back : goal.returns-clause-back
returns-clause-back c = λ j p q transcript g. goes_reached g
