use Rattle.faaslet_meaning.proofs.Ways.{run_goes, goes_run}
use Rattle.faaslet_meaning.proofs.call_laws.runs_are_ways.Goals as goal

pub returns-clause-there : goal.returns-clause-there
returns-clause-there c = λ j p transcript s o run. run_goes run

pub returns-clause-back : goal.returns-clause-back
returns-clause-back c = λ j p transcript s o g. goes_run g
