use Rattle.session_meaning.proofs.Rests.{goes_on_quietly, rests}
use Rattle.session_meaning.proofs.session_laws.calls_rest.Goals as goal

pub returns-clause-goes : goal.returns-clause-goes
returns-clause-goes c = goes_on_quietly

pub returns-clause-rests : goal.returns-clause-rests
returns-clause-rests c = rests
