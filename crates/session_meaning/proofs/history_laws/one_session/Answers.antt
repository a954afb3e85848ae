use Rattle.session_meaning.proofs.OneSession.{one_session}
use Rattle.session_meaning.proofs.history_laws.one_session.Goals as goal

pub returns : goal.returns
returns c = λ seen s t a b fit fit'. one_session seen s t a b fit fit'
