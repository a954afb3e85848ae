use Rattle.session_meaning.proofs.KeptBack.{locks_keep_back}
use Rattle.session_meaning.proofs.session_laws.locks_keep_back.Goals as goal

pub returns : goal.returns
returns c = λ w call host q. locks_keep_back w call host q
