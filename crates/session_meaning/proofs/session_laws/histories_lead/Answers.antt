use Rattle.session_meaning.proofs.Worlds.{histories_lead}
use Rattle.session_meaning.proofs.session_laws.histories_lead.Goals as goal

pub returns : goal.returns
returns c = histories_lead
