use Rattle.faaslet_meaning.proofs.NeverStuck.{valid_is_made}
use Rattle.faaslet_meaning.proofs.typing_laws.valid_is_made.Goals as goal

pub returns : goal.returns
returns c = valid_is_made
