use Rattle.faaslet_meaning.proofs.SoundSteps.{finished_ok}
use Rattle.faaslet_meaning.proofs.typing_laws.finished_is_typed.Goals as goal

pub returns : goal.returns
returns c = finished_ok
