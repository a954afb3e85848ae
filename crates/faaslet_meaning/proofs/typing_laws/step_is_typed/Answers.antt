use Rattle.faaslet_meaning.proofs.SoundSteps.{step_ok}
use Rattle.faaslet_meaning.proofs.typing_laws.step_is_typed.Goals as goal

pub returns : goal.returns
returns c = λ p g d ok. step_ok g p ok d
