use Rattle.faaslet_meaning.proofs.SoundMemory.{resumed_ok}
use Rattle.faaslet_meaning.proofs.typing_laws.resumed_is_typed.Goals as goal

pub returns : goal.returns
returns c = resumed_ok
