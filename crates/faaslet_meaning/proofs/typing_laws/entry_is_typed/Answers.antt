use Rattle.faaslet_meaning.proofs.SoundCalls.{entry_ok}
use Rattle.faaslet_meaning.proofs.typing_laws.entry_is_typed.Goals as goal

pub returns : goal.returns
returns c = λ p g k n t b d ok type at none keeps. entry_ok g p ok k t n b d type at none keeps.0 keeps.1
