use Rattle.faaslet_meaning.proofs.SoundModules.{program_ok}
use Rattle.faaslet_meaning.proofs.typing_laws.valid_program_is_typed.Goals as goal

pub returns : goal.returns
returns c = λ m grants v hosts. program_ok m v hosts grants
