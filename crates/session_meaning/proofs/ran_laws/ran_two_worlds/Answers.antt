use Rattle.session_meaning.proofs.RanParts.{ran_part}
use Rattle.session_meaning.proofs.ran_laws.ran_two_worlds.Goals as goal

pub returns : goal.returns
returns c = λ plan functions keys s finals closed ran. ran_part plan functions keys s finals closed ran
