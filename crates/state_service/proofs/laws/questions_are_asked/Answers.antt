-- By cases of the move.
use Rattle.std.proofs.Common.{refl}
use Rattle.state_service.proofs.Asks.{move_so}
use Rattle.state_service.proofs.laws.questions_are_asked.Goals as goal

pub returns-clause-region : goal.returns-clause-region
returns-clause-region c = λ j size channel o scratch. refl

pub returns-clause-moves : goal.returns-clause-moves
returns-clause-moves c = λ j size key kind scratch e. move_so j.program.grants size key kind e
