use Rattle.session_meaning.proofs.NumbersStand.{numbers_stand}
use Rattle.session_meaning.proofs.cut_laws.numbers_stand.Goals as goal

pub returns : goal.returns
returns c = λ plan functions keys w. numbers_stand plan functions keys w
