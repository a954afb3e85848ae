use Rattle.session_meaning.proofs.AsksGranted.{one_cut}
use Rattle.session_meaning.proofs.cut_laws.one_cut.Goals as goal

pub returns : goal.returns
returns c = λ plan other functions keys events more w v closed closed_too made made_too p e. one_cut plan other functions keys events more w v closed closed_too made made_too p e
