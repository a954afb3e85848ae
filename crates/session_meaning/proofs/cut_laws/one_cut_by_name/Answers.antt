use Rattle.session_meaning.proofs.NamedWorlds.{one_cut_by_name}
use Rattle.session_meaning.proofs.cut_laws.one_cut_by_name.Goals as goal

pub returns : goal.returns
returns c = λ plan other functions keys events more w v distinct apart closed closed_too made made_too p e. one_cut_by_name plan other functions keys events more w v distinct apart closed closed_too made made_too p e
