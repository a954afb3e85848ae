use Rattle.session_meaning.proofs.HistoryCuts.{history_of_cut}
use Rattle.session_meaning.proofs.table_cut_laws.cut_of_history.Goals as goal

pub returns : goal.returns
returns c = λ plan functions keys history closed firsts granted. history_of_cut plan functions keys history closed firsts granted
