use Rattle.session_meaning.proofs.KeptNames.{calls_keep_names}
use Rattle.session_meaning.proofs.cut_laws.calls_keep_names.Goals as goal

pub returns : goal.returns
returns c = λ plan events more w v call r made later e. calls_keep_names plan events more w v call r made later e
