use Rattle.session_meaning.proofs.CutReports.{cut_report}
use Rattle.session_meaning.proofs.report_laws.cut_report.Goals as goal

pub returns : goal.returns
returns c = λ plan functions keys events w small closed made made_small. cut_report plan functions keys events w small closed made made_small
