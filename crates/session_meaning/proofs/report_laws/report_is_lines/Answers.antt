use Rattle.session_meaning.proofs.CutReports.{report_is_lines}
use Rattle.session_meaning.proofs.report_laws.report_is_lines.Goals as goal

pub returns : goal.returns
returns c = λ plan w. report_is_lines plan w
