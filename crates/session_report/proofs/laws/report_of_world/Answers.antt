use Rattle.std.proofs.Common.{ap}
use Rattle.session_meaning.specs.SessionReport as report
use Rattle.session_report.proofs.Worlds.{same_blocked}
use Rattle.session_report.proofs.laws.report_of_world.Goals as goal

pub returns : goal.returns
returns c = λ plan w all h. ap (λ z. report.report plan w.table.records (report.values w) z) (same_blocked plan w all h)
