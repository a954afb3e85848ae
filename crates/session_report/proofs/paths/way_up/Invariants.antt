use Rattle.std.proofs.Common.{◌≡◌, ◌++◌}
use Rattle.session_meaning.specs.SessionReport.{path_by}
use Rattle.session_report.specs.Told.{steps_text}
use Rattle.session_report.proofs.paths.way_up.Given as goal

abbrev pub invariant-up : goal.invariant-up
invariant-up g l =
    path_by (g.S.Reported.plan l.session) (g.S.Reported.records l.session) l.depth l.call
    ≡ path_by (g.S.Reported.plan l.session) (g.S.Reported.records l.session) l.left l.at ++ steps_text l.steps.items

abbrev pub decreases-up : goal.decreases-up
decreases-up g l = l.left
