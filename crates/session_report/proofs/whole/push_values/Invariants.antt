use Rattle.std.proofs.Common.{◌≡◌, ◌++◌, drop}
use Rattle.std.specs.String.{string_bytes}
use Rattle.session_meaning.specs.SessionReport.{state_lines}
use Rattle.session_report.proofs.whole.push_values.Given as goal

abbrev pub invariant-loop-key : goal.invariant-loop-key
invariant-loop-key g l =
    string_bytes l.out ++ state_lines (drop l.key (g.S.Reported.plan l.session).keys) (drop l.key (g.S.Reported.values l.session))
    ≡ string_bytes l.fn.out ++ state_lines (g.S.Reported.plan l.session).keys (g.S.Reported.values l.session)
