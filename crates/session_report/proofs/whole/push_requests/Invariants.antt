use Rattle.std.proofs.Common.{◌≡◌, ◌++◌, drop}
use Rattle.std.specs.String.{string_bytes}
use Rattle.session_meaning.specs.SessionReport.{request_lines}
use Rattle.session_report.proofs.whole.push_requests.Given as goal

abbrev pub invariant-loop-request : goal.invariant-loop-request
invariant-loop-request g l =
    string_bytes l.out ++ request_lines (g.S.Reported.records l.session) l.request (drop l.request (g.S.Reported.plan l.session).requests)
    ≡ string_bytes l.fn.out ++ request_lines (g.S.Reported.records l.session) 0 (g.S.Reported.plan l.session).requests
