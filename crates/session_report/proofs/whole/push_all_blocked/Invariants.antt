use Rattle.std.proofs.Common.{◌≡◌, ◌++◌, take}
use Rattle.std.specs.String.{string_bytes}
use Rattle.session_report.specs.Told.{blocked_lines}
use Rattle.session_report.proofs.whole.push_all_blocked.Given as goal

abbrev pub invariant-loop-each : goal.invariant-loop-each
invariant-loop-each g l =
    string_bytes l.out ≡ string_bytes l.fn.out ++ blocked_lines (g.S.Reported.plan l.session) (g.S.Reported.records l.session) (take l.each-index l.blocked)
