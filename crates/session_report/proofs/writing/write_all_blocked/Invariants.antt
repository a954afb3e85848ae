use Rattle.std.proofs.Common.{◌≡◌, drop}
use Rattle.session_report.specs.Told.{blocked_lines}
use Rattle.session_report.proofs.Fronts.{Left}
use Rattle.session_report.proofs.writing.write_all_blocked.Given as goal

abbrev pub invariant-loop-each : goal.invariant-loop-each
invariant-loop-each g l = record {
  written : Left (g.O.Sink.written l.initial.sink) (g.O.Sink.written l.sink) (blocked_lines (g.S.Reported.plan l.session) (g.S.Reported.records l.session) l.blocked) (blocked_lines (g.S.Reported.plan l.session) (g.S.Reported.records l.session) (drop l.each-index l.blocked));
  quiet : g.O.Sink.faults l.sink ≡ g.O.Sink.faults l.initial.sink;
}
