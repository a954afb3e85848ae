use Rattle.std.proofs.Common.{◌≡◌, drop}
use Rattle.session_meaning.specs.SessionReport.{state_lines}
use Rattle.session_report.proofs.Fronts.{Left}
use Rattle.session_report.proofs.writing.write_values.Given as goal

abbrev pub invariant-loop-key : goal.invariant-loop-key
invariant-loop-key g l = record {
  written : Left (g.O.Sink.written l.initial.sink) (g.O.Sink.written l.sink) (state_lines (g.S.Reported.plan l.session).keys (g.S.Reported.values l.session)) (state_lines (drop l.key (g.S.Reported.plan l.session).keys) (drop l.key (g.S.Reported.values l.session)));
  quiet : g.O.Sink.faults l.sink ≡ g.O.Sink.faults l.initial.sink;
}
