use Rattle.std.proofs.Common.{◌≡◌, drop}
use Rattle.session_meaning.specs.SessionReport.{request_lines}
use Rattle.session_report.proofs.Fronts.{Left}
use Rattle.session_report.proofs.writing.write_requests.Given as goal

abbrev pub invariant-loop-request : goal.invariant-loop-request
invariant-loop-request g l = record {
  written : Left (g.O.Sink.written l.initial.sink) (g.O.Sink.written l.sink) (request_lines (g.S.Reported.records l.session) 0 (g.S.Reported.plan l.session).requests) (request_lines (g.S.Reported.records l.session) l.request (drop l.request (g.S.Reported.plan l.session).requests));
  quiet : g.O.Sink.faults l.sink ≡ g.O.Sink.faults l.initial.sink;
}
