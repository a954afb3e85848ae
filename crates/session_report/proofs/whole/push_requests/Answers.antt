-- One more request is written.
use Rattle.std.proofs.Common.{◌<◌, ◌++◌, length, arith}
use Rattle.std.specs.String.{string_bytes}
use Rattle.session_meaning.specs.SessionReport.{request_lines}
use Rattle.session_report.proofs.Folds.{one_request, there}
use Rattle.session_report.proofs.whole.push_requests.Goals as goal

pub loop-request-preserved : goal.loop-request-preserved
loop-request-preserved g c =
    let rs = (g.S.Reported.plan c.args.session.now).requests in
    let records = g.S.Reported.records c.args.session.now in
    let within : c.loop-request.request < length rs = omega (arith, c.loop-request-test.true, c.requests-request-end.ensures) in
    let r = there rs c.loop-request.request within in
    one_request records rs c.loop-request.request r.0 (string_bytes c.loop-request.out) (string_bytes c.push_request.new.out) (string_bytes c.args.out.now ++ request_lines records 0 rs) r.1
    (c.in_ok-push_request.ensures r.0 r.1) c.loop-request.invariant
