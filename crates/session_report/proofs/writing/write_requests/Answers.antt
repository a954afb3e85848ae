-- One more request is written, or what stops it.
use Rattle.std.proofs.Common.{◌≡◌, ◌<◌, ◌++◌, ◌+◌, length, drop, ap, subst, ◌∙◌, arith}
use Rattle.fa_outside.specs.Appended.{Appends, AppendsPart}
use Rattle.session_meaning.specs.SessionReport.{request_line, request_lines}
use Rattle.session_report.proofs.Folds.{requests_left, there}
use Rattle.session_report.proofs.Fronts.{in_part, none_of_it, one_more, request_some, stopped}
use Rattle.session_report.proofs.writing.write_requests.Goals as goal

pub returns-in_err-push_request-clause-written : goal.returns-in_err-push_request-clause-written
returns-in_err-push_request-clause-written g c =
    let rs = (g.S.Reported.plan c.args.session.now).requests in
    let records = g.S.Reported.records c.args.session.now in
    let i = c.loop-request.request in
    let within : i < length rs = omega (arith, c.loop-request-test.true, c.requests-request-end.ensures) in
    let r = there rs i within in
    in_part c.from_residual.result _ _ _ c.from_residual.ensures.0
    (stopped _ _ _ (request_lines records 0 rs) _ (request_line records i r.0) (request_lines records (i + 1) (drop (i + 1) rs)) (requests_left records rs i r.0 r.1)
    (none_of_it _ (request_line records i r.0) (request_some records i r.0)) c.loop-request.invariant.written)

pub returns-in_err-write_whole-clause-written : goal.returns-in_err-write_whole-clause-written
returns-in_err-write_whole-clause-written g c =
    let rs = (g.S.Reported.plan c.args.session.now).requests in
    let records = g.S.Reported.records c.args.session.now in
    let i = c.loop-request.request in
    let within : i < length rs = omega (arith, c.loop-request-test.true, c.requests-request-end.ensures) in
    let r = there rs i within in
    let text : c.as_bytes.result.now ≡ request_line records i r.0 = c.as_bytes.ensures.value ∙ (c.in_ok-push_request.ensures r.0 r.1) ∙ ap (λ t. t ++ request_line records i r.0) c.clear.ensures.bytes in
    in_part c.from_residual-in_err-write_whole.result _ _ _ c.from_residual-in_err-write_whole.ensures.0
    (stopped _ _ _ (request_lines records 0 rs) _ (request_line records i r.0) (request_lines records (i + 1) (drop (i + 1) rs)) (requests_left records rs i r.0 r.1)
    (subst (AppendsPart _ _) text c.in_err-write_whole.ensures.part) c.loop-request.invariant.written)

pub loop-request-preserved : goal.loop-request-preserved
loop-request-preserved g c =
    let rs = (g.S.Reported.plan c.args.session.now).requests in
    let records = g.S.Reported.records c.args.session.now in
    let i = c.loop-request.request in
    let within : i < length rs = omega (arith, c.loop-request-test.true, c.requests-request-end.ensures) in
    let r = there rs i within in
    let text : c.as_bytes.result.now ≡ request_line records i r.0 = c.as_bytes.ensures.value ∙ (c.in_ok-push_request.ensures r.0 r.1) ∙ ap (λ t. t ++ request_line records i r.0) c.clear.ensures.bytes in
    record {
      written = one_more _ _ _ (request_lines records 0 rs) _ (request_line records i r.0) (request_lines records (i + 1) (drop (i + 1) rs)) (requests_left records rs i r.0 r.1)
          (subst (Appends _ _) text c.in_ok-write_whole.ensures.whole) c.loop-request.invariant.written;
      quiet = c.in_ok-write_whole.ensures.quiet ∙ c.loop-request.invariant.quiet;
    }
