-- A part of the lines behind those that were written.
use Rattle.std.proofs.Common.{◌++◌, sym, refl, append_assoc}
use Rattle.session_meaning.specs.SessionReport.{request_lines, state_lines}
use Rattle.session_report.specs.Told.{blocked_lines}
use Rattle.session_report.proofs.Fronts.{Left, last_part, on_error, one_more, stopped}
use Rattle.session_report.proofs.writing.write_report.Goals as goal

pub returns-in_err-write_all_blocked-clause-part : goal.returns-in_err-write_all_blocked-clause-part
returns-in_err-write_all_blocked-clause-part g c =
    let plan = g.S.Reported.plan c.args.session.now in
    let records = g.S.Reported.records c.args.session.now in
    let first = request_lines records 0 plan.requests in
    let second = blocked_lines plan records c.args.blocked.now in
    let third = state_lines plan.keys (g.S.Reported.values c.args.session.now) in
    let behind : Left (g.O.Sink.written c.args.sink.now) (g.O.Sink.written c.write_requests.new.sink) (first ++ second ++ third) (second ++ third) =
    record { front = first; appends = c.in_ok-write_requests.ensures.written; splits = sym (append_assoc first second third) } in
    on_error c.from_residual-in_err-write_all_blocked.result _ (stopped _ _ _ (first ++ second ++ third) (second ++ third) second third refl c.in_err-write_all_blocked.ensures.written behind)

pub returns-clause-part : goal.returns-clause-part
returns-clause-part g c =
    let plan = g.S.Reported.plan c.args.session.now in
    let records = g.S.Reported.records c.args.session.now in
    let first = request_lines records 0 plan.requests in
    let second = blocked_lines plan records c.args.blocked.now in
    let third = state_lines plan.keys (g.S.Reported.values c.args.session.now) in
    let behind : Left (g.O.Sink.written c.args.sink.now) (g.O.Sink.written c.write_requests.new.sink) (first ++ second ++ third) (second ++ third) =
    record { front = first; appends = c.in_ok-write_requests.ensures.written; splits = sym (append_assoc first second third) } in
    last_part c.write_values.result _ _ _ (first ++ second ++ third) third c.write_values.ensures.written
    (one_more _ _ _ (first ++ second ++ third) (second ++ third) second third refl c.in_ok-write_all_blocked.ensures.written behind)
