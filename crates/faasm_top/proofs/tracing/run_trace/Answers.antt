-- What is written is what the session comes to.
use Rattle.std.proofs.Common.{◌≡◌, Some, inr, sym, ap, subst, ◌∙◌}
use Rattle.session_meaning.specs.Draft.{plan_of}
use Rattle.session_meaning.specs.Events.{world}
use Rattle.session_report.specs.Told.{AreBlocked}
use Rattle.faasm_top.specs.Answers.{code_of}
use Rattle.faasm_top.proofs.Traces.{traced_so}
use Rattle.faasm_top.proofs.tracing.run_trace.Goals as goal

pub returns-in_err-write_report-clause-failed : goal.returns-in_err-write_report-clause-failed
returns-in_err-write_report-clause-failed g c =
    let w = c.in_ok-traced.traced.world in
    let is_plan : plan_of c.args.session.now ≡ Some c.shorter.result.now = ap plan_of (sym c.registry.ensures.draft) ∙ c.in_ok-protos.ensures ∙ ap (λ p. Some p) (sym c.shorter.ensures) in
    let blocked : AreBlocked (world w.plan w.events) c.deref.result.now = subst (AreBlocked (world w.plan w.events)) (sym c.deref.ensures.value) c.in_ok-blocked.ensures in
    let traces = traced_so c.args.session.now c.shorter.result.now w.plan c.args.seed (code_of c.end_status-status.result) w.events c.in_ok-traced.traced.stuck c.deref.result.now is_plan c.in_ok-traced.ensures.plan c.in_ok-traced.ensures.schedule c.in_ok-traced.ensures.stuck blocked c.end_status-status.ensures in
    λ failed. record { status = code_of c.end_status-status.result; text = _; traces = traces; appends = c.in_err-write_report.ensures.part }

pub returns-in_err-write_report-clause-want : goal.returns-in_err-write_report-clause-want
returns-in_err-write_report-clause-want g c =
    let w = c.in_ok-traced.traced.world in
    let is_plan : plan_of c.args.session.now ≡ Some c.shorter.result.now = ap plan_of (sym c.registry.ensures.draft) ∙ c.in_ok-protos.ensures ∙ ap (λ p. Some p) (sym c.shorter.ensures) in
    let blocked : AreBlocked (world w.plan w.events) c.deref.result.now = subst (AreBlocked (world w.plan w.events)) (sym c.deref.ensures.value) c.in_ok-blocked.ensures in
    let traces = traced_so c.args.session.now c.shorter.result.now w.plan c.args.seed (code_of c.end_status-status.result) w.events c.in_ok-traced.traced.stuck c.deref.result.now is_plan c.in_ok-traced.ensures.plan c.in_ok-traced.ensures.schedule c.in_ok-traced.ensures.stuck blocked c.end_status-status.ensures in
    λ want. inr (record { status = code_of c.end_status-status.result; text = _; traces = traces; appends = c.in_err-write_report.ensures.part })

pub returns-clause-whole : goal.returns-clause-whole
returns-clause-whole g c =
    let w = c.in_ok-traced.traced.world in
    let is_plan : plan_of c.args.session.now ≡ Some c.shorter.result.now = ap plan_of (sym c.registry.ensures.draft) ∙ c.in_ok-protos.ensures ∙ ap (λ p. Some p) (sym c.shorter.ensures) in
    let blocked : AreBlocked (world w.plan w.events) c.deref.result.now = subst (AreBlocked (world w.plan w.events)) (sym c.deref.ensures.value) c.in_ok-blocked.ensures in
    let traces = traced_so c.args.session.now c.shorter.result.now w.plan c.args.seed (code_of c.end_status-status.result) w.events c.in_ok-traced.traced.stuck c.deref.result.now is_plan c.in_ok-traced.ensures.plan c.in_ok-traced.ensures.schedule c.in_ok-traced.ensures.stuck blocked c.end_status-status.ensures in
    record { text = _; traces = traces; appends = c.in_ok-write_report.ensures.whole }
