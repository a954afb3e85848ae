-- A step up, and the end of the way.
use Rattle.std.proofs.Common.{◌≡◌, ◌∙◌, ◌++◌, [], ap, arith, inl, inr}
use Rattle.session_meaning.specs.SessionReport.{path_by}
use Rattle.session_report.specs.Told.{steps_text}
use Rattle.session_report.proofs.Ways.{up_more, up_none}
use Rattle.session_report.proofs.paths.way_up.Goals as goal
use Rattle.session_report.proofs.paths.way_up.Goals.{then-up-test+else-at-calls, else-up-test}

pub up-preserved : goal.up-preserved
up-preserved g c =
    let plan = g.S.Reported.plan c.args.session.now in
    let records = g.S.Reported.records c.args.session.now in
    let r = c.record-record.result.now in
    rw c.in_ok-push.ensures.items (up_more plan records _ c.up.left c.up.at r c.in-Some.parent c.up.steps.items (omega arith) c.record-record.ensures c.in-Some.is c.up.invariant)

pub returns : goal.returns
returns g c =
    let plan = g.S.Reported.plan c.args.session.now in
    let records = g.S.Reported.records c.args.session.now in
    let none : path_by plan records c.up.left c.up.at ≡ [] = up_none plan records c.up.left c.up.at (elim c.up-test.branch [
      | then-up-test+else-at-calls w ↦ inr (omega (arith, w.if-at-calls.false, w.calls.ensures))
      | else-up-test w ↦ inl (omega (arith, w.up-test.false))
    ]) in
    c.up.invariant ∙ ap (λ t. t ++ steps_text c.up.steps.items) none
