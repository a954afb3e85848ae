-- One event after another, until none is offered.
use Rattle.std.proofs.Common.{subst, sym}
use Rattle.world_core.specs.Tracing.{Traces}
use Rattle.world_core.proofs.Traces.{is_schedule, one_more}
use Rattle.world_core.proofs.tracing.trace_session.Goals as goal

pub returns-then-count-eq0-clause-schedule : goal.returns-then-count-eq0-clause-schedule
returns-then-count-eq0-clause-schedule c =
    is_schedule c.args.protos.now c.args.seed c.loop-event.generator c.enabled-count.result c.loop-event.world c.loop-event.invariant c.enabled-count.ensures c.if-count-eq0.true

pub loop-event-preserved : goal.loop-event-preserved
loop-event-preserved c =
    subst (Traces c.args.protos.now c.args.seed c.pick_next.new.world) (sym c.in_ok-pick_next.ensures.goes_on)
    (one_more c.args.protos.now c.args.seed c.loop-event.generator c.loop-event.world c.pick_next.new.world c.loop-event.invariant c.in_ok-pick_next.ensures.picked)
