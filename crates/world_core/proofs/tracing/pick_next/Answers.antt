-- What is offered may stand.
use Rattle.session_meaning.proofs.Schedules.{may_stand}
use Rattle.world_core.specs.Whole.{world_after}
use Rattle.world_core.proofs.Traces.{not_refused}
use Rattle.world_core.proofs.tracing.pick_next.Goals as goal

pub unreachable-requires : goal.unreachable-requires
unreachable-requires c =
    not_refused (world_after c.args.world.now) c.enabled_at-event.result c.in-Err-NotEnabled.field-0 c.in-Err-NotEnabled.field-0-0
    (may_stand c.args.world.now.plan (world_after c.args.world.now) _ c.enabled_at-event.result c.enabled_at-event.ensures) c.in-Err-NotEnabled.field-0-is c.in-Err-NotEnabled.ensures.refused
