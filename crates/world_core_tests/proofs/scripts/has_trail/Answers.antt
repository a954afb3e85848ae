use Rattle.std.proofs.Common.{subst, sym}
use Rattle.world_core.specs.Whole.{world_after}
use Rattle.world_core_tests.specs.Leading.{LeadsAt}
use Rattle.world_core_tests.proofs.Objects.{object_there}
use Rattle.world_core_tests.proofs.scripts.has_trail.Goals as goal

pub trail-requires : goal.trail-requires
trail-requires c =
    let s = c.args.world.now in
    object_there s.plan s.events (world_after s) c.args.host c.args.channel c.events-events.ensures.stand (subst (λ p. LeadsAt p c.args.host c.args.channel) (sym c.requires) (c.leads.ensures c.if-leads.true))
