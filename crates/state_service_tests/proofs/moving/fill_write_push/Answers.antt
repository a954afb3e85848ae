-- Both tiers end with the passes of both makers, and their lists are those in order.
use Rattle.faaslet_meaning.specs.Region.{replica, global_value}
use Rattle.std.proofs.Common.{[], ◌∷◌}
use Rattle.state_service_tests.proofs.moving.fill_write_push.Goals as goal

pub close-replica-requires-clause-tier : goal.close-replica-requires-clause-tier
close-replica-requires-clause-tier g c = ((replica 2, c.in-Some.ensures.locals.0), c.in-Some.ensures.locals.1)

pub close-global-requires-clause-tier : goal.close-global-requires-clause-tier
close-global-requires-clause-tier g c = ((global_value 2 (1 ∷ 2 ∷ []), c.in-Some.ensures.globals.0), c.in-Some.ensures.globals.1)

pub returns-clause-replica : goal.returns-clause-replica
returns-clause-replica g c = (c.take_turns.ensures.in_order _ _ _ _ c.close-replica.ensures c.close-global.ensures).0

pub returns-clause-global : goal.returns-clause-global
returns-clause-global g c = (c.take_turns.ensures.in_order _ _ _ _ c.close-replica.ensures c.close-global.ensures).1
