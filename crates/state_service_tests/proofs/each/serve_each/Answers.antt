-- Each ask finds the passes, and both tiers end with those of both makers.
use Rattle.std.proofs.Common.{[], ◌∷◌}
use Rattle.faaslet_meaning.specs.Region.{replica, global_value}
use Rattle.state_service_tests.proofs.each.serve_each.Goals as goal

pub close-requires-clause-tier : goal.close-requires-clause-tier
close-requires-clause-tier g c = ((replica 2, c.in-Some.ensures.locals.0), c.in-Some.ensures.locals.1)

pub close-requires-2-clause-tier : goal.close-requires-2-clause-tier
close-requires-2-clause-tier g c = ((global_value 2 (1 ∷ 2 ∷ []), c.in-Some.ensures.globals.0), c.in-Some.ensures.globals.1)
