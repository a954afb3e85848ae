-- The maker has made nothing yet, and both tiers end with the passes of both makers.
use Rattle.std.proofs.Common.{[], ◌∷◌}
use Rattle.faaslet_meaning.specs.Region.{replica, global_value}
use Rattle.state_service_tests.proofs.Held.{sees_on}
use Rattle.state_service_tests.proofs.locking.lock_once.Goals as goal

pub lock_one-replies-requires-clause-fresh : goal.lock_one-replies-requires-clause-fresh
lock_one-replies-requires-clause-fresh g c = sees_on _ _ _ _ c.args.channel c.requires.channel c.in-Some.ensures.first.0 c.in-Some.ensures.first.1

pub close-requires-clause-tier : goal.close-requires-clause-tier
close-requires-clause-tier g c = ((replica 2, c.in-Some.ensures.locals.0), c.in-Some.ensures.locals.1)

pub close-requires-2-clause-tier : goal.close-requires-2-clause-tier
close-requires-2-clause-tier g c = ((global_value 2 (1 ∷ 2 ∷ []), c.in-Some.ensures.globals.0), c.in-Some.ensures.globals.1)
