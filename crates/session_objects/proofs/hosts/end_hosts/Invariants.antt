-- The hosts that are left are whole.
use Rattle.std.proofs.Common.{length}
use Rattle.session_objects.specs.Rests.{AreWhole}
use Rattle.session_objects.proofs.hosts.end_hosts.Given as goal

abbrev pub invariant-loop-tier : goal.invariant-loop-tier
invariant-loop-tier l = AreWhole l.tiers.items l.rests.items

abbrev pub decreases-loop-tier : goal.decreases-loop-tier
decreases-loop-tier l = length l.tiers.items
