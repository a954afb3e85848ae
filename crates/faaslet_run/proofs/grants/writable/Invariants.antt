use Rattle.std.proofs.Common.{◌≡◌, ◌≤◌, drop, length}
use Rattle.faaslet_run.specs.Allowed.{writable_of}
use Rattle.faaslet_run.proofs.grants.writable.Given as goal

abbrev pub invariant-grants : goal.invariant-grants
invariant-grants l = (l.bits ≡ writable_of (drop l.left l.grants)) × (l.left ≤ length l.grants)

abbrev pub decreases-grants : goal.decreases-grants
decreases-grants l = l.left
