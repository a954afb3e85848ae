use Rattle.std.proofs.Common.{◌≡◌, drop}
use Rattle.host_calls.specs.Known.{first_lock, locks_kept}
use Rattle.host_calls.proofs.state_known.Known.first_lock.Given as goal

abbrev pub invariant-places : goal.invariant-places
invariant-places l = first_lock (locks_kept (drop l.place l.self.places) l.place) ≡ first_lock (locks_kept l.self.places 0)
