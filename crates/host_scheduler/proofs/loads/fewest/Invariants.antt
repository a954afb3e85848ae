-- So far the best of those passed, against the rest, is the best of all.
use Rattle.std.proofs.Common.{◌≡◌, ◌<◌, None, IfSome, length, drop}
use Rattle.host_scheduler.proofs.Leader.{leader}
use Rattle.host_scheduler.proofs.loads.fewest.Given as goal

-- the rest decides
abbrev pub invariant-loop-pair : goal.invariant-loop-pair
invariant-loop-pair l = (leader l.queued l.function l.best (drop l.pair-index l.warm) ≡ leader l.queued l.function None l.warm) × IfSome l.best (λ o. o < length l.queued)
