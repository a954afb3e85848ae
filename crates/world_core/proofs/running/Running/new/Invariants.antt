use Rattle.std.proofs.Common.{◌≡◌}
use Rattle.world_core.specs.Starting.{Requested}
use Rattle.world_core.proofs.running.Running.new.Given as goal

abbrev pub invariant-loop-request : goal.invariant-loop-request
invariant-loop-request l = (l.running.protos.now ≡ l.protos) × Requested l.running.protos.now l.request l.running
