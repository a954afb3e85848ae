use Rattle.std.proofs.Common.{◌≡◌, map, take}
use Rattle.world_objects.specs.Served.{told_of, start_of}
use Rattle.world_core.proofs.starting.key_starts.Given as goal

abbrev pub invariant-loop-k : goal.invariant-loop-k
invariant-loop-k l = map told_of l.all.items ≡ map start_of (take l.k l.registry.keys)
