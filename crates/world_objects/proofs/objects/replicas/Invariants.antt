use Rattle.std.proofs.Common.{◌≡◌, map, take}
use Rattle.world_objects.specs.Served.{local_start}
use Rattle.world_objects.proofs.objects.replicas.Given as goal

abbrev pub invariant-loop-key : goal.invariant-loop-key
invariant-loop-key l = l.row ≡ map local_start (take l.key-index l.keys)
