use Rattle.std.proofs.Common.{◌≡◌, map, replicate}
use Rattle.world_objects.specs.Served.{local_start}
use Rattle.world_objects.proofs.objects.Objects.new.Given as goal

abbrev pub invariant-hosts : goal.invariant-hosts
invariant-hosts l = l.locals.items ≡ replicate l._host (map local_start l.keys)
