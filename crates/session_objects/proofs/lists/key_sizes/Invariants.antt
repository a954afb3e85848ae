-- One key after another.
use Rattle.std.proofs.Common.{◌≡◌, map, take}
use Rattle.session_objects.proofs.lists.key_sizes.Given as goal

abbrev pub invariant-loop-k : goal.invariant-loop-k
invariant-loop-k l = l.all.items ≡ map (λ y. y.size) (take l.k l.registry.keys)
