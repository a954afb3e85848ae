-- One function after another.
use Rattle.std.proofs.Common.{◌≡◌, map, take}
use Rattle.session_objects.specs.Shape.{callable_in}
use Rattle.session_objects.proofs.lists.callables.Given as goal

abbrev pub invariant-loop-f : goal.invariant-loop-f
invariant-loop-f l = l.all.items ≡ map callable_in (take l.f l.registry.functions)
