use Rattle.std.proofs.Common.{◌≡◌, map, take}
use Rattle.world_core.specs.Starting.{callable_in}
use Rattle.world_core.proofs.starting.callables.Given as goal

abbrev pub invariant-loop-f : goal.invariant-loop-f
invariant-loop-f l = l.all.items ≡ map callable_in (take l.f l.registry.functions)
