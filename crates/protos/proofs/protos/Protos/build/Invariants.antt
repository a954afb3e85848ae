use Rattle.protos.proofs.Plans.{KeepsFirst}
use Rattle.protos.proofs.protos.Protos.build.Given as goal

abbrev pub invariant-loop-f : goal.invariant-loop-f
invariant-loop-f l = KeepsFirst l.registry l.f l.kept.items
