use Rattle.std.proofs.Common.{◌≡◌, Some, map}
use Rattle.std.proofs.Math.Seq.{paste}
use Rattle.proto_faaslet.proofs.table.put_functions.Given as goal

abbrev pub invariant-loop-k : goal.invariant-loop-k
invariant-loop-k l = l.table ≡ paste l.initial.table l.at (map (λ f. Some f) l.functions) l.k
