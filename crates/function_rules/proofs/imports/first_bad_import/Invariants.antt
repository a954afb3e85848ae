use Rattle.std.proofs.Common.{All, take}
use Rattle.faaslet_meaning.specs.Runnable.{IsHostCall}
use Rattle.function_rules.proofs.imports.first_bad_import.Given as goal

abbrev pub invariant-loop-k : goal.invariant-loop-k
invariant-loop-k l = All (IsHostCall l.module) (take l.k l.import-items)
