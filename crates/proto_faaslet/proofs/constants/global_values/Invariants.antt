use Rattle.std.proofs.Common.{◌≡◌, [], take}
use Rattle.std.specs.Prelude.{fold}
use Rattle.proto_faaslet.specs.Instances.{with_global}
use Rattle.proto_faaslet.proofs.constants.global_values.Given as goal

abbrev pub invariant-loop-global : goal.invariant-loop-global
invariant-loop-global l = l.values.items ≡ fold with_global [] (take l.global-index l.globals)
