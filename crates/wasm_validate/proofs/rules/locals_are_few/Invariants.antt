use Rattle.std.proofs.Common.{◌≡◌, ◌<◌, ◌^◌, take}
use Rattle.std.specs.Prelude.{sum_by}
use Rattle.wasm_validate.proofs.rules.locals_are_few.Given as goal

abbrev pub invariant-loop-group : goal.invariant-loop-group
invariant-loop-group l = record { sum : l.sum ≡ sum_by (λ g. g.count) (take l.group-index l.groups); few : l.sum < 2 ^ 32 }
