use Rattle.std.proofs.Common.{◌≡◌, drop}
use Rattle.wasm_validate.specs.Steps.{all_labels}
use Rattle.wasm_validate.proofs.branches.all_labels.Given as goal

abbrev pub invariant-loop-n : goal.invariant-loop-n
invariant-loop-n l = all_labels l.t (drop l.n-index l.labels) l.blocks ≡ all_labels l.t l.labels l.blocks
