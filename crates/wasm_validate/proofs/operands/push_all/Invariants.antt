use Rattle.std.proofs.Common.{◌≡◌, ◌≤◌, take, length}
use Rattle.wasm_validate.specs.Steps.{pushes}
use Rattle.wasm_validate.proofs.operands.push_all.Given as goal

abbrev pub invariant-types : goal.invariant-types
invariant-types l = record { within : l.left ≤ length l.types; same : pushes (take l.left l.types) l.blocks ≡ pushes l.types l.initial.blocks }

abbrev pub decreases-types : goal.decreases-types
decreases-types l = l.left
