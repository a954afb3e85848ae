use Rattle.std.proofs.Common.{◌≡◌, ◌≤◌, take, length, reverse}
use Rattle.wasm_validate.specs.Frames.{pops}
use Rattle.wasm_validate.proofs.operands.pop_all.Given as goal

abbrev pub invariant-types : goal.invariant-types
invariant-types l = record { within : l.left ≤ length l.types; same : pops (reverse (take l.left l.types)) l.blocks ≡ pops (reverse l.types) l.initial.blocks }

abbrev pub decreases-types : goal.decreases-types
decreases-types l = l.left
