use Rattle.std.proofs.Common.{◌≡◌, length}
use Rattle.wasm_validate.proofs.JumpTables.{TablesSoFar}
use Rattle.wasm_validate.proofs.jumps.tables_of.Given as goal

abbrev pub invariant-loop-body : goal.invariant-loop-body
invariant-loop-body l = record { long : length l.tables.items ≡ l.body-index; fit : TablesSoFar l.bodies l.tables.items }
