use Rattle.wasm_validate.proofs.Distinct.{Seen}
use Rattle.wasm_validate.proofs.names.differ.Given as goal

abbrev pub invariant-loop-export : goal.invariant-loop-export
invariant-loop-export l = Seen l.exports l.export-index l.names
