use Rattle.faaslet_meaning.specs.Reading as reading
use Rattle.wasm_code.proofs.Loop.{Going}
use Rattle.wasm_code.proofs.instr.labels.Given as goal

abbrev pub invariant-loop : goal.invariant-loop
invariant-loop l = Going (reading.unsigned_at 32) l.items.items l.count l.counter l.rest (reading.many_at (reading.unsigned_at 32) l.count l.bytes)
