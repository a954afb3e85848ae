use Rattle.faaslet_meaning.specs.Reading as reading
use Rattle.wasm_code.proofs.Loop.{Going}
use Rattle.wasm_decode.proofs.vectors.many_at.Given as goal

abbrev pub invariant-loop : goal.invariant-loop
invariant-loop g l = Going g.P.Part.at l.items.items l.count l.counter l.rest (reading.many_at g.P.Part.at l.count l.bytes)
