use Rattle.faaslet_meaning.specs.Reading as reading
use Rattle.faaslet_meaning.specs.ModuleReading as modules
use Rattle.wasm_code.proofs.Loop.{Going}
use Rattle.wasm_code.proofs.locals.local_groups.Given as goal

abbrev pub invariant-loop : goal.invariant-loop
invariant-loop l = Going modules.local_group_at l.groups.items l.count l.counter l.rest (reading.many_at modules.local_group_at l.count l.bytes)
