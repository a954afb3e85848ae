-- What a machine stands for with another memory.
use Rattle.wasm_interp.proofs.Replaced.{memory_replaced}
use Rattle.wasm_interp.proofs.laws.stands_with_memory.Goals as goal

pub returns : goal.returns
returns g c = memory_replaced g.M.Linear.memory
