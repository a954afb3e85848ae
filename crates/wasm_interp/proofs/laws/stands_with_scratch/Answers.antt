-- What a machine stands for does not speak of its scratch.
use Rattle.wasm_interp.proofs.Replaced.{scratch_replaced}
use Rattle.wasm_interp.proofs.laws.stands_with_scratch.Goals as goal

pub returns : goal.returns
returns g c = scratch_replaced g.M.Linear.memory
