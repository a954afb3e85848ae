-- What a machine stands for does not speak of its second buffer.
use Rattle.wasm_interp.proofs.Replaced.{aside_replaced}
use Rattle.wasm_interp.proofs.laws.stands_with_aside.Goals as goal

pub returns : goal.returns
returns g c = aside_replaced g.M.Linear.memory
