-- There are grants that agree with what may be written.
use Rattle.wasm_interp.proofs.Agreeing.{grants_agree}
use Rattle.wasm_interp.proofs.laws.grants_agree.Goals as goal

pub returns : goal.returns
returns c = grants_agree
