-- The fuel used is what was given less what is left.
use Rattle.std.proofs.Common.{arith}
use Rattle.wasm_interp.proofs.Standing.{kept_at, fuel_left}
use Rattle.wasm_interp.proofs.machine.Machine.used.Goals as goal

pub returns : goal.returns
returns g c code grants given n d s e =
    let m = c.args.self.now in
    let k = kept_at (g.M.Linear.memory m.memory) m.thread m.stage n d s.stage e in
    omega (arith, c.saturating_sub.ensures, s.given_is, k.fuel_is, fuel_left given n d s.within e)
