use Rattle.std.proofs.Common.{refl}
use Rattle.wasm_code.proofs.Leb.{last_fits}
use Rattle.wasm_code.proofs.number.fits.Goals as goal

pub returns-then-bits-ge7 : goal.returns-then-bits-ge7
returns-then-bits-ge7 c = (λ _. last_fits _ _ c.requires c.if-bits-ge7.true, λ _. refl)
