-- Which grants agree with what a machine may write.
use Rattle.std.proofs.Common.{◌≡◌, ℕ, [], sym, ap, ◌∙◌, ◌/◌, ◌%◌, ◌^◌, nat_eq}
use Rattle.std.proofs.Math.Nat.{zero-div}
use Rattle.wasm_interp.specs.StandsFor.{Agrees}

-- where nothing may be written no grant is needed
pub agrees_none : (w : ℕ) → w ≡ 0 → Agrees w []
agrees_none w e k lt = let z : w / 2 ^ k ≡ 0 = ap (λ n. n / 2 ^ k) e ∙ zero-div (2 ^ k) in sym (ap (λ n. nat_eq (n % 2) 1) z)
