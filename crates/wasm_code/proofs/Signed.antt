-- Ranges of signed numbers.
use Rattle.std.proofs.Common.{List, ◌∷◌, Some, ◌≡◌, ℕ, ℤ, pos, ◌-◌, ◌*◌, ◌^◌, ◌<◌, ◌≤◌, ap, ◌∙◌, arith}
use Rattle.std.specs.Prelude.{◌+ℤ◌, ◌-ℤ◌, ◌*ℤ◌, ◌≤ℤ◌, ◌<ℤ◌}
use Rattle.std.proofs.lemmas.Int.{ints}
use Rattle.std.proofs.Math.Pow.{pow_mono}
use Rattle.std.proofs.lemmas.Bool.{le-ltb, lt-ltb}
use Rattle.faaslet_meaning.specs.Reading.{signed_at}
use Rattle.wasm_code.specs.Reading.{IsWithin}
use Rattle.faaslet_meaning.proofs.Readers.{at_value}
use Rattle.wasm_code.proofs.Leb.{pow_seven}

-- what a number of seven bits fewer leaves room for
pub narrow : (bits : ℕ) (m : ℤ) → 7 < bits → bits ≤ 64 → IsWithin (bits - 7) m → (pos 0 ≤ℤ (m +ℤ pos (2 ^ 56))) × (m <ℤ pos (2 ^ 56))
narrow bits m wide most within =
    let p : 2 ^ (bits - 7 - 1) ≤ 2 ^ 56 = (let h : bits - 7 - 1 ≤ 56 = omega arith in pow_mono h) in
    (omega (arith, ints), omega (arith, ints))

pub widened : (bits b : ℕ) (z m : ℤ) → 7 < bits → 128 ≤ b → b < 256 → z +ℤ pos 128 ≡ pos b +ℤ pos 128 *ℤ m → IsWithin (bits - 7) m → IsWithin bits z
widened bits b z m wide high byte value within =
    let k : bits - 1 - 7 ≡ bits - 7 - 1 = omega arith in
    let e : 2 ^ (bits - 1) ≡ 128 * 2 ^ (bits - 7 - 1) = pow_seven (bits - 1) (omega arith) ∙ ap (λ (n : ℕ). 128 * 2 ^ n) k in
    (omega (arith, ints), omega (arith, ints))

pub signed_more : (bits b : ℕ) (whole bytes : List ℕ) (z m : ℤ) (rest : List ℕ) → whole ≡ b ∷ bytes → 7 < bits → 128 ≤ b → signed_at (bits - 7) bytes ≡ Some (m, rest) → z +ℤ pos 128 ≡ pos b +ℤ pos 128 *ℤ m → signed_at bits whole ≡ Some (z, rest)
unfolding signed_at
signed_more bits b whole bytes z m rest at wide high read value =
    let le : 64 ≤ b = omega arith in
    let same : pos b +ℤ pos 128 *ℤ m -ℤ pos 128 ≡ z = omega (arith, ints) in
    rw (at, le-ltb _ _ le, le-ltb _ _ high, lt-ltb _ _ wide, read) (at_value _ _ rest same)
