-- What is read of the grants: which may be written, as one number, and the place of a key.
use Rattle.std.proofs.Common.{◌≡◌, ℕ, zero, suc, ◌+◌, ◌*◌, ◌/◌, ◌%◌, ◌^◌, ◌<◌, ◌≤◌, nat_eq, List, [], ◌∷◌, length, drop, sym, ap, ◌∙◌, arith}
use Rattle.std.specs.Prelude.{slice_get}
use Rattle.std.proofs.Math.Nat.{div-div-eq-div-mul, zero-div, pow-succ'}
use Rattle.std.proofs.Math.Pow.{pow_mono}
use Rattle.faaslet_meaning.specs.declared.grant.Grant.{Grant}
use Rattle.faaslet_meaning.specs.declared.grant.Mode.{Mode}
use Rattle.faaslet_meaning.specs.declared.grant.Mode.TheVariants.{Read, Write}
use Rattle.faaslet_meaning.specs.MemoryRules.{granted, includes}
use Rattle.wasm_interp.specs.StandsFor.{Agrees, bit}
use Rattle.faaslet_run.specs.Allowed.{write_bit, writable_of}

-- ---- Which may be written.

first_bit : (m : Mode) (n : ℕ) → includes m Write ≡ bit (write_bit m + 2 * n) 0
first_bit Read n = let e : (0 + 2 * n) / 2 ^ 0 % 2 ≡ 0 = omega arith in ap (λ x. nat_eq x 1) (sym e)
first_bit Write n = let e : (1 + 2 * n) / 2 ^ 0 % 2 ≡ 1 = omega arith in ap (λ x. nat_eq x 1) (sym e)

halved : (m : Mode) (n : ℕ) → (write_bit m + 2 * n) / 2 ≡ n
halved Read n = omega arith
halved Write n = omega arith

other_bit : (m : Mode) (n k : ℕ) → bit n k ≡ bit (write_bit m + 2 * n) (suc k)
other_bit m n k =
    let x = write_bit m + 2 * n in
    let e : x / 2 ^ suc k ≡ n / 2 ^ k = ap (λ d. x / d) (pow-succ' 2 k) ∙ sym (div-div-eq-div-mul x 2 (2 ^ k)) ∙ ap (λ y. y / 2 ^ k) (halved m n) in
    ap (λ y. nat_eq (y % 2) 1) (sym e)

agrees_at : (gs : List Grant) (k : ℕ) → granted Write (slice_get gs k) ≡ bit (writable_of gs) k
agrees_at [] k = let z : 0 / 2 ^ k ≡ 0 = zero-div (2 ^ k) in sym (ap (λ n. nat_eq (n % 2) 1) z)
agrees_at (g ∷ gs) zero = first_bit g.mode (writable_of gs)
agrees_at (g ∷ gs) (suc k) = agrees_at gs k ∙ other_bit g.mode (writable_of gs) k

pub agrees : (w : ℕ) (gs : List Grant) → w ≡ writable_of gs → Agrees w gs
agrees w gs e k l = agrees_at gs k ∙ ap (λ n. bit n k) (sym e)

-- ---- As a number it is below a power of two.

small_bit : (m : Mode) → write_bit m ≤ 1
small_bit Read = omega arith
small_bit Write = omega arith

pub few_bits : (gs : List Grant) → writable_of gs < 2 ^ length gs
few_bits [] = omega arith
few_bits (g ∷ gs) =
    let b = small_bit g.mode in
    let r = few_bits gs in
    let e : 2 ^ suc (length gs) ≡ 2 * 2 ^ length gs = pow-succ' 2 (length gs) in
    omega (arith, b, r, e)

dropped_few : (gs : List Grant) (k : ℕ) → length (drop k gs) ≤ length gs
dropped_few [] zero = omega arith
dropped_few [] (suc k) = omega arith
dropped_few (g ∷ gs) zero = omega arith
dropped_few (g ∷ gs) (suc k) = let r = dropped_few gs k in omega (arith, r)

-- so are those of the last of at most 32 grants
pub small_bits : (gs : List Grant) (k : ℕ) → length gs ≤ 32 → writable_of (drop k gs) < 2 ^ 32
small_bits gs k h =
    let a = few_bits (drop k gs) in
    let l = dropped_few gs k in
    let few : length (drop k gs) ≤ 32 = omega (arith, l, h) in
    let b : 2 ^ length (drop k gs) ≤ 2 ^ 32 = pow_mono few in
    omega (arith, a, b)
