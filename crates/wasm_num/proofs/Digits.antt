-- The counts of digits and the operations digit by digit, as sums, are those of the library.
use Rattle.std.proofs.Common.{◌≡◌, ℕ, zero, suc, ◌+◌, ◌-◌, ◌*◌, ◌/◌, ◌%◌, ◌^◌, ◌<◌, ◌≤◌, min, refl, sym, ap, ap₂, ◌∙◌, arith, eqb, ltb, ◌⊎◌, inl, inr}
use Rattle.std.specs.Prelude.{max, bit_and, bit_or, bit_xor}
use Rattle.std.specs.Int.Bits.{and_step, or_step, xor_step, differ}
use Rattle.std.specs.Int.Count.{count_leading_zeros, count_trailing_zeros, under, ones, ones_step, leading_length}
use Rattle.std.proofs.lemmas.Nat.{mod-pow-add, mod_below}
use Rattle.std.proofs.lemmas.Nat.Bits.{bit_at-suc, bit_at_lowest}
use Rattle.std.proofs.lemmas.Bool.{cases_lt, lt-ltb, le-ltb, eq-eqb, ne_eqb}
use Rattle.std.proofs.lemmas.Bool.Decides.{nat_tests}
use Rattle.std.proofs.Math.Nat.{pow-suc, mul_assoc}
use Rattle.std.proofs.Math.Pow.{pow_mono}
use Rattle.faaslet_meaning.specs.Integers.{total, digit, truth}

-- ---- sums

pub total_same : (n : ℕ) (f g : ℕ → ℕ) → ((k : ℕ) → f k ≡ g k) → total n f ≡ total n g
unfolding total
total_same zero f g e = refl
total_same (suc n) f g e = omega (arith, total_same n f g e, e n)

-- the first part apart from the rest
pub total_first : (n : ℕ) (f : ℕ → ℕ) → total (suc n) f ≡ f 0 + total n (λ k. f (suc k))
unfolding total
total_first zero f = omega arith
total_first (suc n) f = omega (arith, total_first n f)

total_double : (n : ℕ) (f : ℕ → ℕ) → total n (λ k. f k * 2) ≡ total n f * 2
unfolding total
total_double zero f = refl
total_double (suc n) f = omega (arith, total_double n f)

total_zeros : (n : ℕ) (f : ℕ → ℕ) → ((k : ℕ) → f k ≡ 0) → total n f ≡ 0
unfolding total
total_zeros zero f e = refl
total_zeros (suc n) f e = omega (arith, total_zeros n f e, e n)

-- a sum of which the parts from m on are 1, and those below are 0
total_from : (m n : ℕ) (f : ℕ → ℕ) → ((k : ℕ) → k < m → f k ≡ 0) → ((k : ℕ) → m ≤ k → f k ≡ 1) → total n f ≡ n - m
unfolding total
total_from m zero f below above = omega arith
total_from m (suc n) f below above = by (total_from m n f below above) (cases_lt n m)
  where
    by : total n f ≡ n - m → (n < m) ⊎ (m ≤ n) → total n f + f n ≡ suc n - m
    by r (inl h) = omega (arith, below n h)
    by r (inr h) = omega (arith, above n h)

-- ---- counts

half_below : (x n : ℕ) → x < 2 ^ suc n → x / 2 < 2 ^ n
half_below x n h = let e = pow-suc 2 n in omega arith

pub leading : (n x : ℕ) → x < 2 ^ n → total n (λ k. truth (ltb x (2 ^ k))) ≡ count_leading_zeros n x
leading n x h =
    let l = leading_length n x h in
    let m = l.0 in
    let below : (k : ℕ) → k < m → truth (ltb x (2 ^ k)) ≡ 0 = λ k p. ap truth (le-ltb x (2 ^ k) (let e = pow-suc 2 k in let q : 2 ^ suc k ≤ 2 ^ m = pow_mono p in omega (arith, l.3))) in
    let above : (k : ℕ) → m ≤ k → truth (ltb x (2 ^ k)) ≡ 1 = λ k p. ap truth (lt-ltb x (2 ^ k) (let q : 2 ^ m ≤ 2 ^ k = pow_mono p in omega (arith, l.2))) in
    omega (arith, total_from m n (λ k. truth (ltb x (2 ^ k))) below above, l.1)

-- whether a power of 2 divides a number, by its lowest digit and the others
even : (a b : ℕ) → a ≡ b * 2 + 0 → eqb a 0 ≡ eqb b 0
even a b e = grind (arith, nat_tests)

odd : (a b : ℕ) → a ≡ b * 2 + 1 → eqb a 0 ≡ eqb 1 0
odd a b e = ne_eqb a 0 (λ z. omega arith)

divides : ℕ → ℕ → ℕ
divides x k = truth (eqb (x % 2 ^ (k + 1)) 0)

-- the lowest k + 2 digits of x are the lowest k + 1 of its half, and the last
lowest : (x k : ℕ) → x % 2 ^ (suc k + 1) ≡ (x / 2 % 2 ^ (k + 1)) * 2 + x % 2
lowest x k = let e : suc k + 1 ≡ k + 1 + 1 = omega arith in ap (λ m. x % 2 ^ m) e ∙ mod-pow-add x (k + 1) 1

trailing_step : (n x d : ℕ) → x % 2 ≡ d → total n (divides (x / 2)) ≡ count_trailing_zeros n (x / 2) → divides x 0 + total n (λ k. divides x (suc k)) ≡ under d (count_trailing_zeros n (x / 2))
unfolding divides
trailing_step n x zero e r =
    let first : truth (eqb (x % 2 ^ (0 + 1)) 0) ≡ 1 = ap truth (eq-eqb (x % 2) 0 e) in
    let next : (k : ℕ) → truth (eqb (x % 2 ^ (suc k + 1)) 0) ≡ truth (eqb (x / 2 % 2 ^ (k + 1)) 0) = λ k. ap truth (even (x % 2 ^ (suc k + 1)) (x / 2 % 2 ^ (k + 1)) (omega (arith, lowest x k))) in
    omega (arith, first, total_same n _ _ next, r)
trailing_step n x (suc zero) e r =
    let first : truth (eqb (x % 2 ^ (0 + 1)) 0) ≡ 0 = ap truth (odd (x % 2) 0 e) in
    let next : (k : ℕ) → truth (eqb (x % 2 ^ (suc k + 1)) 0) ≡ 0 = λ k. ap truth (odd (x % 2 ^ (suc k + 1)) (x / 2 % 2 ^ (k + 1)) (omega (arith, lowest x k))) in
    omega (arith, first, total_zeros n _ next)
trailing_step n x (suc (suc d)) e r = absurd (omega arith)

pub trailing : (n x : ℕ) → total n (λ k. truth (eqb (x % 2 ^ (k + 1)) 0)) ≡ count_trailing_zeros n x
unfolding total count_trailing_zeros divides
trailing zero x = refl
trailing (suc n) x = total_first n (divides x) ∙ trailing_step n x (x % 2) refl (trailing n (x / 2))

pub set : (n x : ℕ) → x < 2 ^ n → total n (digit x) ≡ ones x
unfolding total ones
set zero x h = let e : 0 ≡ x = omega arith in ap ones e
set (suc n) x h =
    let rest = set n (x / 2) (half_below x n h) in
    let same : total n (λ k. digit x (suc k)) ≡ total n (digit (x / 2)) = total_same n _ _ (λ k. bit_at-suc x k) in
    omega (arith, total_first n (digit x), same, rest, ones_step x, bit_at_lowest x)

-- ---- digit by digit

-- an operation on numbers that goes digit by digit, lowest first
module _ (op whole : ℕ → ℕ → ℕ) (none : whole 0 0 ≡ 0) (step : (x y : ℕ) → whole x y ≡ whole (x / 2) (y / 2) * 2 + op (x % 2) (y % 2)) where
  part : ℕ → ℕ → ℕ → ℕ
  part x y k = op (digit x k) (digit y k) * 2 ^ k

  part_next : (x y k : ℕ) → part x y (suc k) ≡ part (x / 2) (y / 2) k * 2
  unfolding part
  part_next x y k = ap₂ (λ d e. op d e * 2 ^ suc k) (bit_at-suc x k) (bit_at-suc y k) ∙ ap (λ m. op (digit (x / 2) k) (digit (y / 2) k) * m) (pow-suc 2 k) ∙ sym (mul_assoc (op (digit (x / 2) k) (digit (y / 2) k)) (2 ^ k) 2)

  part_first : (x y : ℕ) → part x y 0 ≡ op (x % 2) (y % 2)
  unfolding part
  part_first x y = omega (arith, ap₂ op (bit_at_lowest x) (bit_at_lowest y))

  by_digits : (n x y : ℕ) → x < 2 ^ n → y < 2 ^ n → total n (part x y) ≡ whole x y
  unfolding total part
  by_digits zero x y h k = let e : 0 ≡ x = omega arith in let f : 0 ≡ y = omega arith in sym none ∙ ap₂ whole e f
  by_digits (suc n) x y h k =
      let rest = by_digits n (x / 2) (y / 2) (half_below x n h) (half_below y n k) in
      let next = total_same n _ _ (part_next x y) ∙ total_double n (part (x / 2) (y / 2)) in
      omega (arith, total_first n (part x y), part_first x y, next, rest, step x y)

differ_is : (d e : ℕ) → d < 2 → e < 2 → differ d e ≡ (d + e) % 2
differ_is zero zero h k = refl
differ_is zero (suc zero) h k = refl
differ_is (suc zero) zero h k = refl
differ_is (suc zero) (suc zero) h k = refl
differ_is zero (suc (suc e)) h k = absurd (omega arith)
differ_is (suc zero) (suc (suc e)) h k = absurd (omega arith)
differ_is (suc (suc d)) e h k = absurd (omega arith)

pub both : (n x y : ℕ) → x < 2 ^ n → y < 2 ^ n → total n (λ k. min (digit x k) (digit y k) * 2 ^ k) ≡ bit_and x y
unfolding part
both n x y h k = by_digits min bit_and refl and_step n x y h k

pub either : (n x y : ℕ) → x < 2 ^ n → y < 2 ^ n → total n (λ k. max (digit x k) (digit y k) * 2 ^ k) ≡ bit_or x y
unfolding part
either n x y h k = by_digits max bit_or refl or_step n x y h k

pub differing : (n x y : ℕ) → x < 2 ^ n → y < 2 ^ n → total n (λ k. (digit x k + digit y k) % 2 * 2 ^ k) ≡ bit_xor x y
unfolding part
differing n x y h k =
    by_digits (λ d e. (d + e) % 2) bit_xor refl
    (λ a b. xor_step a b ∙ ap (λ d. bit_xor (a / 2) (b / 2) * 2 + d) (differ_is (a % 2) (b % 2) (mod_below a 2 (omega arith)) (mod_below b 2 (omega arith)))) n x y h k
