-- Rotations as sums of two parts, and an arithmetic shift by its two parts, are those of the library.
use Rattle.std.proofs.Common.{◌≡◌, ℕ, zero, suc, ◌+◌, ◌-◌, ◌*◌, ◌/◌, ◌%◌, ◌^◌, ◌<◌, ◌≤◌, refl, sym, ap, ap₂, ◌∙◌, subst, arith, ◌⊎◌, inl, inr}
use Rattle.std.specs.Prelude.{bit_or}
use Rattle.std.specs.Int.{Width, w8, w16, w32, w64, w128, cast_signed, cast_unsigned, int_shr}
use Rattle.std.specs.Int.Bits.{or_self}
use mir.Val.{bits, hbits}
use Rattle.std.proofs.lemmas.Nat.{pow-add, shr_split, shr_high, shr_below, or_shifted, or_comm, pow_pos, mod_below}
use Rattle.std.proofs.lemmas.Bool.{cases_lt, lt-ltb, le-ltb}
use Rattle.std.proofs.Math.Nat.{add-mul, suc-mul, mod-eq_of_lt, mod_self, mul-mod_left, div-eq_of_lt}
use Rattle.std.proofs.Math.Pow.{pow_mono}
use Rattle.faaslet_meaning.specs.Integers.{sign_copies}
use Rattle.faaslet_meaning.proofs.IntegerResults.{kept}

-- ---- rotations

-- the k digits that leave above come back below
turned : (x j k : ℕ) → x < 2 ^ (j + k) → bit_or ((x * 2 ^ k) % 2 ^ (j + k)) (x / 2 ^ j) ≡ (x * 2 ^ k) % 2 ^ (j + k) + x / 2 ^ j
turned x j k h =
    let high : x < 2 ^ (k + j) = subst (λ n. x < 2 ^ n) (omega arith) h in
    ap (λ y. bit_or y (x / 2 ^ j)) (kept x j k) ∙ or_shifted (x % 2 ^ j) k (x / 2 ^ j) (shr_below x k j high) ∙ ap (λ y. y + x / 2 ^ j) (sym (kept x j k))

turned_in : (n x j k : ℕ) → j + k ≡ n → x < 2 ^ n → bit_or ((x * 2 ^ k) % 2 ^ n) (x / 2 ^ j) ≡ (x * 2 ^ k) % 2 ^ n + x / 2 ^ j
turned_in n x j k e = subst (λ m. x < 2 ^ m → bit_or ((x * 2 ^ k) % 2 ^ m) (x / 2 ^ j) ≡ (x * 2 ^ k) % 2 ^ m + x / 2 ^ j) e (turned x j k)

-- by no digit
around : (n : ℕ) → 0 < n → (n - 0) % n ≡ 0
around n h = let e : n - 0 ≡ n = omega arith in ap (λ m. m % n) e ∙ mod_self n

pub left : (n x k : ℕ) → k < n → x < 2 ^ n → bit_or ((x * 2 ^ k) % 2 ^ n) (x / 2 ^ ((n - k) % n)) ≡ (x * 2 ^ k) % 2 ^ n + x / 2 ^ (n - k)
left n x zero p h =
    let same : (x * 2 ^ 0) % 2 ^ n ≡ x = ap (λ y. y % 2 ^ n) (omega arith) ∙ mod-eq_of_lt h in
    let whole : x / 2 ^ ((n - 0) % n) ≡ x = ap (λ m. x / 2 ^ m) (around n p) ∙ omega arith in
    let e : n - 0 ≡ n = omega arith in
    let nothing : x / 2 ^ (n - 0) ≡ 0 = ap (λ m. x / 2 ^ m) e ∙ div-eq_of_lt h in
    ap₂ bit_or same whole ∙ or_self x ∙ omega (arith, same, nothing)
left n x (suc k) p h =
    let e : (n - suc k) % n ≡ n - suc k = mod-eq_of_lt (omega arith) in
    ap (λ m. bit_or ((x * 2 ^ suc k) % 2 ^ n) (x / 2 ^ m)) e ∙ turned_in n x (n - suc k) (suc k) (omega arith) h

pub right : (n x k : ℕ) → k < n → x < 2 ^ n → bit_or (x / 2 ^ k) ((x * 2 ^ ((n - k) % n)) % 2 ^ n) ≡ x / 2 ^ k + (x * 2 ^ (n - k)) % 2 ^ n
right n x zero p h =
    let same : (x * 2 ^ ((n - 0) % n)) % 2 ^ n ≡ x = ap (λ m. (x * 2 ^ m) % 2 ^ n) (around n p) ∙ ap (λ y. y % 2 ^ n) (omega arith) ∙ mod-eq_of_lt h in
    let whole : x / 2 ^ 0 ≡ x = omega arith in
    let e : n - 0 ≡ n = omega arith in
    let nothing : (x * 2 ^ (n - 0)) % 2 ^ n ≡ 0 = ap (λ m. (x * 2 ^ m) % 2 ^ n) e ∙ mul-mod_left x (2 ^ n) in
    ap₂ bit_or whole same ∙ or_self x ∙ omega (arith, whole, nothing)
right n x (suc k) p h =
    let e : (n - suc k) % n ≡ n - suc k = mod-eq_of_lt (omega arith) in
    ap (λ m. bit_or (x / 2 ^ suc k) ((x * 2 ^ m) % 2 ^ n)) e
    ∙ or_comm (x / 2 ^ suc k) ((x * 2 ^ (n - suc k)) % 2 ^ n)
    ∙ turned_in n x (suc k) (n - suc k) (omega arith) h
    ∙ omega arith

-- ---- the arithmetic shift

-- what x lacks of 2 ^ n - 1, shifted
complement : (q t m r : ℕ) → r < m → (suc q + t) * m - suc (q * m + r) ≡ t * m + (m - suc r)
complement q t m r h = let e = add-mul (suc q) t m in let f = suc-mul q m in omega arith

negative : (n x k : ℕ) → k < n → x < 2 ^ n → 2 ^ n - suc ((2 ^ n - suc x) / 2 ^ k) ≡ x / 2 ^ k + (2 ^ n - 2 ^ (n - k))
negative n x k p h =
    let j = n - k in
    let q = x / 2 ^ k in
    let r = x % 2 ^ k in
    let m = 2 ^ k in
    let e : n ≡ j + k = omega arith in
    let whole : 2 ^ n ≡ 2 ^ j * 2 ^ k = ap (λ i. 2 ^ i) e ∙ pow-add 2 j k in
    let above : q < 2 ^ j = shr_below x j k (subst (λ i. x < 2 ^ i) e h) in
    let t = 2 ^ j - suc q in
    let parts : 2 ^ j ≡ suc q + t = omega arith in
    let low : r < m = mod_below x m (pow_pos k) in
    let rest : 2 ^ n - suc x ≡ t * m + (m - suc r) = ap₂ (λ a b. a - suc b) (whole ∙ ap (λ a. a * m) parts) (sym (shr_split x k)) ∙ complement q t m r low in
    let shifted : (2 ^ n - suc x) / m ≡ t = ap (λ a. a / m) rest ∙ shr_high t k (m - suc r) (omega arith) in
    let fewer : j ≤ n = omega arith in
    let fits : 2 ^ j ≤ 2 ^ n = pow_mono fewer in
    omega arith

half : (w : Width) → bits w - 1 ≡ hbits w
half w8 = refl
half w16 = refl
half w32 = refl
half w64 = refl
half w128 = refl

pub arithmetic : (w : Width) (x k : ℕ) → k < bits w → x < 2 ^ bits w → cast_unsigned w (int_shr (cast_signed w x) k) ≡ x / 2 ^ k + sign_copies w x k
arithmetic w x k p h = by (cases_lt x (2 ^ hbits w))
  where
    by : (x < 2 ^ hbits w) ⊎ (2 ^ hbits w ≤ x) → cast_unsigned w (int_shr (cast_signed w x) k) ≡ x / 2 ^ k + sign_copies w x k
    by (inl l) = let e = lt-ltb x (2 ^ hbits w) l in rw (half w) (rw e (omega arith))
    by (inr l) = let e = le-ltb x (2 ^ hbits w) l in rw (half w) (rw e (negative (bits w) x k p h))
