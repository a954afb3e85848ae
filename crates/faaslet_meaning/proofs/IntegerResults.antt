-- A row's result is a number below 2 ^ N.
use Rattle.std.proofs.Common.{◌≡◌, ℕ, zero, suc, ◌+◌, ◌-◌, ◌*◌, ◌/◌, ◌%◌, ◌^◌, ◌<◌, ◌≤◌, min, sym, ap, ◌∙◌, subst, arith, Bool, true, false}
use Rattle.std.specs.Prelude.{max, ℤ, pos, negsuc, IfOk, Result, Ok, Err, nat_lt, ◌==◌, if◌then◌else◌}
use Rattle.std.specs.Int.{Width, w8, w16, w32, w64, w128}
use mir.Val.{bits}
use Rattle.std.proofs.Math.Nat.{div-le_self, mod-le, add-mul, mul_assoc, pow-suc}
use Rattle.std.proofs.Math.Pow.{pow_mono}
use Rattle.std.proofs.lemmas.Nat.{pow_pos, mod_below, pow-add, shr_split, mod_low, shr_below, shl_below, mul-add-lt}
use Rattle.faaslet_meaning.specs.declared.outcome.Trap.{Trap}
use Rattle.faaslet_meaning.specs.declared.outcome.Trap.TheVariants.{DivideByZero, IntegerOverflow}
use Rattle.faaslet_meaning.specs.Integers.{Unary, Binary, Convert, clz, ctz, popcnt, add, sub, mul, div_s, div_u, rem_s, rem_u, and, or, xor, shl, shr_s, shr_u, rotl, rotr, wrap, extend_s, extend_u, low, truth, signed, unsigned, total, digit, quotient, remainder, unop, binop, overflows, unless_zero, sign_copies, test_row, unary_row, binary_row, convert_row}

low_below : (w : Width) (x : ℕ) → low w x < 2 ^ bits w
low_below w x = mod_below x (2 ^ bits w) (pow_pos (bits w))

unsigned_below : (w : Width) (z : ℤ) → unsigned w z < 2 ^ bits w
unsigned_below w (pos n) = low_below w n
unsigned_below w (negsuc n) = let p = pow_pos (bits w) in omega arith

truth_small : (b : Bool) → truth b ≤ 1
truth_small true = omega arith
truth_small false = omega arith

digit_small : (x k : ℕ) → digit x k ≤ 1
digit_small x k = let p = mod_below (x / 2 ^ k) 2 (omega arith) in omega arith

-- ---- sums

total_count : (n : ℕ) (f : ℕ → ℕ) → ((k : ℕ) → f k ≤ 1) → total n f ≤ n
unfolding total
total_count zero f h = omega arith
total_count (suc n) f h = omega (arith, total_count n f h, h n)

scaled : (d m : ℕ) → d ≤ 1 → d * m ≤ m
scaled zero m h = omega arith
scaled (suc zero) m h = omega arith
scaled (suc (suc d)) m h = absurd (omega arith)

total_number : (n : ℕ) (f : ℕ → ℕ) → ((k : ℕ) → f k ≤ 1) → total n (λ k. f k * 2 ^ k) < 2 ^ n
unfolding total
total_number zero f h = omega arith
total_number (suc n) f h = omega (arith, total_number n f h, scaled (f n) (2 ^ n) (h n), pow-suc 2 n)

few : (n : ℕ) → n < 2 ^ n
few zero = omega arith
few (suc n) = omega (arith, few n, pow-suc 2 n)

-- ---- shifts and rotations

-- of j + k digits the lowest j stay where k more come below them
pub kept : (x j k : ℕ) → (x * 2 ^ k) % 2 ^ (j + k) ≡ (x % 2 ^ j) * 2 ^ k
kept x j k =
    let q = x / 2 ^ j in
    let r = x % 2 ^ j in
    let small : r * 2 ^ k < 2 ^ (j + k) = shl_below r j k (mod_below x (2 ^ j) (pow_pos j)) in
    let parts : x * 2 ^ k ≡ q * 2 ^ (j + k) + r * 2 ^ k = ap (λ y. y * 2 ^ k) (sym (shr_split x j)) ∙ add-mul (q * 2 ^ j) r (2 ^ k) ∙ ap (λ y. y + r * 2 ^ k) (mul_assoc q (2 ^ j) (2 ^ k) ∙ ap (λ y. q * y) (sym (pow-add 2 j k))) in
    ap (λ y. y % 2 ^ (j + k)) parts ∙ mod_low q (j + k) (r * 2 ^ k) small

turned : (n x j k : ℕ) → j + k ≡ n → x < 2 ^ n → (x * 2 ^ k) % 2 ^ n + x / 2 ^ j < 2 ^ n
turned n x j k e h =
    let low : x % 2 ^ j < 2 ^ j = mod_below x (2 ^ j) (pow_pos j) in
    let back : k + j ≡ n = omega arith in
    let high : x / 2 ^ j < 2 ^ k = shr_below x k j (subst (λ m. x < 2 ^ m) (sym back) h) in
    let sum : (x % 2 ^ j) * 2 ^ k + x / 2 ^ j < 2 ^ n = subst (λ m. (x % 2 ^ j) * 2 ^ k + x / 2 ^ j < m) (sym (pow-add 2 k j) ∙ ap (λ m. 2 ^ m) back) (mul-add-lt (x % 2 ^ j) (2 ^ k) (x / 2 ^ j) (2 ^ j) low high) in
    let same : (x * 2 ^ k) % 2 ^ n ≡ (x % 2 ^ j) * 2 ^ k = subst (λ m. (x * 2 ^ k) % 2 ^ m ≡ (x % 2 ^ j) * 2 ^ k) e (kept x j k) in
    omega arith

moved_in : (w : Width) (x k : ℕ) → k < bits w → x < 2 ^ bits w → x / 2 ^ k + sign_copies w x k < 2 ^ bits w
moved_in w x k p h =
    let j = bits w - k in
    let fewer : j ≤ bits w = omega arith in
    let fits : 2 ^ j ≤ 2 ^ bits w = pow_mono fewer in
    let e : bits w ≡ j + k = omega arith in
    let high : x / 2 ^ k < 2 ^ j = shr_below x j k (subst (λ m. x < 2 ^ m) e h) in
    elim (nat_lt x (2 ^ (bits w - 1))) as (λ b. x / 2 ^ k + (if b then 0 else 2 ^ bits w - 2 ^ j) < 2 ^ bits w) [ true ↦ omega arith | false ↦ omega arith ]

-- a width has digits
pub some : (w : Width) → 0 < bits w
some w8 = omega arith
some w16 = omega arith
some w32 = omega arith
some w64 = omega arith
some w128 = omega arith

-- ---- the operations

Fits : Width → Result ℕ Trap → Type 0
Fits w r = IfOk r (λ n. n < 2 ^ bits w)

guarded : (w : Width) (y : ℕ) (r : Result ℕ Trap) → Fits w r → Fits w (unless_zero y r)
unfolding Fits
guarded w y r h = elim (y == 0) as (λ b. IfOk (if b then Err DivideByZero else r) (λ n. n < 2 ^ bits w)) [ true ↦ tt | false ↦ h ]

either_way : (w : Width) (b : Bool) (n : ℕ) → n < 2 ^ bits w → Fits w (if b then Err IntegerOverflow else Ok n)
unfolding Fits
either_way w true n h = tt
either_way w false n h = h

binop_below : (f : Binary) (w : Width) (x y : ℕ) → x < 2 ^ bits w → y < 2 ^ bits w → Fits w (binop f w x y)
unfolding Fits
binop_below add w x y h l = low_below w (x + y)
binop_below sub w x y h l = low_below w (x + 2 ^ bits w - y)
binop_below mul w x y h l = low_below w (x * y)
binop_below div_s w x y h l =
    let n = unsigned w (quotient (signed w x) (signed w y)) in
    guarded w y (if overflows w x y then Err IntegerOverflow else Ok n) (either_way w (overflows w x y) n (unsigned_below w (quotient (signed w x) (signed w y))))
binop_below div_u w x y h l = guarded w y (Ok (x / y)) (let p = div-le_self x y in omega arith)
binop_below rem_s w x y h l = guarded w y (Ok (unsigned w (remainder (signed w x) (signed w y)))) (unsigned_below w (remainder (signed w x) (signed w y)))
binop_below rem_u w x y h l = guarded w y (Ok (x % y)) (let p = mod-le x y in omega arith)
binop_below and w x y h l = total_number (bits w) (λ k. min (digit x k) (digit y k)) (λ k. let p = digit_small x k in omega arith)
binop_below or w x y h l = total_number (bits w) (λ k. max (digit x k) (digit y k)) (λ k. let p = digit_small x k in let q = digit_small y k in omega arith)
binop_below xor w x y h l = total_number (bits w) (λ k. (digit x k + digit y k) % 2) (λ k. let p = mod_below (digit x k + digit y k) 2 (omega arith) in omega arith)
binop_below shl w x y h l = low_below w (x * 2 ^ (y % bits w))
binop_below shr_s w x y h l = moved_in w x (y % bits w) (mod_below y (bits w) (some w)) h
binop_below shr_u w x y h l = let p = div-le_self x (2 ^ (y % bits w)) in omega arith
binop_below rotl w x y h l =
    let p = mod_below y (bits w) (some w) in
    turned (bits w) x (bits w - y % bits w) (y % bits w) (omega arith) h
binop_below rotr w x y h l =
    let p = mod_below y (bits w) (some w) in
    let t = turned (bits w) x (y % bits w) (bits w - y % bits w) (omega arith) h in
    omega arith

unop_below : (f : Unary) (w : Width) (x : ℕ) → unop f w x < 2 ^ bits w
unop_below clz w x = let p = total_count (bits w) (λ k. truth (nat_lt x (2 ^ k))) (λ k. truth_small (nat_lt x (2 ^ k))) in let q = few (bits w) in omega arith
unop_below ctz w x = let p = total_count (bits w) (λ k. truth (x % 2 ^ (k + 1) == 0)) (λ k. truth_small (x % 2 ^ (k + 1) == 0)) in let q = few (bits w) in omega arith
unop_below popcnt w x = let p = total_count (bits w) (digit x) (digit_small x) in let q = few (bits w) in omega arith

-- ---- the rows

pub test_below : (w : Width) (x : ℕ) → test_row w x < 2
test_below w x = let p = truth_small (low w x == 0) in omega arith

pub unary_below : (f : Unary) (w : Width) (x : ℕ) → unary_row f w x < 2 ^ bits w
unary_below f w x = unop_below f w (low w x)

pub binary_below : (f : Binary) (w : Width) (x y : ℕ) → IfOk (binary_row f w x y) (λ n. n < 2 ^ bits w)
unfolding Fits
binary_below f w x y = binop_below f w (low w x) (low w y) (low_below w x) (low_below w y)

-- the width of what a conversion gives
abbrev pub converted : Convert → Width
converted wrap = w32
converted extend_s = w64
converted extend_u = w64

pub convert_below : (f : Convert) (x : ℕ) → convert_row f x < 2 ^ bits (converted f)
convert_below wrap x = low_below w32 (low w64 x)
convert_below extend_s x = unsigned_below w64 (signed w32 (low w32 x))
convert_below extend_u x = let p = low_below w32 x in omega arith
