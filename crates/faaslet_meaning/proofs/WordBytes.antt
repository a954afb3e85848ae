-- Numbers as bytes, the lowest first: those of std are those of loads and stores.
use Rattle.std.proofs.Common.{◌≡◌, ℕ, zero, suc, ◌+◌, ◌*◌, ◌/◌, ◌%◌, ◌≤◌, ◌<◌, List, [], ◌∷◌, ◌++◌, length, take, get_or, ◌^◌, replicate, refl, ap, arith, ◌∙◌, ◌-◌, drop}
use Rattle.std.proofs.lemmas.List.{drop-replicate, length-append, length-replicate}
use Rattle.std.specs.Int.{w64, from_le_bytes, to_le_bytes}
use Rattle.std.proofs.Math.Nat.{mul_assoc, mul_comm, mul-suc, mul-le-mul_left, mod-eq_of_lt}
use Rattle.std.proofs.Math.Pow.{pow_mono}
use Rattle.std.proofs.lemmas.Nat.{pow-add, pow_pos, shr-shr}
use Rattle.faaslet_meaning.specs.LoadStore.{number, bytes_of}

pub zeros : (k : ℕ) → number (replicate k 0) ≡ 0
zeros zero = refl
zeros (suc k) = let r = zeros k in omega arith

-- zeros behind the bytes of a number don't count
pub padded : (bs : List ℕ) (k : ℕ) → number (bs ++ replicate k 0) ≡ number bs
padded [] k = zeros k
padded (b ∷ bs) k = ap (λ n. b + 256 * n) (padded bs k)

pub eight : (bs : List ℕ) → length bs ≡ 8 → from_le_bytes w64 bs ≡ number bs
eight [] e = absurd (omega arith)
eight (a ∷ []) e = absurd (omega arith)
eight (a ∷ b ∷ []) e = absurd (omega arith)
eight (a ∷ b ∷ c ∷ []) e = absurd (omega arith)
eight (a ∷ b ∷ c ∷ d ∷ []) e = absurd (omega arith)
eight (a ∷ b ∷ c ∷ d ∷ p ∷ []) e = absurd (omega arith)
eight (a ∷ b ∷ c ∷ d ∷ p ∷ q ∷ []) e = absurd (omega arith)
eight (a ∷ b ∷ c ∷ d ∷ p ∷ q ∷ r ∷ []) e = absurd (omega arith)
eight (a ∷ b ∷ c ∷ d ∷ p ∷ q ∷ r ∷ s ∷ []) e = omega arith
eight (a ∷ b ∷ c ∷ d ∷ p ∷ q ∷ r ∷ s ∷ t ∷ ts) e = absurd (omega arith)

-- a number as so many bytes
pub bytes_many : (n x : ℕ) → length (bytes_of n x) ≡ n
bytes_many zero x = refl
bytes_many (suc n) x = ap suc (bytes_many n (x / 256))

-- the first bytes of a number are its lowest
pub front : (m n x : ℕ) → m ≤ n → take m (bytes_of n x) ≡ bytes_of m x
front zero n x h = refl
front (suc m) zero x h = absurd (omega arith)
front (suc m) (suc n) x h = ap (λ bs. x % 256 ∷ bs) (front m n (x / 256) (omega arith))

two : (x : ℕ) → x / 256 / 256 ≡ x / 65536
two x = omega arith

three : (x : ℕ) → x / 65536 / 256 ≡ x / 16777216
three x = omega arith

four : (x : ℕ) → x / 16777216 / 256 ≡ x / 4294967296
four x = omega arith

five : (x : ℕ) → x / 4294967296 / 256 ≡ x / 1099511627776
five x = omega arith

six : (x : ℕ) → x / 1099511627776 / 256 ≡ x / 281474976710656
six x = omega arith

seven : (x : ℕ) → x / 281474976710656 / 256 ≡ x / 72057594037927936
seven x = omega arith

pub eight_of : (x : ℕ) → to_le_bytes w64 x ≡ bytes_of 8 x
eight_of x = rw (two x, three x, four x, five x, six x, seven x) refl

-- bytes in front of zeros, eight in all
pub in_front : (bs : List ℕ) → length bs ≤ 8 → from_le_bytes w64 (bs ++ drop (length bs) (replicate 8 0)) ≡ number bs
in_front bs h =
    let z : drop (length bs) (replicate {A = ℕ} 8 0) ≡ replicate (8 - length bs) 0 = drop-replicate (length bs) 8 0 in
    let n : length (bs ++ replicate (8 - length bs) 0) ≡ 8 = omega (arith, length-append bs (replicate (8 - length bs) 0), length-replicate {A = ℕ} (8 - length bs) 0) in
    ap (λ ws. from_le_bytes w64 (bs ++ ws)) z ∙ eight (bs ++ replicate (8 - length bs) 0) n ∙ padded bs (8 - length bs)

-- one byte more
next_power : (n : ℕ) → 2 ^ (8 * suc n) ≡ 2 ^ (8 * n) * 256
next_power n = let e : 8 * suc n ≡ 8 * n + 8 = omega arith in ap (λ k. 2 ^ k) e ∙ pow-add 2 (8 * n) 8

pub small_of : (bs : List ℕ) → ((k : ℕ) → get_or bs k 0 < 256) → number bs < 2 ^ (8 * length bs)
small_of [] h = omega arith
small_of (b ∷ bs) h = let r = small_of bs (λ k. h (suc k)) in let e = next_power (length bs) in let f = h 0 in omega arith

-- behind bytes come others
pub number_append : (xs ys : List ℕ) → number (xs ++ ys) ≡ number xs + 2 ^ (8 * length xs) * number ys
number_append [] ys = omega arith
number_append (x ∷ xs) ys =
    let r = number_append xs ys in
    let e : 2 ^ (8 * suc (length xs)) * number ys ≡ 256 * (2 ^ (8 * length xs) * number ys) = ap (λ p. p * number ys) (next_power (length xs)) ∙ ap (λ p. p * number ys) (mul_comm (2 ^ (8 * length xs)) 256) ∙ mul_assoc 256 (2 ^ (8 * length xs)) (number ys) in
    omega arith

-- so many bytes more fit behind
pub joined_small : (value done part len : ℕ) → value < 2 ^ (8 * done) → part < 2 ^ (8 * len) → value + 2 ^ (8 * done) * part < 2 ^ (8 * (done + len))
joined_small value done part len v p =
    let e : 8 * (done + len) ≡ 8 * done + 8 * len = omega arith in
    let f : 2 ^ (8 * (done + len)) ≡ 2 ^ (8 * done) * 2 ^ (8 * len) = ap (λ k. 2 ^ k) e ∙ pow-add 2 (8 * done) (8 * len) in
    let g : 2 ^ (8 * done) * suc part ≤ 2 ^ (8 * done) * 2 ^ (8 * len) = mul-le-mul_left (2 ^ (8 * done)) p in
    let h : 2 ^ (8 * done) * suc part ≡ 2 ^ (8 * done) * part + 2 ^ (8 * done) = mul-suc (2 ^ (8 * done)) part in
    omega arith

pub within_word : (n : ℕ) → n ≤ 8 → 2 ^ (8 * n) ≤ 2 ^ 64
within_word n h = pow_mono {j = 64} (omega arith)

-- the lowest bytes dropped
pub bytes_behind : (done m n x : ℕ) → m ≡ done + n → drop done (bytes_of m x) ≡ bytes_of n (x / 2 ^ (8 * done))
bytes_behind zero m n x e =
    let f : m ≡ n = omega arith in
    let g : x ≡ x / 2 ^ (8 * 0) = omega arith in
    ap (λ k. bytes_of k x) f ∙ ap (bytes_of n) g
bytes_behind (suc d) zero n x e = absurd (omega arith)
bytes_behind (suc d) (suc m) n x e =
    let f : 8 + 8 * d ≡ 8 * suc d = omega arith in
    let g : x / 256 / 2 ^ (8 * d) ≡ x / 2 ^ (8 * suc d) = shr-shr x 8 (8 * d) ∙ ap (λ k. x / 2 ^ k) f in
    bytes_behind d m n (x / 256) (omega arith) ∙ ap (bytes_of n) g

-- a shift that loses no bit
pub shifted : (part done len : ℕ) → 1 ≤ len → done + len ≤ 8 → part < 2 ^ (8 * len) → (part * 2 ^ (8 * done)) % 2 ^ 64 ≡ 2 ^ (8 * done) * part
shifted part done len some few p =
    let s = joined_small 0 done part len (pow_pos (8 * done)) p in
    let w = within_word (done + len) few in
    let e = mul_comm part (2 ^ (8 * done)) in
    let lt : part * 2 ^ (8 * done) < 2 ^ 64 = omega arith in
    mod-eq_of_lt lt ∙ e
