-- Each integer operation at edge operands: 0, 1, -1, the least and the greatest number, shift counts at and past the
-- number of bits. The expected numbers were computed apart from the rows, with another language's integers.
use Rattle.std.proofs.Common.{◌≡◌, ℕ, List, [], ◌∷◌, ◌++◌, refl, Option, Some, None}
use Rattle.std.specs.Prelude.{Result, Ok, Err}
use Rattle.faaslet_meaning.specs.declared.outcome.Trap.{Trap}
use Rattle.faaslet_meaning.specs.declared.outcome.Trap.TheVariants.{Unreachable, DivideByZero, IntegerOverflow}
use Rattle.faaslet_meaning.specs.Integers.{Numeric, test, compare, unary, binary, convert, test_row, compare_row, unary_row, binary_row, convert_row, numeric_of, truth, total}

abbrev by : Option Numeric → ℕ → ℕ → Result ℕ Trap
by None x y = Err Unreachable
by (Some (test w)) x y = Ok (test_row w x)
by (Some (compare f w)) x y = Ok (truth (compare_row f w x y))
by (Some (unary f w)) x y = Ok (unary_row f w x)
by (Some (binary f w)) x y = binary_row f w x y
by (Some (convert f)) x y = Ok (convert_row f x)

-- what the operation of an opcode gives at each pair of operands, and at each operand
abbrev of_pairs : ℕ → List (ℕ × ℕ) → List (Result ℕ Trap)
of_pairs op [] = []
of_pairs op (p ∷ ps) = by (numeric_of op) p.0 p.1 ∷ of_pairs op ps

abbrev of_each : ℕ → List ℕ → List (Result ℕ Trap)
of_each op [] = []
of_each op (x ∷ xs) = by (numeric_of op) x 0 ∷ of_each op xs

abbrev of_ops : List ℕ → List (Option Numeric)
of_ops [] = []
of_ops (op ∷ ops) = numeric_of op ∷ of_ops ops

abbrev oks : List ℕ → List (Result ℕ Trap)
oks [] = []
oks (n ∷ ns) = Ok n ∷ oks ns

abbrev pairs_32 : List (ℕ × ℕ)
pairs_32 =
    (0, 0) ∷ (0, 1) ∷ (1, 0) ∷ (0xFFFFFFFF, 1) ∷ (1, 0xFFFFFFFF) ∷ (0xFFFFFFFF, 0xFFFFFFFF) ∷ (0x80000000, 0xFFFFFFFF)
    ∷ (0xFFFFFFFF, 0x80000000) ∷ (0x80000000, 1) ∷ (0x80000000, 0x80000000) ∷ (0x7FFFFFFF, 0x80000000) ∷ (0x7FFFFFFF, 0x7FFFFFFF) ∷ (0x7FFFFFFF, 1) ∷ (0xFFFFFFF9, 2)
    ∷ (7, 0xFFFFFFFE) ∷ (0xFFFFFFF9, 0xFFFFFFFE) ∷ (0xC0FFEE05, 12) ∷ (0xC0FFEE05, 31) ∷ (0xC0FFEE05, 32) ∷ (0xC0FFEE05, 33) ∷ (12, 10) ∷ []

abbrev each_32 : List ℕ
each_32 = 0 ∷ 1 ∷ 2 ∷ 0xFFFFFFFF ∷ 0x80000000 ∷ 0x7FFFFFFF ∷ 0xC0000 ∷ 0xA5 ∷ []

abbrev pairs_64 : List (ℕ × ℕ)
pairs_64 =
    (0, 0) ∷ (0, 1) ∷ (1, 0) ∷ (0xFFFFFFFFFFFFFFFF, 1) ∷ (1, 0xFFFFFFFFFFFFFFFF) ∷ (0xFFFFFFFFFFFFFFFF, 0xFFFFFFFFFFFFFFFF) ∷ (0x8000000000000000, 0xFFFFFFFFFFFFFFFF)
    ∷ (0xFFFFFFFFFFFFFFFF, 0x8000000000000000) ∷ (0x8000000000000000, 1) ∷ (0x8000000000000000, 0x8000000000000000) ∷ (0x7FFFFFFFFFFFFFFF, 0x8000000000000000) ∷ (0x7FFFFFFFFFFFFFFF, 0x7FFFFFFFFFFFFFFF) ∷ (0x7FFFFFFFFFFFFFFF, 1) ∷ (0xFFFFFFFFFFFFFFF9, 2)
    ∷ (7, 0xFFFFFFFFFFFFFFFE) ∷ (0xFFFFFFFFFFFFFFF9, 0xFFFFFFFFFFFFFFFE) ∷ (0xC0FFEE0580000331, 12) ∷ (0xC0FFEE0580000331, 63) ∷ (0xC0FFEE0580000331, 64) ∷ (0xC0FFEE0580000331, 65) ∷ (12, 10) ∷ []

abbrev each_64 : List ℕ
each_64 = 0 ∷ 1 ∷ 2 ∷ 0xFFFFFFFFFFFFFFFF ∷ 0x8000000000000000 ∷ 0x7FFFFFFFFFFFFFFF ∷ 0xC00000000 ∷ 0xA5 ∷ []

i32_eqz : of_each 0x45 each_32
    ≡ oks (1 ∷ 0 ∷ 0 ∷ 0 ∷ 0 ∷ 0 ∷ 0 ∷ 0 ∷ [])
i32_eqz = refl

i32_eq : of_pairs 0x46 pairs_32
    ≡ oks (1 ∷ 0 ∷ 0 ∷ 0 ∷ 0 ∷ 1 ∷ 0 ∷ 0 ∷ 0 ∷ 1 ∷ 0 ∷ 1 ∷ 0 ∷ 0 ∷ 0 ∷ 0 ∷ 0 ∷ 0 ∷ 0 ∷ 0 ∷ 0 ∷ [])
i32_eq = refl

i32_ne : of_pairs 0x47 pairs_32
    ≡ oks (0 ∷ 1 ∷ 1 ∷ 1 ∷ 1 ∷ 0 ∷ 1 ∷ 1 ∷ 1 ∷ 0 ∷ 1 ∷ 0 ∷ 1 ∷ 1 ∷ 1 ∷ 1 ∷ 1 ∷ 1 ∷ 1 ∷ 1 ∷ 1 ∷ [])
i32_ne = refl

i32_lt_s : of_pairs 0x48 pairs_32
    ≡ oks (0 ∷ 1 ∷ 0 ∷ 1 ∷ 0 ∷ 0 ∷ 1 ∷ 0 ∷ 1 ∷ 0 ∷ 0 ∷ 0 ∷ 0 ∷ 1 ∷ 0 ∷ 1 ∷ 1 ∷ 1 ∷ 1 ∷ 1 ∷ 0 ∷ [])
i32_lt_s = refl

i32_lt_u : of_pairs 0x49 pairs_32
    ≡ oks (0 ∷ 1 ∷ 0 ∷ 0 ∷ 1 ∷ 0 ∷ 1 ∷ 0 ∷ 0 ∷ 0 ∷ 1 ∷ 0 ∷ 0 ∷ 0 ∷ 1 ∷ 1 ∷ 0 ∷ 0 ∷ 0 ∷ 0 ∷ 0 ∷ [])
i32_lt_u = refl

i32_gt_s : of_pairs 0x4A pairs_32
    ≡ oks (0 ∷ 0 ∷ 1 ∷ 0 ∷ 1 ∷ 0 ∷ 0 ∷ 1 ∷ 0 ∷ 0 ∷ 1 ∷ 0 ∷ 1 ∷ 0 ∷ 1 ∷ 0 ∷ 0 ∷ 0 ∷ 0 ∷ 0 ∷ 1 ∷ [])
i32_gt_s = refl

i32_gt_u : of_pairs 0x4B pairs_32
    ≡ oks (0 ∷ 0 ∷ 1 ∷ 1 ∷ 0 ∷ 0 ∷ 0 ∷ 1 ∷ 1 ∷ 0 ∷ 0 ∷ 0 ∷ 1 ∷ 1 ∷ 0 ∷ 0 ∷ 1 ∷ 1 ∷ 1 ∷ 1 ∷ 1 ∷ [])
i32_gt_u = refl

i32_le_s : of_pairs 0x4C pairs_32
    ≡ oks (1 ∷ 1 ∷ 0 ∷ 1 ∷ 0 ∷ 1 ∷ 1 ∷ 0 ∷ 1 ∷ 1 ∷ 0 ∷ 1 ∷ 0 ∷ 1 ∷ 0 ∷ 1 ∷ 1 ∷ 1 ∷ 1 ∷ 1 ∷ 0 ∷ [])
i32_le_s = refl

i32_le_u : of_pairs 0x4D pairs_32
    ≡ oks (1 ∷ 1 ∷ 0 ∷ 0 ∷ 1 ∷ 1 ∷ 1 ∷ 0 ∷ 0 ∷ 1 ∷ 1 ∷ 1 ∷ 0 ∷ 0 ∷ 1 ∷ 1 ∷ 0 ∷ 0 ∷ 0 ∷ 0 ∷ 0 ∷ [])
i32_le_u = refl

i32_ge_s : of_pairs 0x4E pairs_32
    ≡ oks (1 ∷ 0 ∷ 1 ∷ 0 ∷ 1 ∷ 1 ∷ 0 ∷ 1 ∷ 0 ∷ 1 ∷ 1 ∷ 1 ∷ 1 ∷ 0 ∷ 1 ∷ 0 ∷ 0 ∷ 0 ∷ 0 ∷ 0 ∷ 1 ∷ [])
i32_ge_s = refl

i32_ge_u : of_pairs 0x4F pairs_32
    ≡ oks (1 ∷ 0 ∷ 1 ∷ 1 ∷ 0 ∷ 1 ∷ 0 ∷ 1 ∷ 1 ∷ 1 ∷ 0 ∷ 1 ∷ 1 ∷ 1 ∷ 0 ∷ 0 ∷ 1 ∷ 1 ∷ 1 ∷ 1 ∷ 1 ∷ [])
i32_ge_u = refl

i32_clz : of_each 0x67 each_32
    ≡ oks (32 ∷ 31 ∷ 30 ∷ 0 ∷ 0 ∷ 1 ∷ 12 ∷ 24 ∷ [])
unfolding total
i32_clz = refl

i32_ctz : of_each 0x68 each_32
    ≡ oks (32 ∷ 0 ∷ 1 ∷ 0 ∷ 31 ∷ 0 ∷ 18 ∷ 0 ∷ [])
unfolding total
i32_ctz = refl

i32_popcnt : of_each 0x69 each_32
    ≡ oks (0 ∷ 1 ∷ 1 ∷ 32 ∷ 1 ∷ 31 ∷ 2 ∷ 4 ∷ [])
unfolding total
i32_popcnt = refl

i32_add : of_pairs 0x6A pairs_32
    ≡ oks (0 ∷ 1 ∷ 1 ∷ 0 ∷ 0 ∷ 0xFFFFFFFE ∷ 0x7FFFFFFF ∷ 0x7FFFFFFF ∷ 0x80000001 ∷ 0 ∷ 0xFFFFFFFF ∷ 0xFFFFFFFE ∷ 0x80000000 ∷ 0xFFFFFFFB ∷ 5 ∷ 0xFFFFFFF7 ∷ 0xC0FFEE11 ∷ 0xC0FFEE24 ∷ 0xC0FFEE25 ∷ 0xC0FFEE26 ∷ 22 ∷ [])
i32_add = refl

i32_sub : of_pairs 0x6B pairs_32
    ≡ oks (0 ∷ 0xFFFFFFFF ∷ 1 ∷ 0xFFFFFFFE ∷ 2 ∷ 0 ∷ 0x80000001 ∷ 0x7FFFFFFF ∷ 0x7FFFFFFF ∷ 0 ∷ 0xFFFFFFFF ∷ 0 ∷ 0x7FFFFFFE ∷ 0xFFFFFFF7 ∷ 9 ∷ 0xFFFFFFFB ∷ 0xC0FFEDF9 ∷ 0xC0FFEDE6 ∷ 0xC0FFEDE5 ∷ 0xC0FFEDE4 ∷ 2 ∷ [])
i32_sub = refl

i32_mul : of_pairs 0x6C pairs_32
    ≡ oks (0 ∷ 0 ∷ 0 ∷ 0xFFFFFFFF ∷ 0xFFFFFFFF ∷ 1 ∷ 0x80000000 ∷ 0x80000000 ∷ 0x80000000 ∷ 0 ∷ 0x80000000 ∷ 1 ∷ 0x7FFFFFFF ∷ 0xFFFFFFF2 ∷ 0xFFFFFFF2 ∷ 14 ∷ 0xBFF283C ∷ 0x5EFDD29B ∷ 0x1FFDC0A0 ∷ 0xE0FDAEA5 ∷ 0x78 ∷ [])
i32_mul = refl

i32_div_s : of_pairs 0x6D pairs_32
    ≡ Err DivideByZero ∷ Ok 0 ∷ Err DivideByZero ∷ Ok 0xFFFFFFFF ∷ Ok 0xFFFFFFFF ∷ Ok 1 ∷ Err IntegerOverflow ∷ Ok 0 ∷ Ok 0x80000000 ∷ Ok 1 ∷ Ok 0 ∷ Ok 1 ∷ Ok 0x7FFFFFFF ∷ Ok 0xFFFFFFFD ∷ Ok 0xFFFFFFFD ∷ Ok 3 ∷ Ok 0xFABFFE81 ∷ Ok 0xFDF7BD5B ∷ Ok 0xFE07FF71 ∷ Ok 0xFE174546 ∷ Ok 1 ∷ []
i32_div_s = refl

i32_div_u : of_pairs 0x6E pairs_32
    ≡ Err DivideByZero ∷ Ok 0 ∷ Err DivideByZero ∷ Ok 0xFFFFFFFF ∷ Ok 0 ∷ Ok 1 ∷ Ok 0 ∷ Ok 1 ∷ Ok 0x80000000 ∷ Ok 1 ∷ Ok 0 ∷ Ok 1 ∷ Ok 0x7FFFFFFF ∷ Ok 0x7FFFFFFC ∷ Ok 0 ∷ Ok 0 ∷ Ok 0x101553D5 ∷ Ok 0x639CDDF ∷ Ok 0x607FF70 ∷ Ok 0x5D935C2 ∷ Ok 1 ∷ []
i32_div_u = refl

i32_rem_s : of_pairs 0x6F pairs_32
    ≡ Err DivideByZero ∷ Ok 0 ∷ Err DivideByZero ∷ Ok 0 ∷ Ok 0 ∷ Ok 0 ∷ Ok 0 ∷ Ok 0xFFFFFFFF ∷ Ok 0 ∷ Ok 0 ∷ Ok 0x7FFFFFFF ∷ Ok 0 ∷ Ok 0 ∷ Ok 0xFFFFFFFF ∷ Ok 1 ∷ Ok 0xFFFFFFFF ∷ Ok 0xFFFFFFF9 ∷ Ok 0 ∷ Ok 0xFFFFFFE5 ∷ Ok 0xFFFFFFFF ∷ Ok 2 ∷ []
i32_rem_s = refl

i32_rem_u : of_pairs 0x70 pairs_32
    ≡ Err DivideByZero ∷ Ok 0 ∷ Err DivideByZero ∷ Ok 0 ∷ Ok 1 ∷ Ok 0 ∷ Ok 0x80000000 ∷ Ok 0x7FFFFFFF ∷ Ok 0 ∷ Ok 0 ∷ Ok 0x7FFFFFFF ∷ Ok 0 ∷ Ok 0 ∷ Ok 1 ∷ Ok 7 ∷ Ok 0xFFFFFFF9 ∷ Ok 9 ∷ Ok 4 ∷ Ok 5 ∷ Ok 3 ∷ Ok 2 ∷ []
i32_rem_u = refl

i32_and : of_pairs 0x71 pairs_32
    ≡ oks (0 ∷ 0 ∷ 0 ∷ 1 ∷ 1 ∷ 0xFFFFFFFF ∷ 0x80000000 ∷ 0x80000000 ∷ 0 ∷ 0x80000000 ∷ 0 ∷ 0x7FFFFFFF ∷ 1 ∷ 0 ∷ 6 ∷ 0xFFFFFFF8 ∷ 4 ∷ 5 ∷ 0 ∷ 1 ∷ 8 ∷ [])
unfolding total
i32_and = refl

i32_or : of_pairs 0x72 pairs_32
    ≡ oks (0 ∷ 1 ∷ 1 ∷ 0xFFFFFFFF ∷ 0xFFFFFFFF ∷ 0xFFFFFFFF ∷ 0xFFFFFFFF ∷ 0xFFFFFFFF ∷ 0x80000001 ∷ 0x80000000 ∷ 0xFFFFFFFF ∷ 0x7FFFFFFF ∷ 0x7FFFFFFF ∷ 0xFFFFFFFB ∷ 0xFFFFFFFF ∷ 0xFFFFFFFF ∷ 0xC0FFEE0D ∷ 0xC0FFEE1F ∷ 0xC0FFEE25 ∷ 0xC0FFEE25 ∷ 14 ∷ [])
unfolding total
i32_or = refl

i32_xor : of_pairs 0x73 pairs_32
    ≡ oks (0 ∷ 1 ∷ 1 ∷ 0xFFFFFFFE ∷ 0xFFFFFFFE ∷ 0 ∷ 0x7FFFFFFF ∷ 0x7FFFFFFF ∷ 0x80000001 ∷ 0 ∷ 0xFFFFFFFF ∷ 0 ∷ 0x7FFFFFFE ∷ 0xFFFFFFFB ∷ 0xFFFFFFF9 ∷ 7 ∷ 0xC0FFEE09 ∷ 0xC0FFEE1A ∷ 0xC0FFEE25 ∷ 0xC0FFEE24 ∷ 6 ∷ [])
unfolding total
i32_xor = refl

i32_shl : of_pairs 0x74 pairs_32
    ≡ oks (0 ∷ 0 ∷ 1 ∷ 0xFFFFFFFE ∷ 0x80000000 ∷ 0x80000000 ∷ 0 ∷ 0xFFFFFFFF ∷ 0 ∷ 0x80000000 ∷ 0x7FFFFFFF ∷ 0x80000000 ∷ 0xFFFFFFFE ∷ 0xFFFFFFE4 ∷ 0xC0000000 ∷ 0x40000000 ∷ 0xFEE05000 ∷ 0x80000000 ∷ 0xC0FFEE05 ∷ 0x81FFDC0A ∷ 0x3000 ∷ [])
i32_shl = refl

i32_shr_s : of_pairs 0x75 pairs_32
    ≡ oks (0 ∷ 0 ∷ 1 ∷ 0xFFFFFFFF ∷ 0 ∷ 0xFFFFFFFF ∷ 0xFFFFFFFF ∷ 0xFFFFFFFF ∷ 0xC0000000 ∷ 0x80000000 ∷ 0x7FFFFFFF ∷ 0 ∷ 0x3FFFFFFF ∷ 0xFFFFFFFE ∷ 0 ∷ 0xFFFFFFFF ∷ 0xFFFC0FFE ∷ 0xFFFFFFFF ∷ 0xC0FFEE05 ∷ 0xE07FF702 ∷ 0 ∷ [])
i32_shr_s = refl

i32_shr_u : of_pairs 0x76 pairs_32
    ≡ oks (0 ∷ 0 ∷ 1 ∷ 0x7FFFFFFF ∷ 0 ∷ 1 ∷ 1 ∷ 0xFFFFFFFF ∷ 0x40000000 ∷ 0x80000000 ∷ 0x7FFFFFFF ∷ 0 ∷ 0x3FFFFFFF ∷ 0x3FFFFFFE ∷ 0 ∷ 3 ∷ 0xC0FFE ∷ 1 ∷ 0xC0FFEE05 ∷ 0x607FF702 ∷ 0 ∷ [])
i32_shr_u = refl

i32_rotl : of_pairs 0x77 pairs_32
    ≡ oks (0 ∷ 0 ∷ 1 ∷ 0xFFFFFFFF ∷ 0x80000000 ∷ 0xFFFFFFFF ∷ 0x40000000 ∷ 0xFFFFFFFF ∷ 1 ∷ 0x80000000 ∷ 0x7FFFFFFF ∷ 0xBFFFFFFF ∷ 0xFFFFFFFE ∷ 0xFFFFFFE7 ∷ 0xC0000001 ∷ 0x7FFFFFFE ∷ 0xFEE05C0F ∷ 0xE07FF702 ∷ 0xC0FFEE05 ∷ 0x81FFDC0B ∷ 0x3000 ∷ [])
i32_rotl = refl

i32_rotr : of_pairs 0x78 pairs_32
    ≡ oks (0 ∷ 0 ∷ 1 ∷ 0xFFFFFFFF ∷ 2 ∷ 0xFFFFFFFF ∷ 1 ∷ 0xFFFFFFFF ∷ 0x40000000 ∷ 0x80000000 ∷ 0x7FFFFFFF ∷ 0xFFFFFFFE ∷ 0xBFFFFFFF ∷ 0x7FFFFFFE ∷ 28 ∷ 0xFFFFFFE7 ∷ 0xE05C0FFE ∷ 0x81FFDC0B ∷ 0xC0FFEE05 ∷ 0xE07FF702 ∷ 0x3000000 ∷ [])
i32_rotr = refl

i64_eqz : of_each 0x50 each_64
    ≡ oks (1 ∷ 0 ∷ 0 ∷ 0 ∷ 0 ∷ 0 ∷ 0 ∷ 0 ∷ [])
i64_eqz = refl

i64_eq : of_pairs 0x51 pairs_64
    ≡ oks (1 ∷ 0 ∷ 0 ∷ 0 ∷ 0 ∷ 1 ∷ 0 ∷ 0 ∷ 0 ∷ 1 ∷ 0 ∷ 1 ∷ 0 ∷ 0 ∷ 0 ∷ 0 ∷ 0 ∷ 0 ∷ 0 ∷ 0 ∷ 0 ∷ [])
i64_eq = refl

i64_ne : of_pairs 0x52 pairs_64
    ≡ oks (0 ∷ 1 ∷ 1 ∷ 1 ∷ 1 ∷ 0 ∷ 1 ∷ 1 ∷ 1 ∷ 0 ∷ 1 ∷ 0 ∷ 1 ∷ 1 ∷ 1 ∷ 1 ∷ 1 ∷ 1 ∷ 1 ∷ 1 ∷ 1 ∷ [])
i64_ne = refl

i64_lt_s : of_pairs 0x53 pairs_64
    ≡ oks (0 ∷ 1 ∷ 0 ∷ 1 ∷ 0 ∷ 0 ∷ 1 ∷ 0 ∷ 1 ∷ 0 ∷ 0 ∷ 0 ∷ 0 ∷ 1 ∷ 0 ∷ 1 ∷ 1 ∷ 1 ∷ 1 ∷ 1 ∷ 0 ∷ [])
i64_lt_s = refl

i64_lt_u : of_pairs 0x54 pairs_64
    ≡ oks (0 ∷ 1 ∷ 0 ∷ 0 ∷ 1 ∷ 0 ∷ 1 ∷ 0 ∷ 0 ∷ 0 ∷ 1 ∷ 0 ∷ 0 ∷ 0 ∷ 1 ∷ 1 ∷ 0 ∷ 0 ∷ 0 ∷ 0 ∷ 0 ∷ [])
i64_lt_u = refl

i64_gt_s : of_pairs 0x55 pairs_64
    ≡ oks (0 ∷ 0 ∷ 1 ∷ 0 ∷ 1 ∷ 0 ∷ 0 ∷ 1 ∷ 0 ∷ 0 ∷ 1 ∷ 0 ∷ 1 ∷ 0 ∷ 1 ∷ 0 ∷ 0 ∷ 0 ∷ 0 ∷ 0 ∷ 1 ∷ [])
i64_gt_s = refl

i64_gt_u : of_pairs 0x56 pairs_64
    ≡ oks (0 ∷ 0 ∷ 1 ∷ 1 ∷ 0 ∷ 0 ∷ 0 ∷ 1 ∷ 1 ∷ 0 ∷ 0 ∷ 0 ∷ 1 ∷ 1 ∷ 0 ∷ 0 ∷ 1 ∷ 1 ∷ 1 ∷ 1 ∷ 1 ∷ [])
i64_gt_u = refl

i64_le_s : of_pairs 0x57 pairs_64
    ≡ oks (1 ∷ 1 ∷ 0 ∷ 1 ∷ 0 ∷ 1 ∷ 1 ∷ 0 ∷ 1 ∷ 1 ∷ 0 ∷ 1 ∷ 0 ∷ 1 ∷ 0 ∷ 1 ∷ 1 ∷ 1 ∷ 1 ∷ 1 ∷ 0 ∷ [])
i64_le_s = refl

i64_le_u : of_pairs 0x58 pairs_64
    ≡ oks (1 ∷ 1 ∷ 0 ∷ 0 ∷ 1 ∷ 1 ∷ 1 ∷ 0 ∷ 0 ∷ 1 ∷ 1 ∷ 1 ∷ 0 ∷ 0 ∷ 1 ∷ 1 ∷ 0 ∷ 0 ∷ 0 ∷ 0 ∷ 0 ∷ [])
i64_le_u = refl

i64_ge_s : of_pairs 0x59 pairs_64
    ≡ oks (1 ∷ 0 ∷ 1 ∷ 0 ∷ 1 ∷ 1 ∷ 0 ∷ 1 ∷ 0 ∷ 1 ∷ 1 ∷ 1 ∷ 1 ∷ 0 ∷ 1 ∷ 0 ∷ 0 ∷ 0 ∷ 0 ∷ 0 ∷ 1 ∷ [])
i64_ge_s = refl

i64_ge_u : of_pairs 0x5A pairs_64
    ≡ oks (1 ∷ 0 ∷ 1 ∷ 1 ∷ 0 ∷ 1 ∷ 0 ∷ 1 ∷ 1 ∷ 1 ∷ 0 ∷ 1 ∷ 1 ∷ 1 ∷ 0 ∷ 0 ∷ 1 ∷ 1 ∷ 1 ∷ 1 ∷ 1 ∷ [])
i64_ge_u = refl

i64_clz : of_each 0x79 each_64
    ≡ oks (64 ∷ 63 ∷ 62 ∷ 0 ∷ 0 ∷ 1 ∷ 28 ∷ 56 ∷ [])
unfolding total
i64_clz = refl

i64_ctz : of_each 0x7A each_64
    ≡ oks (64 ∷ 0 ∷ 1 ∷ 0 ∷ 63 ∷ 0 ∷ 34 ∷ 0 ∷ [])
unfolding total
i64_ctz = refl

i64_popcnt : of_each 0x7B each_64
    ≡ oks (0 ∷ 1 ∷ 1 ∷ 64 ∷ 1 ∷ 63 ∷ 2 ∷ 4 ∷ [])
unfolding total
i64_popcnt = refl

i64_add : of_pairs 0x7C pairs_64
    ≡ oks (0 ∷ 1 ∷ 1 ∷ 0 ∷ 0 ∷ 0xFFFFFFFFFFFFFFFE ∷ 0x7FFFFFFFFFFFFFFF ∷ 0x7FFFFFFFFFFFFFFF ∷ 0x8000000000000001 ∷ 0 ∷ 0xFFFFFFFFFFFFFFFF ∷ 0xFFFFFFFFFFFFFFFE ∷ 0x8000000000000000 ∷ 0xFFFFFFFFFFFFFFFB ∷ 5 ∷ 0xFFFFFFFFFFFFFFF7 ∷ 0xC0FFEE058000033D ∷ 0xC0FFEE0580000370 ∷ 0xC0FFEE0580000371 ∷ 0xC0FFEE0580000372 ∷ 22 ∷ [])
i64_add = refl

i64_sub : of_pairs 0x7D pairs_64
    ≡ oks (0 ∷ 0xFFFFFFFFFFFFFFFF ∷ 1 ∷ 0xFFFFFFFFFFFFFFFE ∷ 2 ∷ 0 ∷ 0x8000000000000001 ∷ 0x7FFFFFFFFFFFFFFF ∷ 0x7FFFFFFFFFFFFFFF ∷ 0 ∷ 0xFFFFFFFFFFFFFFFF ∷ 0 ∷ 0x7FFFFFFFFFFFFFFE ∷ 0xFFFFFFFFFFFFFFF7 ∷ 9 ∷ 0xFFFFFFFFFFFFFFFB ∷ 0xC0FFEE0580000325 ∷ 0xC0FFEE05800002F2 ∷ 0xC0FFEE05800002F1 ∷ 0xC0FFEE05800002F0 ∷ 2 ∷ [])
i64_sub = refl

i64_mul : of_pairs 0x7E pairs_64
    ≡ oks (0 ∷ 0 ∷ 0 ∷ 0xFFFFFFFFFFFFFFFF ∷ 0xFFFFFFFFFFFFFFFF ∷ 1 ∷ 0x8000000000000000 ∷ 0x8000000000000000 ∷ 0x8000000000000000 ∷ 0 ∷ 0x8000000000000000 ∷ 1 ∷ 0x7FFFFFFFFFFFFFFF ∷ 0xFFFFFFFFFFFFFFF2 ∷ 0xFFFFFFFFFFFFFFF2 ∷ 14 ∷ 0xBFF28420000264C ∷ 0x7EFB935A8000C90F ∷ 0x3FFB81600000CC40 ∷ 0xFB6F658000CF71 ∷ 0x78 ∷ [])
i64_mul = refl

i64_div_s : of_pairs 0x7F pairs_64
    ≡ Err DivideByZero ∷ Ok 0 ∷ Err DivideByZero ∷ Ok 0xFFFFFFFFFFFFFFFF ∷ Ok 0xFFFFFFFFFFFFFFFF ∷ Ok 1 ∷ Err IntegerOverflow ∷ Ok 0 ∷ Ok 0x8000000000000000 ∷ Ok 1 ∷ Ok 0 ∷ Ok 1 ∷ Ok 0x7FFFFFFFFFFFFFFF ∷ Ok 0xFFFFFFFFFFFFFFFD ∷ Ok 0xFFFFFFFFFFFFFFFD ∷ Ok 3 ∷ Ok 0xFABFFE807555559A ∷ Ok 0xFEFFFFB6F1C71C7F ∷ Ok 0xFF03FFB81600000D ∷ Ok 0xFF07E037391B91C6 ∷ Ok 1 ∷ []
i64_div_s = refl

i64_div_u : of_pairs 0x80 pairs_64
    ≡ Err DivideByZero ∷ Ok 0 ∷ Err DivideByZero ∷ Ok 0xFFFFFFFFFFFFFFFF ∷ Ok 0 ∷ Ok 1 ∷ Ok 0 ∷ Ok 1 ∷ Ok 0x8000000000000000 ∷ Ok 1 ∷ Ok 0 ∷ Ok 1 ∷ Ok 0x7FFFFFFFFFFFFFFF ∷ Ok 0x7FFFFFFFFFFFFFFC ∷ Ok 0 ∷ Ok 0 ∷ Ok 0x101553D5CAAAAAEE ∷ Ok 0x31040BB0208208F ∷ Ok 0x303FFB81600000C ∷ Ok 0x2F81F3B295A95B5 ∷ Ok 1 ∷ []
i64_div_u = refl

i64_rem_s : of_pairs 0x81 pairs_64
    ≡ Err DivideByZero ∷ Ok 0 ∷ Err DivideByZero ∷ Ok 0 ∷ Ok 0 ∷ Ok 0 ∷ Ok 0 ∷ Ok 0xFFFFFFFFFFFFFFFF ∷ Ok 0 ∷ Ok 0 ∷ Ok 0x7FFFFFFFFFFFFFFF ∷ Ok 0 ∷ Ok 0 ∷ Ok 0xFFFFFFFFFFFFFFFF ∷ Ok 1 ∷ Ok 0xFFFFFFFFFFFFFFFF ∷ Ok 0xFFFFFFFFFFFFFFF9 ∷ Ok 0xFFFFFFFFFFFFFFF0 ∷ Ok 0xFFFFFFFFFFFFFFF1 ∷ Ok 0xFFFFFFFFFFFFFFEB ∷ Ok 2 ∷ []
i64_rem_s = refl

i64_rem_u : of_pairs 0x82 pairs_64
    ≡ Err DivideByZero ∷ Ok 0 ∷ Err DivideByZero ∷ Ok 0 ∷ Ok 1 ∷ Ok 0 ∷ Ok 0x8000000000000000 ∷ Ok 0x7FFFFFFFFFFFFFFF ∷ Ok 0 ∷ Ok 0 ∷ Ok 0x7FFFFFFFFFFFFFFF ∷ Ok 0 ∷ Ok 0 ∷ Ok 1 ∷ Ok 7 ∷ Ok 0xFFFFFFFFFFFFFFF9 ∷ Ok 9 ∷ Ok 0 ∷ Ok 49 ∷ Ok 60 ∷ Ok 2 ∷ []
i64_rem_u = refl

i64_and : of_pairs 0x83 pairs_64
    ≡ oks (0 ∷ 0 ∷ 0 ∷ 1 ∷ 1 ∷ 0xFFFFFFFFFFFFFFFF ∷ 0x8000000000000000 ∷ 0x8000000000000000 ∷ 0 ∷ 0x8000000000000000 ∷ 0 ∷ 0x7FFFFFFFFFFFFFFF ∷ 1 ∷ 0 ∷ 6 ∷ 0xFFFFFFFFFFFFFFF8 ∷ 0 ∷ 49 ∷ 0 ∷ 1 ∷ 8 ∷ [])
unfolding total
i64_and = refl

i64_or : of_pairs 0x84 pairs_64
    ≡ oks (0 ∷ 1 ∷ 1 ∷ 0xFFFFFFFFFFFFFFFF ∷ 0xFFFFFFFFFFFFFFFF ∷ 0xFFFFFFFFFFFFFFFF ∷ 0xFFFFFFFFFFFFFFFF ∷ 0xFFFFFFFFFFFFFFFF ∷ 0x8000000000000001 ∷ 0x8000000000000000 ∷ 0xFFFFFFFFFFFFFFFF ∷ 0x7FFFFFFFFFFFFFFF ∷ 0x7FFFFFFFFFFFFFFF ∷ 0xFFFFFFFFFFFFFFFB ∷ 0xFFFFFFFFFFFFFFFF ∷ 0xFFFFFFFFFFFFFFFF ∷ 0xC0FFEE058000033D ∷ 0xC0FFEE058000033F ∷ 0xC0FFEE0580000371 ∷ 0xC0FFEE0580000371 ∷ 14 ∷ [])
unfolding total
i64_or = refl

i64_xor : of_pairs 0x85 pairs_64
    ≡ oks (0 ∷ 1 ∷ 1 ∷ 0xFFFFFFFFFFFFFFFE ∷ 0xFFFFFFFFFFFFFFFE ∷ 0 ∷ 0x7FFFFFFFFFFFFFFF ∷ 0x7FFFFFFFFFFFFFFF ∷ 0x8000000000000001 ∷ 0 ∷ 0xFFFFFFFFFFFFFFFF ∷ 0 ∷ 0x7FFFFFFFFFFFFFFE ∷ 0xFFFFFFFFFFFFFFFB ∷ 0xFFFFFFFFFFFFFFF9 ∷ 7 ∷ 0xC0FFEE058000033D ∷ 0xC0FFEE058000030E ∷ 0xC0FFEE0580000371 ∷ 0xC0FFEE0580000370 ∷ 6 ∷ [])
unfolding total
i64_xor = refl

i64_shl : of_pairs 0x86 pairs_64
    ≡ oks (0 ∷ 0 ∷ 1 ∷ 0xFFFFFFFFFFFFFFFE ∷ 0x8000000000000000 ∷ 0x8000000000000000 ∷ 0 ∷ 0xFFFFFFFFFFFFFFFF ∷ 0 ∷ 0x8000000000000000 ∷ 0x7FFFFFFFFFFFFFFF ∷ 0x8000000000000000 ∷ 0xFFFFFFFFFFFFFFFE ∷ 0xFFFFFFFFFFFFFFE4 ∷ 0xC000000000000000 ∷ 0x4000000000000000 ∷ 0xFEE0580000331000 ∷ 0x8000000000000000 ∷ 0xC0FFEE0580000331 ∷ 0x81FFDC0B00000662 ∷ 0x3000 ∷ [])
i64_shl = refl

i64_shr_s : of_pairs 0x87 pairs_64
    ≡ oks (0 ∷ 0 ∷ 1 ∷ 0xFFFFFFFFFFFFFFFF ∷ 0 ∷ 0xFFFFFFFFFFFFFFFF ∷ 0xFFFFFFFFFFFFFFFF ∷ 0xFFFFFFFFFFFFFFFF ∷ 0xC000000000000000 ∷ 0x8000000000000000 ∷ 0x7FFFFFFFFFFFFFFF ∷ 0 ∷ 0x3FFFFFFFFFFFFFFF ∷ 0xFFFFFFFFFFFFFFFE ∷ 0 ∷ 0xFFFFFFFFFFFFFFFF ∷ 0xFFFC0FFEE0580000 ∷ 0xFFFFFFFFFFFFFFFF ∷ 0xC0FFEE0580000331 ∷ 0xE07FF702C0000198 ∷ 0 ∷ [])
i64_shr_s = refl

i64_shr_u : of_pairs 0x88 pairs_64
    ≡ oks (0 ∷ 0 ∷ 1 ∷ 0x7FFFFFFFFFFFFFFF ∷ 0 ∷ 1 ∷ 1 ∷ 0xFFFFFFFFFFFFFFFF ∷ 0x4000000000000000 ∷ 0x8000000000000000 ∷ 0x7FFFFFFFFFFFFFFF ∷ 0 ∷ 0x3FFFFFFFFFFFFFFF ∷ 0x3FFFFFFFFFFFFFFE ∷ 0 ∷ 3 ∷ 0xC0FFEE0580000 ∷ 1 ∷ 0xC0FFEE0580000331 ∷ 0x607FF702C0000198 ∷ 0 ∷ [])
i64_shr_u = refl

i64_rotl : of_pairs 0x89 pairs_64
    ≡ oks (0 ∷ 0 ∷ 1 ∷ 0xFFFFFFFFFFFFFFFF ∷ 0x8000000000000000 ∷ 0xFFFFFFFFFFFFFFFF ∷ 0x4000000000000000 ∷ 0xFFFFFFFFFFFFFFFF ∷ 1 ∷ 0x8000000000000000 ∷ 0x7FFFFFFFFFFFFFFF ∷ 0xBFFFFFFFFFFFFFFF ∷ 0xFFFFFFFFFFFFFFFE ∷ 0xFFFFFFFFFFFFFFE7 ∷ 0xC000000000000001 ∷ 0x7FFFFFFFFFFFFFFE ∷ 0xFEE0580000331C0F ∷ 0xE07FF702C0000198 ∷ 0xC0FFEE0580000331 ∷ 0x81FFDC0B00000663 ∷ 0x3000 ∷ [])
i64_rotl = refl

i64_rotr : of_pairs 0x8A pairs_64
    ≡ oks (0 ∷ 0 ∷ 1 ∷ 0xFFFFFFFFFFFFFFFF ∷ 2 ∷ 0xFFFFFFFFFFFFFFFF ∷ 1 ∷ 0xFFFFFFFFFFFFFFFF ∷ 0x4000000000000000 ∷ 0x8000000000000000 ∷ 0x7FFFFFFFFFFFFFFF ∷ 0xFFFFFFFFFFFFFFFE ∷ 0xBFFFFFFFFFFFFFFF ∷ 0x7FFFFFFFFFFFFFFE ∷ 28 ∷ 0xFFFFFFFFFFFFFFE7 ∷ 0x331C0FFEE0580000 ∷ 0x81FFDC0B00000663 ∷ 0xC0FFEE0580000331 ∷ 0xE07FF702C0000198 ∷ 0x300000000000000 ∷ [])
i64_rotr = refl

i32_wrap_i64 : of_each 0xA7 (0 ∷ 1 ∷ 0xFFFFFFFF ∷ 0x100000000 ∷ 0xFFFFFFFFFFFFFFFF ∷ 0x8000000000000000 ∷ 0x1234567890 ∷ [])
    ≡ oks (0 ∷ 1 ∷ 0xFFFFFFFF ∷ 0 ∷ 0xFFFFFFFF ∷ 0 ∷ 0x34567890 ∷ [])
i32_wrap_i64 = refl

i64_extend_i32_s : of_each 0xAC (0 ∷ 1 ∷ 0x7FFFFFFF ∷ 0x80000000 ∷ 0xFFFFFFFF ∷ [])
    ≡ oks (0 ∷ 1 ∷ 0x7FFFFFFF ∷ 0xFFFFFFFF80000000 ∷ 0xFFFFFFFFFFFFFFFF ∷ [])
i64_extend_i32_s = refl

i64_extend_i32_u : of_each 0xAD (0 ∷ 1 ∷ 0x7FFFFFFF ∷ 0x80000000 ∷ 0xFFFFFFFF ∷ [])
    ≡ oks (0 ∷ 1 ∷ 0x7FFFFFFF ∷ 0x80000000 ∷ 0xFFFFFFFF ∷ [])
i64_extend_i32_u = refl

-- operands are taken modulo 2 ^ 32 and 2 ^ 64
i32_modulo : of_each 0x45 (0x100000000 ∷ []) ++ (of_pairs 0x47 ((1, 0x100000001) ∷ []) ++ of_pairs 0x70 ((0x100000007, 0x100000000) ∷ (0x100000007, 0x100000002) ∷ []))
    ≡ Ok 1 ∷ Ok 0 ∷ Err DivideByZero ∷ Ok 1 ∷ []
i32_modulo = refl

i64_modulo : of_each 0x50 (0x100000000 ∷ 0x10000000000000000 ∷ []) ++ of_pairs 0x7C ((0x10000000000000001, 0x10000000000000002) ∷ [])
    ≡ oks (0 ∷ 1 ∷ 3 ∷ [])
i64_modulo = refl

-- the opcodes beside these have no row: they are loads and stores, or of floats
no_row : of_ops (0x44 ∷ 0x5B ∷ 0x66 ∷ 0x8B ∷ 0xA6 ∷ 0xA8 ∷ 0xAB ∷ 0xAE ∷ 0xBF ∷ []) ≡ None ∷ None ∷ None ∷ None ∷ None ∷ None ∷ None ∷ None ∷ None ∷ []
no_row = refl
