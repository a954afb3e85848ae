-- Integer operations and conversions: a row for each numeric opcode, as a formula on whole numbers. N is the number of
-- bits of the operands' type, 32 or 64, and a value of the type is a number below 2 ^ N. W3C WebAssembly Core
-- Specification 1.0, sections 4.3.2 (integer operations), 4.3.4 (conversions) and 5.4.5 (opcodes). A row takes its
-- operands modulo 2 ^ N. Where the standard leaves a result undefined the row has a trap; which one is this project's own.
use Rattle.std.specs.Prelude.{ℕ, zero, suc, ◌+◌, ◌-◌, ◌*◌, ◌/◌, ◌%◌, ◌^◌, min, max, Bool, not, List, [], ◌∷◌, Option, Some, None, Result, Ok, Err, ℤ, pos, negsuc, ◌-ℤ◌, ◌*ℤ◌, unsigned_abs, slice_get, nat_lt, nat_le, int_lt, int_le, ◌==◌, ◌&&◌, if◌then◌else◌, option_map}
use Rattle.std.specs.Int.{Width, w32, w64}
use mir.Val.{bits}
use Rattle.faaslet_meaning.specs.declared.outcome.Trap.{Trap}
use Rattle.faaslet_meaning.specs.declared.outcome.Trap.TheVariants.{DivideByZero, IntegerOverflow}

-- the operations in the order of their opcodes
pub data Compare : Type 0 where
  eq ne lt_s lt_u gt_s gt_u le_s le_u ge_s ge_u : Compare

pub data Unary : Type 0 where
  clz ctz popcnt : Unary

pub data Binary : Type 0 where
  add sub mul div_s div_u rem_s rem_u and or xor shl shr_s shr_u rotl rotr : Binary

pub data Convert : Type 0 where
  wrap extend_s extend_u : Convert

abbrev pub compares : List Compare
compares = eq ∷ ne ∷ lt_s ∷ lt_u ∷ gt_s ∷ gt_u ∷ le_s ∷ le_u ∷ ge_s ∷ ge_u ∷ []

abbrev pub unaries : List Unary
unaries = clz ∷ ctz ∷ popcnt ∷ []

abbrev pub binaries : List Binary
binaries = add ∷ sub ∷ mul ∷ div_s ∷ div_u ∷ rem_s ∷ rem_u ∷ and ∷ or ∷ xor ∷ shl ∷ shr_s ∷ shr_u ∷ rotl ∷ rotr ∷ []

-- x modulo 2 ^ N
abbrev pub low : Width → ℕ → ℕ
low w x = x % 2 ^ bits w

-- bool: a condition as a number
abbrev pub truth : Bool → ℕ
truth b = if b then 1 else 0

-- signed_N: the upper half of the numbers below 2 ^ N stands for the negative ones
abbrev pub signed : Width → ℕ → ℤ
signed w x = if nat_lt x (2 ^ (bits w - 1)) then pos x else pos x -ℤ pos (2 ^ bits w)

-- the other way round: the number below 2 ^ N that differs from z by a multiple of 2 ^ N; `negsuc n` is -(n + 1)
abbrev pub unsigned : Width → ℤ → ℕ
unsigned w (pos n) = low w n
unsigned w (negsuc n) = 2 ^ bits w - 1 - low w n

-- f 0 + f 1 + .. + f (n - 1)
unfoldable pub total : ℕ → (ℕ → ℕ) → ℕ
total zero f = 0
total (suc n) f = total n f + f n

-- digit k of x to the base 2, where digit 0 is the lowest
abbrev pub digit : ℕ → ℕ → ℕ
digit x k = x / 2 ^ k % 2

-- the number whose digit k is `op` of those of x and y
abbrev pub digit_by_digit : (ℕ → ℕ → ℕ) → Width → ℕ → ℕ → ℕ
digit_by_digit op w x y = total (bits w) (λ k. op (digit x k) (digit y k) * 2 ^ k)

-- the quotient, truncated toward zero, and the remainder, which has the sign of the dividend
abbrev pub sign : ℤ → ℤ
sign z = if int_lt z (pos 0) then negsuc 0 else pos 1

abbrev pub quotient : ℤ → ℤ → ℤ
quotient x y = sign x *ℤ sign y *ℤ pos (unsigned_abs x / unsigned_abs y)

abbrev pub remainder : ℤ → ℤ → ℤ
remainder x y = sign x *ℤ pos (unsigned_abs x % unsigned_abs y)

-- ---- the operations on numbers below 2 ^ N

-- ieqz
abbrev pub testop : Width → ℕ → Bool
testop w x = x == 0

-- ieq, ine, ilt_s, ilt_u, igt_s, igt_u, ile_s, ile_u, ige_s, ige_u
abbrev pub relop : Compare → Width → ℕ → ℕ → Bool
relop eq w x y = x == y
relop ne w x y = not (x == y)
relop lt_s w x y = int_lt (signed w x) (signed w y)
relop lt_u w x y = nat_lt x y
relop gt_s w x y = int_lt (signed w y) (signed w x)
relop gt_u w x y = nat_lt y x
relop le_s w x y = int_le (signed w x) (signed w y)
relop le_u w x y = nat_le x y
relop ge_s w x y = int_le (signed w y) (signed w x)
relop ge_u w x y = nat_le y x

-- iclz: for how many k below N no digit from k on is set; ictz: how many of 2, 4, .. 2 ^ N divide x; ipopcnt: the sum
-- of the digits
abbrev pub unop : Unary → Width → ℕ → ℕ
unop clz w x = total (bits w) (λ k. truth (nat_lt x (2 ^ k)))
unop ctz w x = total (bits w) (λ k. truth (x % 2 ^ (k + 1) == 0))
unop popcnt w x = total (bits w) (digit x)

-- the least signed number divided by -1
abbrev pub overflows : Width → ℕ → ℕ → Bool
overflows w x y = (x == 2 ^ (bits w - 1)) && (y == 2 ^ bits w - 1)

abbrev pub unless_zero : ℕ → Result ℕ Trap → Result ℕ Trap
unless_zero y r = if y == 0 then Err DivideByZero else r

-- the digits that an arithmetic shift by k moves in: copies of the highest
abbrev pub sign_copies : Width → ℕ → ℕ → ℕ
sign_copies w x k = if nat_lt x (2 ^ (bits w - 1)) then 0 else 2 ^ bits w - 2 ^ (bits w - k)

-- iadd, isub, imul, idiv_s, idiv_u, irem_s, irem_u, iand, ior, ixor, and with k, the count modulo N, ishl, ishr_s,
-- ishr_u, irotl, irotr
abbrev pub binop : Binary → Width → ℕ → ℕ → Result ℕ Trap
binop add w x y = Ok (low w (x + y))
binop sub w x y = Ok (low w (x + 2 ^ bits w - y))
binop mul w x y = Ok (low w (x * y))
binop div_s w x y = unless_zero y (if overflows w x y then Err IntegerOverflow else Ok (unsigned w (quotient (signed w x) (signed w y))))
binop div_u w x y = unless_zero y (Ok (x / y))
binop rem_s w x y = unless_zero y (Ok (unsigned w (remainder (signed w x) (signed w y))))
binop rem_u w x y = unless_zero y (Ok (x % y))
binop and w x y = Ok (digit_by_digit min w x y)
binop or w x y = Ok (digit_by_digit max w x y)
binop xor w x y = Ok (digit_by_digit (λ d e. (d + e) % 2) w x y)
binop shl w x y = let k = y % bits w in Ok (low w (x * 2 ^ k))
binop shr_s w x y = let k = y % bits w in Ok (x / 2 ^ k + sign_copies w x k)
binop shr_u w x y = let k = y % bits w in Ok (x / 2 ^ k)
binop rotl w x y = let k = y % bits w in Ok (low w (x * 2 ^ k) + x / 2 ^ (bits w - k))
binop rotr w x y = let k = y % bits w in Ok (x / 2 ^ k + low w (x * 2 ^ (bits w - k)))

-- wrap_64,32, extend^s_32,64, extend^u_32,64
abbrev pub cvtop : Convert → ℕ → ℕ
cvtop wrap x = low w32 x
cvtop extend_s x = unsigned w64 (signed w32 x)
cvtop extend_u x = x

abbrev pub operand_of : Convert → Width
operand_of wrap = w64
operand_of extend_s = w32
operand_of extend_u = w32

-- ---- the rows, which take any operands

abbrev pub test_row : Width → ℕ → ℕ
test_row w x = truth (testop w (low w x))

abbrev pub compare_row : Compare → Width → ℕ → ℕ → Bool
compare_row f w x y = relop f w (low w x) (low w y)

abbrev pub unary_row : Unary → Width → ℕ → ℕ
unary_row f w x = unop f w (low w x)

abbrev pub binary_row : Binary → Width → ℕ → ℕ → Result ℕ Trap
binary_row f w x y = binop f w (low w x) (low w y)

abbrev pub convert_row : Convert → ℕ → ℕ
convert_row f x = cvtop f (low (operand_of f) x)

-- what an opcode names
pub data Numeric : Type 0 where
  test : (width : Width) → Numeric
  compare : (op : Compare) (width : Width) → Numeric
  unary : (op : Unary) (width : Width) → Numeric
  binary : (op : Binary) (width : Width) → Numeric
  convert : (op : Convert) → Numeric

abbrev pub either : {A : Type 0} → Option A → Option A → Option A
either (Some x) y = Some x
either None y = y

-- the operation whose opcode is so far from the first of its list
abbrev pub from : {A : Type 0} → ℕ → List A → ℕ → Option A
from first ops op = if nat_le first op then slice_get ops (op - first) else None

abbrev pub test_of : ℕ → Option Width
test_of op = if op == 0x45 then Some w32 else if op == 0x50 then Some w64 else None

abbrev pub compare_of : ℕ → Option Numeric
compare_of op = either (option_map (λ f. compare f w32) (from 0x46 compares op)) (option_map (λ f. compare f w64) (from 0x51 compares op))

abbrev pub unary_of : ℕ → Option Numeric
unary_of op = either (option_map (λ f. unary f w32) (from 0x67 unaries op)) (option_map (λ f. unary f w64) (from 0x79 unaries op))

abbrev pub binary_of : ℕ → Option Numeric
binary_of op = either (option_map (λ f. binary f w32) (from 0x6A binaries op)) (option_map (λ f. binary f w64) (from 0x7C binaries op))

abbrev pub convert_of : ℕ → Option Numeric
convert_of op =
    if op == 0xA7 then Some (convert wrap) else if op == 0xAC then Some (convert extend_s) else if op == 0xAD then Some (convert extend_u) else None

abbrev pub numeric_of : ℕ → Option Numeric
numeric_of op = either (option_map test (test_of op)) (either (compare_of op) (either (unary_of op) (either (binary_of op) (convert_of op))))
