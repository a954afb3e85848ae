-- The rows that are written with digits, as the library's operations.
use Rattle.std.proofs.Common.{◌≡◌, ℕ, ◌<◌, ◌^◌, ◌%◌, ap, ap₂, sym, ◌∙◌, ◌⊎◌, inl, inr, arith, ◌-◌}
use Rattle.std.proofs.lemmas.Int.{ints, of_z-to_z}
use Rattle.std.proofs.lemmas.Bool.Decides.{nat_tests}
use Rattle.std.specs.Prelude.{bit_and, bit_or, bit_xor, Ok, int_div}
use Rattle.std.specs.Int.{Width, w32, w64, trailing_zeros, rotate_left, rotate_right, cast_signed, cast_unsigned, int_shr}
use Rattle.std.proofs.Math.Nat.{mod-eq_of_lt}
use Rattle.std.proofs.lemmas.Nat.{mod_below}
use mir.Val.{bits}
use Rattle.faaslet_meaning.specs.Integers.{Binary, unop, unary_row, binop, binary_row, ctz, div_s, and, or, xor, shr_s, rotl, rotr}
use Rattle.faaslet_meaning.proofs.IntegerResults.{some}
use Rattle.wasm_num.proofs.Digits.{trailing, both, either, differing}
use Rattle.wasm_num.proofs.Shifts.{left, right, arithmetic}

-- operands of the width stand for themselves
binary_at : (w : Width) (x y : ℕ) → x < 2 ^ bits w → y < 2 ^ bits w → (f : Binary) → binary_row f w x y ≡ binop f w x y
binary_at w x y h k f = ap₂ (binop f w) (mod-eq_of_lt h) (mod-eq_of_lt k)

module _ (w : Width) where
  ctz_row : (x : ℕ) → x < 2 ^ bits w → unary_row ctz w x ≡ trailing_zeros w x
  ctz_row x h = ap (unop ctz w) (mod-eq_of_lt h) ∙ trailing (bits w) x

  module _ (x y : ℕ) (h : x < 2 ^ bits w) (k : y < 2 ^ bits w) where
    and_row : binary_row and w x y ≡ Ok (bit_and x y)
    and_row = binary_at w x y h k and ∙ ap Ok (both (bits w) x y h k)

    or_row : binary_row or w x y ≡ Ok (bit_or x y)
    or_row = binary_at w x y h k or ∙ ap Ok (either (bits w) x y h k)

    xor_row : binary_row xor w x y ≡ Ok (bit_xor x y)
    xor_row = binary_at w x y h k xor ∙ ap Ok (differing (bits w) x y h k)

    count : y % bits w < bits w
    count = mod_below y (bits w) (some w)

    shr_s_row : binary_row shr_s w x y ≡ Ok (cast_unsigned w (int_shr (cast_signed w x) (y % bits w)))
    shr_s_row = binary_at w x y h k shr_s ∙ ap Ok (sym (arithmetic w x (y % bits w) count h))

    rotl_row : binary_row rotl w x y ≡ Ok (rotate_left w x y)
    rotl_row = binary_at w x y h k rotl ∙ ap Ok (sym (left (bits w) x (y % bits w) count h))

    rotr_row : binary_row rotr w x y ≡ Ok (rotate_right w x y)
    rotr_row = binary_at w x y h k rotr ∙ ap Ok (sym (right (bits w) x (y % bits w) count h))

-- ---- the same at the two widths

pub ctz_32 : (x : ℕ) → x < 2 ^ 32 → unary_row ctz w32 x ≡ trailing_zeros w32 x
ctz_32 = ctz_row w32

pub and_32 : (x y : ℕ) → x < 2 ^ 32 → y < 2 ^ 32 → binary_row and w32 x y ≡ Ok (bit_and x y)
and_32 = and_row w32

pub or_32 : (x y : ℕ) → x < 2 ^ 32 → y < 2 ^ 32 → binary_row or w32 x y ≡ Ok (bit_or x y)
or_32 = or_row w32

pub xor_32 : (x y : ℕ) → x < 2 ^ 32 → y < 2 ^ 32 → binary_row xor w32 x y ≡ Ok (bit_xor x y)
xor_32 = xor_row w32

pub shr_s_32 : (x y : ℕ) → x < 2 ^ 32 → y < 2 ^ 32 → binary_row shr_s w32 x y ≡ Ok (cast_unsigned w32 (int_shr (cast_signed w32 x) (y % 32)))
shr_s_32 = shr_s_row w32

pub rotl_32 : (x y : ℕ) → x < 2 ^ 32 → y < 2 ^ 32 → binary_row rotl w32 x y ≡ Ok (rotate_left w32 x y)
rotl_32 = rotl_row w32

pub rotr_32 : (x y : ℕ) → x < 2 ^ 32 → y < 2 ^ 32 → binary_row rotr w32 x y ≡ Ok (rotate_right w32 x y)
rotr_32 = rotr_row w32

pub ctz_64 : (x : ℕ) → x < 2 ^ 64 → unary_row ctz w64 x ≡ trailing_zeros w64 x
ctz_64 = ctz_row w64

pub and_64 : (x y : ℕ) → x < 2 ^ 64 → y < 2 ^ 64 → binary_row and w64 x y ≡ Ok (bit_and x y)
and_64 = and_row w64

pub or_64 : (x y : ℕ) → x < 2 ^ 64 → y < 2 ^ 64 → binary_row or w64 x y ≡ Ok (bit_or x y)
or_64 = or_row w64

pub xor_64 : (x y : ℕ) → x < 2 ^ 64 → y < 2 ^ 64 → binary_row xor w64 x y ≡ Ok (bit_xor x y)
xor_64 = xor_row w64

pub shr_s_64 : (x y : ℕ) → x < 2 ^ 64 → y < 2 ^ 64 → binary_row shr_s w64 x y ≡ Ok (cast_unsigned w64 (int_shr (cast_signed w64 x) (y % 64)))
shr_s_64 = shr_s_row w64

pub rotl_64 : (x y : ℕ) → x < 2 ^ 64 → y < 2 ^ 64 → binary_row rotl w64 x y ≡ Ok (rotate_left w64 x y)
rotl_64 = rotl_row w64

pub rotr_64 : (x y : ℕ) → x < 2 ^ 64 → y < 2 ^ 64 → binary_row rotr w64 x y ≡ Ok (rotate_right w64 x y)
rotr_64 = rotr_row w64

-- a value that goes through the signed type and back
through : (w : Width) (x y : ℕ) → x < 2 ^ bits w → y < 2 ^ bits w → cast_unsigned w (int_div (cast_signed w x) (cast_signed w y)) < 2 ^ bits w
    → cast_unsigned w (cast_signed w (cast_unsigned w (int_div (cast_signed w (cast_unsigned w (cast_signed w x))) (cast_signed w (cast_unsigned w (cast_signed w y)))))) ≡ cast_unsigned w (int_div (cast_signed w x) (cast_signed w y))
through w x y h k q =
    ap₂ (λ a b. cast_unsigned w (cast_signed w (cast_unsigned w (int_div (cast_signed w a) (cast_signed w b))))) (of_z-to_z w x h) (of_z-to_z w y k)
    ∙ of_z-to_z w (cast_unsigned w (int_div (cast_signed w x) (cast_signed w y))) q

apart : {A B : Type 0} → (A × (B → ⊥)) ⊎ (A → ⊥) → (A → ⊥) ⊎ (B → ⊥)
apart (inl p) = inr p.1
apart (inr f) = inl f

divided_32 : (x y : ℕ) → x < 2 ^ 32 → y < 2 ^ 32 → (y ≡ 0 → ⊥) → ((x ≡ 2 ^ 31 → ⊥) ⊎ (y ≡ 2 ^ 32 - 1 → ⊥)) → binary_row div_s w32 x y ≡ Ok (cast_unsigned w32 (int_div (cast_signed w32 x) (cast_signed w32 y)))
divided_32 x y h k z o = grind (arith, ints, nat_tests)

quotient_32 : (x y : ℕ) → x < 2 ^ 32 → y < 2 ^ 32 → cast_unsigned w32 (int_div (cast_signed w32 x) (cast_signed w32 y)) < 2 ^ 32
quotient_32 x y h k = grind (arith, ints, nat_tests)

-- the quotient as the code comes to it, through the signed type
pub div_s_32 : (x y q : ℕ) → x < 2 ^ 32 → y < 2 ^ 32 → (y ≡ 0 → ⊥) → ((x ≡ 2 ^ 31) × (y ≡ 2 ^ 32 - 1 → ⊥)) ⊎ (x ≡ 2 ^ 31 → ⊥)
    → q ≡ cast_unsigned w32 (cast_signed w32 (cast_unsigned w32 (int_div (cast_signed w32 (cast_unsigned w32 (cast_signed w32 x))) (cast_signed w32 (cast_unsigned w32 (cast_signed w32 y)))))) → Ok q ≡ binary_row div_s w32 x y
div_s_32 x y q h k z o e = ap Ok (e ∙ through w32 x y h k (quotient_32 x y h k)) ∙ sym (divided_32 x y h k z (apart o))

divided_64 : (x y : ℕ) → x < 2 ^ 64 → y < 2 ^ 64 → (y ≡ 0 → ⊥) → ((x ≡ 2 ^ 63 → ⊥) ⊎ (y ≡ 2 ^ 64 - 1 → ⊥)) → binary_row div_s w64 x y ≡ Ok (cast_unsigned w64 (int_div (cast_signed w64 x) (cast_signed w64 y)))
divided_64 x y h k z o = grind (arith, ints, nat_tests)

quotient_64 : (x y : ℕ) → x < 2 ^ 64 → y < 2 ^ 64 → cast_unsigned w64 (int_div (cast_signed w64 x) (cast_signed w64 y)) < 2 ^ 64
quotient_64 x y h k = grind (arith, ints, nat_tests)

-- the quotient as the code comes to it, through the signed type
pub div_s_64 : (x y q : ℕ) → x < 2 ^ 64 → y < 2 ^ 64 → (y ≡ 0 → ⊥) → ((x ≡ 2 ^ 63) × (y ≡ 2 ^ 64 - 1 → ⊥)) ⊎ (x ≡ 2 ^ 63 → ⊥)
    → q ≡ cast_unsigned w64 (cast_signed w64 (cast_unsigned w64 (int_div (cast_signed w64 (cast_unsigned w64 (cast_signed w64 x))) (cast_signed w64 (cast_unsigned w64 (cast_signed w64 y)))))) → Ok q ≡ binary_row div_s w64 x y
div_s_64 x y q h k z o e = ap Ok (e ∙ through w64 x y h k (quotient_64 x y h k)) ∙ sym (divided_64 x y h k z (apart o))
