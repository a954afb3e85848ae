-- Types are compared by their codes.
use Rattle.std.proofs.Common.{◌≡◌, List, [], ◌∷◌, map, refl, ap, ◌∙◌, Bool, true, false}
use Rattle.std.specs.Prelude.{nat_eq, bytes_eq, ◌&&◌}
use Rattle.std.specs.Cmp.Lexicographic.{pointwise}
use Rattle.faaslet_meaning.specs.declared.instr.ValType.{ValType}
use Rattle.faaslet_meaning.specs.declared.instr.ValType.TheVariants.{I32, I64, F32, F64}
use Rattle.faaslet_meaning.specs.ControlRules.{type_code}

-- a test that tells the types apart
pub record TellsApart (same : ValType → ValType → Bool) : Type 0 where
  pub i32_i32 : same I32 I32 ≡ true
  pub i32_i64 : same I32 I64 ≡ false
  pub i32_f32 : same I32 F32 ≡ false
  pub i32_f64 : same I32 F64 ≡ false
  pub i64_i32 : same I64 I32 ≡ false
  pub i64_i64 : same I64 I64 ≡ true
  pub i64_f32 : same I64 F32 ≡ false
  pub i64_f64 : same I64 F64 ≡ false
  pub f32_i32 : same F32 I32 ≡ false
  pub f32_i64 : same F32 I64 ≡ false
  pub f32_f32 : same F32 F32 ≡ true
  pub f32_f64 : same F32 F64 ≡ false
  pub f64_i32 : same F64 I32 ≡ false
  pub f64_i64 : same F64 I64 ≡ false
  pub f64_f32 : same F64 F32 ≡ false
  pub f64_f64 : same F64 F64 ≡ true

by_codes : (same : ValType → ValType → Bool) → TellsApart same → (a b : ValType) → same a b ≡ nat_eq (type_code a) (type_code b)
by_codes same t I32 I32 = t.i32_i32
by_codes same t I32 I64 = t.i32_i64
by_codes same t I32 F32 = t.i32_f32
by_codes same t I32 F64 = t.i32_f64
by_codes same t I64 I32 = t.i64_i32
by_codes same t I64 I64 = t.i64_i64
by_codes same t I64 F32 = t.i64_f32
by_codes same t I64 F64 = t.i64_f64
by_codes same t F32 I32 = t.f32_i32
by_codes same t F32 I64 = t.f32_i64
by_codes same t F32 F32 = t.f32_f32
by_codes same t F32 F64 = t.f32_f64
by_codes same t F64 I32 = t.f64_i32
by_codes same t F64 I64 = t.f64_i64
by_codes same t F64 F32 = t.f64_f32
by_codes same t F64 F64 = t.f64_f64

same_codes : (same : ValType → ValType → Bool) → TellsApart same → (xs ys : List ValType) → pointwise same xs ys ≡ bytes_eq (map type_code xs) (map type_code ys)
same_codes same is [] [] = refl
same_codes same is [] (y ∷ ys) = refl
same_codes same is (x ∷ xs) [] = refl
same_codes same is (x ∷ xs) (y ∷ ys) = ap (λ b. b && pointwise same xs ys) (by_codes same is x y) ∙ ap (λ b. nat_eq (type_code x) (type_code y) && b) (same_codes same is xs ys)

pub same_by : (same : ValType → ValType → Bool) (xs ys : List ValType) (r : Bool) → r ≡ pointwise same xs ys → TellsApart same → r ≡ bytes_eq (map type_code xs) (map type_code ys)
same_by same xs ys r e is = e ∙ same_codes same is xs ys
