-- Lists of types are the same where their codes are.
use Rattle.std.proofs.Common.{refl}
use Rattle.wasm_interp.proofs.TypeCodes.{same_by}
use Rattle.wasm_interp.proofs.functions.are_same.Goals as goal

pub returns : goal.returns
returns c =
    same_by _ c.args.a.now c.args.b.now c.eq.result c.eq.ensures
    (record {
      i32_i32 = refl;
      i32_i64 = refl;
      i32_f32 = refl;
      i32_f64 = refl;
      i64_i32 = refl;
      i64_i64 = refl;
      i64_f32 = refl;
      i64_f64 = refl;
      f32_i32 = refl;
      f32_i64 = refl;
      f32_f32 = refl;
      f32_f64 = refl;
      f64_i32 = refl;
      f64_i64 = refl;
      f64_f32 = refl;
      f64_f64 = refl;
    })
