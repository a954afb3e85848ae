-- What a call finds of the function that it calls. This project's own.
use Rattle.std.specs.Prelude.{◌≡◌, ℕ, ◌≤◌, [], ◌∷◌, None, length}
use Rattle.faaslet_meaning.specs.declared.module.FuncType.{FuncType}
use Rattle.faaslet_meaning.specs.Configuration.{Func, hosted, defined}
use Rattle.faaslet_meaning.specs.Parse.{part, parts}
use Rattle.faaslet_meaning.specs.Tree.{Tree}
use Rattle.wasm_validate.specs.Jumps.{JumpsFit}
use Rattle.wasm_interp.specs.declared.functions.Own.{Own}
use Rattle.wasm_interp.specs.declared.functions.Callee.{Callee}
use Rattle.wasm_interp.specs.declared.functions.Callee.TheVariants as callee

-- a body with its type
pub record OwnIs (t : FuncType) (locals : ℕ) (body : Tree) (o : Own) : Type 0 where
  pub params : length t.params ≡ o.params
  pub results : length t.results ≡ o.results
  pub few : o.results ≤ 1
  pub locals_are : locals ≡ o.locals
  pub whole : parts o.code.now ≡ part body None ∷ []
  pub fit : JumpsFit o.code.now o.jumps.now

abbrev pub CalleeIs : Func → Callee → Type 0
CalleeIs (hosted number t) (callee.Host n params) = (number ≡ n) × (length t.params ≡ params)
CalleeIs (defined t locals body) (callee.Own o) = OwnIs t locals body o
CalleeIs _ _ = ⊥
