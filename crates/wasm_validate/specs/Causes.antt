-- What is answered of a module. This project's own.
use Rattle.std.specs.Prelude.{◌≡◌, ℕ, nat_lt, List, [], ◌∷◌, length, Some, Result, Ok, Err, slice_get}
use Rattle.faaslet_meaning.specs.declared.module.FuncType.{FuncType}
use Rattle.faaslet_meaning.specs.declared.module.Body.{Body}
use Rattle.faaslet_meaning.specs.declared.module.Module.{Module}
use Rattle.faaslet_meaning.specs.declared.instr.ValType.{ValType}
use Rattle.faaslet_meaning.specs.Typing.{Context, IsTyped}
use Rattle.faaslet_meaning.specs.IndexSpaces.{function_types, globals, tables, memories}
use Rattle.faaslet_meaning.specs.Valid.{Valid, RulesHold, FirstUntyped, context_of}
use Rattle.wasm_validate.specs.declared.invalid.Invalid.{Invalid}
use Rattle.wasm_validate.specs.declared.invalid.Invalid.TheVariants as invalid

-- Why a module is refused: a rule other than the typing of bodies does not hold, or else a body is untyped, the first
-- of them; or there was not enough memory, which says nothing of the module.
abbrev pub IsCause : Invalid → Module → Type 0
IsCause invalid.Module m = RulesHold m → ⊥
IsCause (invalid.Function k) m = FirstUntyped m k
IsCause invalid.Want m = Unit {0}

abbrev pub Checks : {X : Type 0} → Result X Invalid → Module → Type 0
Checks (Ok x) m = Valid m
Checks (Err e) m = IsCause e m

-- the body is typed as that of function k
abbrev pub TypedAt : Module → ℕ → Body → Type 0
TypedAt m k b = (t : FuncType) → slice_get (function_types m) k ≡ Some t → IsTyped (context_of m t b) b.code

-- the context of a body of this type with these locals
abbrev pub context_with : Module → FuncType → List ValType → Context
context_with m t locals =
    record {
      types = m.types;
      functions = function_types m;
      globals = globals m;
      has_table = nat_lt 0 (length (tables m));
      has_memory = nat_lt 0 (length (memories m));
      locals = locals;
      labels = t.results ∷ [];
      results = t.results;
    }
