-- How the parts of a scope are read as a context. This project's own.
use Rattle.std.specs.Prelude.{ℕ, ◌<◌, List, [], ◌∷◌, All, length, map, unwrap_or, slice_get}
use Rattle.faaslet_meaning.specs.declared.module.FuncType.{FuncType}
use Rattle.faaslet_meaning.specs.Typing.{Context}
use Rattle.faaslet_meaning.specs.Tree.{types_of}
use Rattle.wasm_validate.specs.declared.scope.Scope.TheInside.{Inside}

abbrev pub type_in : List FuncType → ℕ → FuncType
type_in types t = unwrap_or (slice_get types t) (record { params = []; results = [] })

-- the label is that of the function itself
abbrev pub context_at : Inside → Context
context_at s =
    record {
      types = s.types.now;
      functions = map (type_in s.types.now) s.functions.now;
      globals = s.globals.now;
      has_table = s.has_table;
      has_memory = s.has_memory;
      locals = s.locals.now;
      labels = types_of s.leaves ∷ [];
      results = types_of s.leaves;
    }

abbrev pub NamesTypes : Inside → Type 0
NamesTypes s = All (λ t. t < length s.types.now) s.functions.now
