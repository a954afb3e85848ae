-- Functions of a module that have a body. This project's own.
use Rattle.std.specs.Prelude.{◌≡◌, ℕ, ◌≤◌, Some, length, slice_get}
use Rattle.faaslet_meaning.specs.declared.module.FuncType.{FuncType}
use Rattle.faaslet_meaning.specs.declared.module.Module.{Module}
use Rattle.faaslet_meaning.specs.IndexSpaces.{imported_functions, function_types}

-- the function of this index has a body and this type
pub record IsOwn (m : Module) (index : ℕ) (t : FuncType) : Type 0 where
  pub own : length (imported_functions m) ≤ index
  pub type : slice_get (function_types m) index ≡ Some t
