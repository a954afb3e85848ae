-- The index spaces that the validator builds are those of the module. This project's own.
use Rattle.std.specs.Prelude.{◌≡◌, length}
use Rattle.faaslet_meaning.specs.declared.module.Module.{Module}
use Rattle.faaslet_meaning.specs.IndexSpaces.{functions, tables, memories, globals, imported_functions, imported_globals}
use Rattle.wasm_validate.specs.declared.spaces.Spaces.{Spaces}

pub record AreSpaces (m : Module) (s : Spaces) : Type 0 where
  pub functions_are : s.functions.items ≡ functions m
  pub tables_are : s.tables.items ≡ tables m
  pub memories_are : s.memories.items ≡ memories m
  pub globals_are : s.globals.items ≡ globals m
  pub imported_functions_are : s.imported_functions ≡ length (imported_functions m)
  pub imported_globals_are : s.imported_globals.items ≡ imported_globals m
