-- What a module must have besides validity, so that a function may have it: it imports host calls alone, and exports `main`
-- and perhaps `init`. This project's own.
use Rattle.std.specs.Prelude.{◌≡◌, ℕ, ◌≤◌, List, [], ◌∷◌, Some, All, Contains, length, take, slice_get, codes}
use Rattle.faaslet_meaning.specs.declared.instr.ValType.TheVariants.{I32}
use Rattle.faaslet_meaning.specs.declared.module.Module.{Module}
use Rattle.faaslet_meaning.specs.declared.module.FuncType.{FuncType}
use Rattle.faaslet_meaning.specs.declared.module.Import.{Import}
use Rattle.faaslet_meaning.specs.declared.module.ImportKind.TheVariants as import
use Rattle.faaslet_meaning.specs.declared.module.Export.{Export}
use Rattle.faaslet_meaning.specs.Program.{export_of}
use Rattle.faaslet_meaning.specs.HostCalls.{HostRow, host_rows, host_module, type_of_row, number_of}
use Rattle.faaslet_meaning.specs.IndexSpaces.{imported_functions, function_types}

-- a function of the module `faasm` with the name and the type of a host call
pub record IsHostCall (m : Module) (i : Import) : Type 0 where
  pub home : i.«module» ≡ host_module
  pub number : ℕ
  pub named : number_of i.name ≡ Some number
  pub row : HostRow
  pub row_is : slice_get host_rows number ≡ Some row
  pub type : ℕ
  pub kind : i.kind ≡ import.Function type
  pub type_is : slice_get m.types type ≡ Some (type_of_row row)

abbrev pub HostImports : Module → Type 0
HostImports m = All (IsHostCall m) m.imports

-- a function with a body and this type is exported under a name
pub record ExportsOwn (m : Module) (name : List ℕ) (t : FuncType) : Type 0 where
  pub index : ℕ
  pub exported : export_of m name ≡ Some index
  pub own : length (imported_functions m) ≤ index
  pub type : slice_get (function_types m) index ≡ Some t

abbrev pub Named : List ℕ → Module → Type 0
Named name m = (e : Export) × Contains m.exports e × (e.name ≡ name)

abbrev pub MainFits : Module → Type 0
MainFits m = ExportsOwn m (codes "main") (record { params = []; results = I32 ∷ [] })

abbrev pub InitFits : Module → Type 0
InitFits m = Named (codes "init") m → ExportsOwn m (codes "init") (record { params = []; results = [] })

pub record Runnable (m : Module) : Type 0 where
  pub imports : HostImports m
  pub main : MainFits m
  pub init : InitFits m

-- Why a function may not have a module.
pub data Unfit : Type 0 where
  bad_import : (number : ℕ) → Unfit
  no_main : Unfit
  bad_init : Unfit

-- the first import that is no host call
pub record FirstBadImport (m : Module) (k : ℕ) : Type 0 where
  pub one : Import
  pub found : slice_get m.imports k ≡ Some one
  pub bad : IsHostCall m one → ⊥
  pub first : All (IsHostCall m) (take k m.imports)

-- the first of these that applies
abbrev pub IsUnfit : Unfit → Module → Type 0
IsUnfit (bad_import k) m = FirstBadImport m k
IsUnfit no_main m = HostImports m × (MainFits m → ⊥)
IsUnfit bad_init m = HostImports m × MainFits m × (InitFits m → ⊥)
