-- The index spaces of a module, which begin with the imports, and what is looked up in them. W3C WebAssembly Core
-- Specification 1.0, sections 2.5.1, Indices, and 3.4.10, Modules.
use Rattle.std.specs.Prelude.{ℕ, List, [], ◌++◌, Option, Some, None, map, slice_get, unwrap_or, filter_map, sum_by}
use Rattle.faaslet_meaning.specs.declared.module.Module.{Module}
use Rattle.faaslet_meaning.specs.declared.module.FuncType.{FuncType}
use Rattle.faaslet_meaning.specs.declared.module.GlobalType.{GlobalType}
use Rattle.faaslet_meaning.specs.declared.module.Limits.{Limits}
use Rattle.faaslet_meaning.specs.declared.module.ImportKind.{ImportKind}
use Rattle.faaslet_meaning.specs.declared.module.ImportKind.TheVariants as import
use Rattle.faaslet_meaning.specs.declared.module.Body.{Body}

abbrev pub imported_function : ImportKind → Option ℕ
imported_function (import.Function t) = Some t
imported_function _ = None

abbrev pub imported_table : ImportKind → Option Limits
imported_table (import.Table l) = Some l
imported_table _ = None

abbrev pub imported_memory : ImportKind → Option Limits
imported_memory (import.Memory l) = Some l
imported_memory _ = None

abbrev pub imported_global : ImportKind → Option GlobalType
imported_global (import.Global g) = Some g
imported_global _ = None

abbrev pub imported : {A : Type 0} → (ImportKind → Option A) → Module → List A
imported kind m = filter_map (λ i. kind i.kind) m.imports

abbrev pub imported_functions : Module → List ℕ
imported_functions m = imported imported_function m

abbrev pub imported_globals : Module → List GlobalType
imported_globals m = imported imported_global m

-- functions by the numbers of their types
abbrev pub functions : Module → List ℕ
functions m = imported_functions m ++ m.functions

abbrev pub tables : Module → List Limits
tables m = imported imported_table m ++ m.tables

abbrev pub memories : Module → List Limits
memories m = imported imported_memory m ++ m.memories

abbrev pub globals : Module → List GlobalType
globals m = imported_globals m ++ map (λ d. d.kind) m.globals

-- the type of this number, from nothing to nothing where there is none
abbrev pub type_at : Module → ℕ → FuncType
type_at m t = unwrap_or (slice_get m.types t) (record { params = []; results = [] })

abbrev pub function_types : Module → List FuncType
function_types m = map (type_at m) (functions m)

-- how many locals a body has beside its parameters
abbrev pub local_count : Body → ℕ
local_count b = sum_by (λ g. g.count) b.locals
