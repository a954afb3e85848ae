-- What a module is run as: its functions, its memory at first, its exports and its constants. W3C WebAssembly Core
-- Specification 1.0, sections 4.2.5, Module Instances, 4.5.3, Allocation, and 4.5.4, Instantiation.
use Rattle.std.specs.Prelude.{ℕ, length, List, [], ◌∷◌, ◌++◌, Option, Some, None, Bool, true, false, slice_get, unwrap_or, option_map, bytes_eq, ◌&&◌, find, option_and_then}
use Rattle.std.specs.Int.{cast_unsigned, w32, w64}
use Rattle.faaslet_meaning.specs.declared.instr.Instr.{Instr}
use Rattle.faaslet_meaning.specs.declared.instr.Instr.TheVariants.{I32Const, I64Const, GlobalGet}
use Rattle.faaslet_meaning.specs.declared.module.Module.{Module}
use Rattle.faaslet_meaning.specs.declared.module.Limits.{Limits}
use Rattle.faaslet_meaning.specs.declared.module.Import.{Import}
use Rattle.faaslet_meaning.specs.declared.module.ImportKind.TheVariants as import
use Rattle.faaslet_meaning.specs.declared.module.ExportKind.{ExportKind}
use Rattle.faaslet_meaning.specs.declared.module.ExportKind.TheVariants as export
use Rattle.faaslet_meaning.specs.declared.module.GlobalDef.{GlobalDef}
use Rattle.faaslet_meaning.specs.declared.module.Body.{Body}
use Rattle.faaslet_meaning.specs.declared.grant.Grant.{Grant}
use Rattle.faaslet_meaning.specs.Parse.{tree_of}
use Rattle.faaslet_meaning.specs.Memory.{page_limit, Memory, grown}
use Rattle.faaslet_meaning.specs.HostCalls.{number_of, host_rows}
use Rattle.faaslet_meaning.specs.IndexSpaces.{type_at, local_count}
use Rattle.faaslet_meaning.specs.Configuration.{Func, hosted, defined, Program}

-- The functions: first those that are imported, which are host calls. A name that is none has a number past all rows, and a
-- call of it is stuck.
abbrev pub host_number : List ℕ → ℕ
host_number name = unwrap_or (number_of name) (length host_rows)

abbrev pub host_functions : Module → List Import → List Func
host_functions m [] = []
host_functions m (i ∷ is) =
    elim i.kind [ import.Function t ↦ hosted (host_number i.name) (type_at m t) ∷ host_functions m is | import.Table l ↦ host_functions m is | import.Memory l ↦ host_functions m is | import.Global g ↦ host_functions m is ]

abbrev pub bodies_from : Module → List ℕ → List Body → List Func
bodies_from m (t ∷ ts) (b ∷ bs) = defined (type_at m t) (local_count b) (tree_of b.code) ∷ bodies_from m ts bs
bodies_from m _ _ = []

abbrev pub functions_of : Module → List Func
functions_of m = host_functions m m.imports ++ bodies_from m m.functions m.bodies

-- the limits of the memory; without one it has 0 pages
abbrev pub first_limits : List Limits → Limits
first_limits [] = record { min = 0; max = Some 0 }
first_limits (l ∷ ls) = l

abbrev pub memory_limits : Module → Limits
memory_limits m = first_limits m.memories

abbrev pub table_size : Module → ℕ
table_size m = elim m.tables [ [] ↦ 0 | l ∷ ls ↦ l.min ]

abbrev pub program_of : Module → List Grant → Program
program_of m grants = record { functions = functions_of m; types = m.types; most_pages = unwrap_or (memory_limits m).max page_limit; grants = grants }

-- the minimum of pages, each zero
abbrev pub first_memory : Module → ℕ → Memory
first_memory m quota = grown (record { segments = []; bytes = []; quota = quota }) (memory_limits m).min

-- the function that is exported under a name
abbrev pub is_function : ExportKind → Bool
is_function export.Function = true
is_function _ = false

abbrev pub export_of : Module → List ℕ → Option ℕ
export_of m name = option_map (λ e. e.index) (find (λ e. is_function e.kind && bytes_eq e.name name) m.exports)

-- a constant expression, with the globals known so far; there are no imported ones
abbrev pub constant_by : List ℕ → Instr → Option ℕ
constant_by globals (I32Const n) = Some (cast_unsigned w32 n)
constant_by globals (I64Const n) = Some (cast_unsigned w64 n)
constant_by globals (GlobalGet k) = slice_get globals k
constant_by globals _ = None

abbrev pub constant : List ℕ → List Instr → Option ℕ
constant globals [] = None
constant globals (i ∷ code) = constant_by globals i

abbrev pub globals_from : List ℕ → List GlobalDef → Option (List ℕ)
globals_from globals [] = Some globals
globals_from globals (d ∷ ds) = option_and_then (λ v. globals_from (globals ++ v ∷ []) ds) (constant globals d.init)
