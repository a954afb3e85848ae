-- The rules of a module over the index spaces that the validator builds. This project's own: each is its rule of `Valid`
-- where the spaces are those of the module, which `proofs/Kept` says.
use Rattle.std.specs.Prelude.{◌≡◌, ◌≢◌, ℕ, ◌+◌, ◌^◌, ◌<◌, ◌≤◌, false, List, [], Option, Some, None, All, AllPairs, length, map, slice_get}
use Rattle.faaslet_meaning.specs.declared.instr.ValType.TheVariants.{I32}
use Rattle.faaslet_meaning.specs.declared.module.FuncType.{FuncType}
use Rattle.faaslet_meaning.specs.declared.module.ExportKind.{ExportKind}
use Rattle.faaslet_meaning.specs.declared.module.ExportKind.TheVariants as export
use Rattle.faaslet_meaning.specs.declared.module.Element.{Element}
use Rattle.faaslet_meaning.specs.declared.module.Segment.{Segment}
use Rattle.faaslet_meaning.specs.declared.module.Export.{Export}
use Rattle.faaslet_meaning.specs.declared.module.Module.{Module}
use Rattle.faaslet_meaning.specs.Floats.{has_float}
use Rattle.faaslet_meaning.specs.IndexSpaces.{local_count, functions, tables, memories, imported_globals}
use Rattle.faaslet_meaning.specs.Valid.{Rising, WithinPages, IsConstant, ElementOk, SegmentOk, StartOk, count_of}
use Rattle.wasm_validate.specs.Scopes.{type_in}
use Rattle.wasm_validate.specs.declared.spaces.Spaces.{Spaces}

abbrev pub StartsIn : List FuncType → List ℕ → Option ℕ → Type 0
StartsIn types functions None = Unit {0}
StartsIn types functions (Some f) = slice_get (map (type_in types) functions) f ≡ Some (record { params = []; results = [] })

abbrev pub count_in : Spaces → ExportKind → ℕ
count_in s export.Function = length s.functions.items
count_in s export.Table = length s.tables.items
count_in s export.Memory = length s.memories.items
count_in s export.Global = length s.globals.items

pub record ElementIn (s : Spaces) (e : Element) : Type 0 where
  pub table : e.table < length s.tables.items
  pub offset : IsConstant s.globals.items I32 e.offset
  pub functions : All (λ f. f < length s.functions.items) e.functions

pub record SegmentIn (s : Spaces) (d : Segment) : Type 0 where
  pub memory : d.memory < length s.memories.items
  pub offset : IsConstant s.globals.items I32 d.offset

-- ---- the rules of `RulesHold` in three groups

pub record TypesHold (m : Module) : Type 0 where
  pub one_result : All (λ (t : FuncType). length t.results ≤ 1) m.types
  pub types_exist : All (λ t. t < length m.types) (functions m)
  pub as_many_bodies : length m.bodies ≡ length m.functions
  pub few_imports_and_bodies : length m.imports + length m.bodies < 2 ^ 32
  pub few_locals : All (λ b. local_count b < 2 ^ 32) m.bodies
  pub no_float : has_float m ≡ false

pub record LimitsHold (m : Module) : Type 0 where
  pub one_table : length (tables m) ≤ 1
  pub one_memory : length (memories m) ≤ 1
  pub tables_rise : All Rising (tables m)
  pub memories_rise : All Rising (memories m)
  pub memories_within : All WithinPages (memories m)

pub record PartsHold (m : Module) : Type 0 where
  pub globals_constant : All (λ d. IsConstant (imported_globals m) d.kind.value d.init) m.globals
  pub elements_ok : All (ElementOk m) m.elements
  pub segments_ok : All (SegmentOk m) m.segments
  pub start_ok : StartOk m m.start
  pub exports_exist : All (λ (e : Export). e.index < count_of m e.kind) m.exports
  pub exports_differ : AllPairs (λ a b. a ≢ b) (map (λ e. e.name) m.exports)
