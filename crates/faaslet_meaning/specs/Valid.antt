-- Valid modules. W3C WebAssembly Core Specification 1.0, sections 3.2, Types, and 3.4, Modules. Of the rules two are of the
-- binary format, section 5.5 (as many bodies as functions, and the number of locals). This project's own are that imports
-- and bodies together are few, and that no float stands anywhere.
use Rattle.std.specs.Prelude.{◌≡◌, ◌≢◌, ℕ, ◌+◌, ◌^◌, ◌<◌, ◌≤◌, false, List, [], ◌∷◌, ◌++◌, Option, Some, None, All, AllPairs, map, length, replicate, slice_get, flat_map, nat_lt}
use Rattle.faaslet_meaning.specs.declared.instr.ValType.{ValType}
use Rattle.faaslet_meaning.specs.declared.instr.ValType.TheVariants.{I32, I64}
use Rattle.faaslet_meaning.specs.declared.instr.Instr.{Instr}
use Rattle.faaslet_meaning.specs.declared.instr.Instr.TheVariants.{End, GlobalGet, I32Const, I64Const}
use Rattle.faaslet_meaning.specs.declared.module.Module.{Module}
use Rattle.faaslet_meaning.specs.declared.module.FuncType.{FuncType}
use Rattle.faaslet_meaning.specs.declared.module.GlobalType.{GlobalType}
use Rattle.faaslet_meaning.specs.declared.module.Limits.{Limits}
use Rattle.faaslet_meaning.specs.declared.module.ExportKind.{ExportKind}
use Rattle.faaslet_meaning.specs.declared.module.ExportKind.TheVariants as export
use Rattle.faaslet_meaning.specs.declared.module.Export.{Export}
use Rattle.faaslet_meaning.specs.declared.module.Element.{Element}
use Rattle.faaslet_meaning.specs.declared.module.Segment.{Segment}
use Rattle.faaslet_meaning.specs.declared.module.Body.{Body}
use Rattle.faaslet_meaning.specs.IndexSpaces.{function_types, functions, globals, imported_functions, imported_globals, local_count, memories, tables}
use Rattle.faaslet_meaning.specs.Memory.{page_limit}
use Rattle.faaslet_meaning.specs.Floats.{has_float}
use Rattle.faaslet_meaning.specs.Typing.{Context, IsTyped}

-- 3.2.1, Limits
abbrev pub Rising : Limits → Type 0
Rising l = (n : ℕ) → l.max ≡ Some n → l.min ≤ n

-- 3.2.4, Memory Types
abbrev pub WithinPages : Limits → Type 0
WithinPages l = (l.min ≤ page_limit) × ((n : ℕ) → l.max ≡ Some n → n ≤ page_limit)

-- 3.3.7, Expressions, constant ones: one constant, or an immutable global of these
abbrev pub GivesConstant : List GlobalType → Instr → ValType → Type 0
GivesConstant gs (I32Const n) t = t ≡ I32
GivesConstant gs (I64Const n) t = t ≡ I64
GivesConstant gs (GlobalGet k) t = slice_get gs k ≡ Some (record { value = t; mutable = false })
GivesConstant gs _ t = ⊥

abbrev pub IsConstant : List GlobalType → ValType → List Instr → Type 0
IsConstant gs t code = (i : Instr) × (code ≡ i ∷ End ∷ []) × GivesConstant gs i t

-- 3.4.5, Element Segments
pub record ElementOk (m : Module) (e : Element) : Type 0 where
  pub table : e.table < length (tables m)
  pub offset : IsConstant (globals m) I32 e.offset
  pub functions : All (λ f. f < length (functions m)) e.functions

-- 3.4.6, Data Segments
pub record SegmentOk (m : Module) (s : Segment) : Type 0 where
  pub memory : s.memory < length (memories m)
  pub offset : IsConstant (globals m) I32 s.offset

-- 3.4.8, Exports: how many there are of a kind
abbrev pub count_of : Module → ExportKind → ℕ
count_of m export.Function = length (functions m)
count_of m export.Table = length (tables m)
count_of m export.Memory = length (memories m)
count_of m export.Global = length (globals m)

-- 3.4.7, Start Function
abbrev pub StartOk : Module → Option ℕ → Type 0
StartOk m None = Unit {0}
StartOk m (Some f) = slice_get (function_types m) f ≡ Some (record { params = []; results = [] })

-- The rules of a module, all but the typing of its bodies.
pub record RulesHold (m : Module) : Type 0 where
  -- 3.2.2, Function Types
  pub one_result : All (λ (t : FuncType). length t.results ≤ 1) m.types
  -- 3.4.1, Functions, and 3.4.9, Imports; as many bodies: 5.5.15, Modules; few locals: 5.5.13, Code Section; few imports and
  -- bodies: this project's own
  pub types_exist : All (λ t. t < length m.types) (functions m)
  pub as_many_bodies : length m.bodies ≡ length m.functions
  pub few_imports_and_bodies : length m.imports + length m.bodies < 2 ^ 32
  pub few_locals : All (λ b. local_count b < 2 ^ 32) m.bodies
  -- 3.2.3, Table Types, 3.2.4, Memory Types, and 3.4.10, Modules
  pub one_table : length (tables m) ≤ 1
  pub one_memory : length (memories m) ≤ 1
  pub tables_rise : All Rising (tables m)
  pub memories_rise : All Rising (memories m)
  pub memories_within : All WithinPages (memories m)
  -- 3.4.10, Modules: globals are checked in a context whose globals are the imported ones, so the initial value of one (3.4.4,
  -- Globals) names no others
  pub globals_constant : All (λ d. IsConstant (imported_globals m) d.kind.value d.init) m.globals
  pub elements_ok : All (ElementOk m) m.elements
  pub segments_ok : All (SegmentOk m) m.segments
  pub start_ok : StartOk m m.start
  -- 3.4.8, Exports, and 3.4.10, Modules
  pub exports_exist : All (λ (e : Export). e.index < count_of m e.kind) m.exports
  pub exports_differ : AllPairs (λ a b. a ≢ b) (map (λ e. e.name) m.exports)
  pub no_float : has_float m ≡ false

-- 3.4.1, Functions: locals are the parameters, and behind them the groups written out
abbrev pub locals_of : FuncType → Body → List ValType
locals_of t b = t.params ++ flat_map (λ g. replicate g.count g.kind) b.locals

abbrev pub context_of : Module → FuncType → Body → Context
context_of m t b =
    record {
      types = m.types;
      functions = function_types m;
      globals = globals m;
      has_table = nat_lt 0 (length (tables m));
      has_memory = nat_lt 0 (length (memories m));
      locals = locals_of t b;
      labels = t.results ∷ [];
      results = t.results;
    }

-- function k, the imported ones counted, has this type and this body
pub record HasBody (m : Module) (k : ℕ) (t : FuncType) (b : Body) : Type 0 where
  pub place : ℕ
  pub behind_imports : k ≡ length (imported_functions m) + place
  pub type : slice_get (function_types m) k ≡ Some t
  pub body : slice_get m.bodies place ≡ Some b

-- the body of function k is typed; an imported function has none
abbrev pub BodyTyped : Module → ℕ → Type 0
BodyTyped m k = (t : FuncType) (b : Body) → HasBody m k t b → IsTyped (context_of m t b) b.code

-- of a module that keeps the rules, function k is the first whose body is untyped
pub record FirstUntyped (m : Module) (k : ℕ) : Type 0 where
  pub rules : RulesHold m
  pub untyped : BodyTyped m k → ⊥
  pub before : (j : ℕ) → j < k → BodyTyped m j

pub record Valid (m : Module) : Type 0 where
  pub rules : RulesHold m
  pub bodies_typed : (k : ℕ) → BodyTyped m k
