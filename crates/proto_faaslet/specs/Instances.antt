-- What instantiation writes, where each constant expression has a value. This project's own: that these are what the
-- definition makes of a valid module is proved in `proofs/Made`.
use Rattle.std.specs.Prelude.{◌≡◌, ℕ, ◌+◌, ◌*◌, ◌≤◌, List, [], ◌∷◌, ◌++◌, All, Option, Some, None, map, length, replicate, fold, unwrap_or}
use Rattle.faaslet_meaning.specs.declared.instr.Instr.{Instr}
use Rattle.faaslet_meaning.specs.declared.module.Module.{Module}
use Rattle.faaslet_meaning.specs.declared.module.GlobalDef.{GlobalDef}
use Rattle.faaslet_meaning.specs.declared.module.Element.{Element}
use Rattle.faaslet_meaning.specs.declared.module.Segment.{Segment}
use Rattle.faaslet_meaning.specs.declared.outcome.Broken.TheVariants as broken
use Rattle.faaslet_meaning.specs.Fresh.{Function, Store, Made, breaks, all_over}
use Rattle.faaslet_meaning.specs.Memory as memory
use Rattle.faaslet_meaning.specs.Memory.{Memory, private, page_size}
use Rattle.faaslet_meaning.specs.Program.{constant, table_size, memory_limits, first_memory}
use Rattle.proto_faaslet.specs.declared.fault.BuildFault.{BuildFault}
use Rattle.proto_faaslet.specs.declared.fault.BuildFault.TheVariants.{Broken, Want}
use Rattle.proto_faaslet.specs.declared.instantiation.Instance.{Instance}

-- the value of a constant expression
abbrev pub value_of : List ℕ → List Instr → ℕ
value_of globals code = unwrap_or (constant globals code) 0

abbrev pub with_global : List ℕ → GlobalDef → List ℕ
with_global globals d = globals ++ value_of globals d.init ∷ []

abbrev pub globals_of : List GlobalDef → List ℕ
globals_of ds = fold with_global [] ds

-- an offset, and what is written there
abbrev pub element_of : List ℕ → Element → ℕ × List (Option ℕ)
element_of globals e = (value_of globals e.offset, map (λ f. Some f) e.functions)

abbrev pub segment_of : List ℕ → Segment → ℕ × List ℕ
segment_of globals s = (value_of globals s.offset, s.bytes)

abbrev pub elements_of : Module → List (ℕ × List (Option ℕ))
elements_of m = map (element_of (globals_of m.globals)) m.elements

abbrev pub segments_of : Module → List (ℕ × List ℕ)
segments_of m = map (segment_of (globals_of m.globals)) m.segments

-- a piece fits, where there is place for n
abbrev pub Fits : {A : Type 0} → ℕ → ℕ × List A → Type 0
Fits n x = x.0 + length x.1 ≤ n

-- one private segment
abbrev pub IsOne : List memory.Segment → Type 0
IsOne [] = ⊥
IsOne (s ∷ []) = s.home ≡ private
IsOne (s ∷ t ∷ ss) = ⊥

-- a memory before its first page
abbrev pub no_pages : ℕ → Memory
no_pages quota = record { segments = record { home = private; pages = 0 } ∷ []; bytes = []; quota = quota }

abbrev pub table_of : Module → List (Option ℕ)
table_of m = all_over (replicate (table_size m) None) (elements_of m)

abbrev pub memory_of : Module → ℕ → Memory
memory_of m quota =
    let memory = first_memory m quota in
    record memory { bytes = all_over memory.bytes (segments_of m) }

-- everything fits that is written
pub record AllFit (m : Module) : Type 0 where
  pub elements : All (λ (e : Element). Fits (table_size m) (element_of (globals_of m.globals) e)) m.elements
  pub segments : All (λ (s : Segment). Fits ((memory_limits m).min * page_size) (segment_of (globals_of m.globals) s)) m.segments

-- what the code makes, with a memory
abbrev pub store_of : Instance → Memory → Store
store_of i memory = record { globals = i.globals; table = i.table; memory = memory }

-- what is made of a module that is written whole
pub record IsFilled (m : Module) (quota : ℕ) (i : Instance) (memory : Memory) : Type 0 where
  pub fit : AllFit m
  pub globals : i.globals ≡ globals_of m.globals
  pub table : i.table ≡ table_of m
  pub memory_is : memory ≡ memory_of m quota

abbrev pub CannotFill : Module → BuildFault → Type 0
CannotFill m (Broken kind) = (kind ≡ broken.Segment) × (AllFit m → ⊥)
CannotFill m Want = Unit {0}

-- ---- What is said of building, where the function has this module and this quota.

pub record IsOf (f : Function) (m : Module) (quota : ℕ) : Type 0 where
  pub code : f.code ≡ m
  pub quota_is : f.quota ≡ quota

-- the fault tells how the function is broken; want of memory tells nothing
abbrev pub IsFault : {A : Type 0} → BuildFault → Made A → Type 0
IsFault (Broken kind) a = a ≡ breaks kind
IsFault Want a = Unit {0}
