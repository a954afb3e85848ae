-- Configurations that are typed: no step from them lacks what it needs. This project's own; in form it follows the
-- appendix on soundness of the W3C WebAssembly Core Specification 1.0. Of values their number alone is kept, not their types.
use Rattle.std.specs.Prelude.{◌≡◌, ℕ, ◌+◌, Bool, true, false, List, [], ◌∷◌, ◌++◌, Option, Some, None, length, slice_get}
use Rattle.faaslet_meaning.specs.declared.instr.ValType.{ValType}
use Rattle.faaslet_meaning.specs.declared.module.FuncType.{FuncType}
use Rattle.faaslet_meaning.specs.declared.module.GlobalType.{GlobalType}
use Rattle.faaslet_meaning.specs.Tree.{Tree}
use Rattle.faaslet_meaning.specs.Memory.{Home, private, mapped, Piece, Access, reads, writes, Touch, touch_of}
use Rattle.faaslet_meaning.specs.HostCalls.{HostCall, state_size, state_used, get_state, append_state, input_size, chain_call, await_call, output_size, HostRow, host_rows, arity}
use Rattle.faaslet_meaning.specs.Configuration.{Func, hosted, defined, type_of, Program, Label, Frame, Configuration, Begun, load, store, Next, goes, ends, touches, calls, stuck}
use Rattle.faaslet_meaning.specs.Limits.{with_values}
use Rattle.faaslet_meaning.specs.MemoryRules.{under}
use Rattle.faaslet_meaning.specs.IndexSpaces.{function_types, globals}
use Rattle.faaslet_meaning.specs.declared.module.Module.{Module}
use Rattle.faaslet_meaning.specs.Typing.{Context, Typed, with_label}
use Rattle.faaslet_meaning.specs.Tree.{types_of}

-- what all contexts of a module share
pub record Ground : Type 0 where
  pub types : List FuncType
  pub functions : List FuncType
  pub globals : List GlobalType

abbrev pub ground : Context → Ground
ground c = record { types = c.types; functions = c.functions; globals = c.globals }

abbrev pub ground_of : Module → Ground
ground_of m = record { types = m.types; functions = function_types m; globals = globals m }

-- what a branch to a label needs, where its block ends with rs
abbrev pub AgainOk : Option Tree → Context → List ValType → List ValType → Type 0
AgainOk None c ls rs = ls ≡ rs
AgainOk (Some body) c ls rs = (ls ≡ []) × Typed body (with_label c ls) rs []

-- c has the labels outside
pub record LabelOk (l : Label) (c : Context) (ls rs outer : List ValType) : Type 0 where
  pub arity : l.arity ≡ length ls
  pub again : AgainOk l.again c ls rs
  pub types : List ValType
  pub under : length l.under ≡ length types
  pub after : Typed l.after c outer (rs ++ types)

-- the innermost sequence ends with rs
abbrev pub LabelsOk : List Label → Context → List (List ValType) → List ValType → Type 0
LabelsOk [] c (t ∷ []) rs = (t ≡ c.results) × (rs ≡ c.results)
LabelsOk (l ∷ ls) c (t ∷ ts) rs = (outer : List ValType) × LabelOk l (record c { labels = ts }) t rs outer × LabelsOk ls (record c { labels = ts }) ts outer
LabelsOk _ c _ rs = ⊥

-- a frame that waits for so many values more
pub record FrameOk (g : Ground) (f : Frame) (more : ℕ) : Type 0 where
  pub context : Context
  pub grounded : ground context ≡ g
  pub results : List ValType
  pub types : List ValType
  pub values : length f.values + more ≡ length types
  pub rest : Typed f.rest context results types
  pub labels : LabelsOk f.labels context context.labels results
  pub arity : f.arity ≡ length context.results
  pub locals : length f.locals ≡ length context.locals

abbrev pub FramesOk : Ground → List Frame → ℕ → Type 0
FramesOk g [] more = Unit {0}
FramesOk g (f ∷ fs) more = FrameOk g f more × FramesOk g fs f.arity

-- what is initialised in a table is a function
abbrev pub TableOk : Ground → List (Option ℕ) → Type 0
TableOk g table = (k f : ℕ) → slice_get table k ≡ Some (Some f) → (t : FuncType) × (slice_get g.functions f ≡ Some t)

-- what outlives the frames
abbrev pub Keeps : Ground → Configuration → Type 0
Keeps g c = (length c.globals ≡ length g.globals) × TableOk g c.table

-- a configuration whose topmost frame waits for so many values more
abbrev pub Waits : Ground → Configuration → ℕ → Type 0
Waits g c more = FramesOk g (c.frame ∷ c.callers) more × Keeps g c

abbrev pub ConfigOk : Ground → Configuration → Type 0
ConfigOk g c = Waits g c 0

pub record BodyOk (g : Ground) (t : FuncType) (locals : ℕ) (body : Tree) : Type 0 where
  pub context : Context
  pub grounded : ground context ≡ g
  pub labels : context.labels ≡ t.results ∷ []
  pub results : context.results ≡ t.results
  pub count : length context.locals ≡ length t.params + locals
  pub typed : Typed body context t.results []

-- a host call's row has as many parameters and results as its type
pub record HostOk (number : ℕ) (t : FuncType) : Type 0 where
  pub row : HostRow
  pub row_is : slice_get host_rows number ≡ Some row
  pub params : arity row.form ≡ length t.params
  pub results : length (types_of row.result) ≡ length t.results

abbrev pub FuncOk : Ground → Func → Type 0
FuncOk g (hosted n t) = HostOk n t
FuncOk g (defined t locals body) = BodyOk g t locals body

pub record ProgramOk (p : Program) (g : Ground) : Type 0 where
  pub types : p.types ≡ g.types
  pub functions : (k : ℕ) (t : FuncType) → slice_get g.functions k ≡ Some t → (f : Func) × (slice_get p.functions k ≡ Some f) × (type_of f ≡ t) × FuncOk g f

-- A read or a write that has begun: the pieces of a read that are still to come are shared, and of a write the next one.
abbrev pub IsShared : Home → Type 0
IsShared private = ⊥
IsShared (mapped k) = Unit {0}

abbrev pub AllShared : List Piece → Type 0
AllShared [] = Unit {0}
AllShared (p ∷ ps) = IsShared p.home × AllShared ps

abbrev pub ReadOk : Access → Type 0
ReadOk (reads at n left copy) = AllShared left
ReadOk (writes left bytes) = ⊥

abbrev pub WriteOk : Access → Type 0
WriteOk (writes [] bytes) = Unit {0}
WriteOk (writes (p ∷ ps) bytes) = IsShared p.home
WriteOk (reads at n left copy) = ⊥

abbrev pub Stands : Access → Type 0
Stands a = (t : Touch) × (touch_of a ≡ Some t)

-- at a shared piece the operands still stand
abbrev pub BegunOk : Ground → Configuration → Begun → Type 0
BegunOk g c (load l a) = ReadOk a × Stands a × ConfigOk g (with_values c (0 ∷ under 1 c))
BegunOk g c (store a) = WriteOk a × Stands a × ConfigOk g (with_values c (under 2 c))

-- the host calls that have a result
abbrev pub has_result : HostCall → Bool
has_result (state_size k) = true
has_result (state_used k) = true
has_result (get_state k) = true
has_result (append_state k ptr len) = true
has_result input_size = true
has_result (chain_call f ptr len) = true
has_result (await_call c) = true
has_result (output_size c) = true
has_result _ = false

abbrev pub count : Bool → ℕ
count true = 1
count false = 0

-- at a host call the operands are gone, and its result is awaited where it has one
abbrev pub NextOk : Ground → Next → Type 0
NextOk g (goes c) = ConfigOk g c
NextOk g (ends c o) = Keeps g c
NextOk g (touches c b) = BegunOk g c b
NextOk g (calls c h) = Waits g c (count (has_result h))
NextOk g stuck = ⊥
