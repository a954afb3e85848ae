-- Typing of expressions. W3C WebAssembly Core Specification 1.0, sections 3.1, Conventions, and 3.3, Instructions. Types of
-- operands stand topmost first, while a function type has its last parameter last; a function has one result at most.
use Rattle.std.specs.Prelude.{◌≡◌, ℕ, ◌^◌, ◌≤◌, Bool, List, [], ◌∷◌, ◌++◌, Some, None, IsTrue, reverse, slice_get}
use Rattle.std.specs.Int.{Width, w64}
use Rattle.faaslet_meaning.specs.declared.instr.ValType.{ValType}
use Rattle.faaslet_meaning.specs.declared.instr.ValType.TheVariants.{I32, I64}
use Rattle.faaslet_meaning.specs.declared.instr.Instr.{Instr}
use Rattle.faaslet_meaning.specs.declared.instr.Instr.TheVariants.{Unreachable, Nop, Br, BrIf, BrTable, Return, Call, CallIndirect, Drop, Select, LocalGet, LocalSet, LocalTee, GlobalGet, GlobalSet, Load, Store, MemorySize, MemoryGrow, I32Const, I64Const, Num}
use Rattle.faaslet_meaning.specs.declared.module.FuncType.{FuncType}
use Rattle.faaslet_meaning.specs.declared.module.GlobalType.{GlobalType}
use Rattle.faaslet_meaning.specs.Integers.{Numeric, test, compare, unary, binary, convert, wrap, extend_s, extend_u, numeric_of}
use Rattle.faaslet_meaning.specs.LoadStore as bytes
use Rattle.faaslet_meaning.specs.LoadStore.{load_of, load_size, store_of, store_value}
use Rattle.faaslet_meaning.specs.Tree.{Tree, stop, plain, block, loop, if_then, if_else, IsWritten, types_of}

-- 3.1.1, Contexts. `labels` has the innermost first, and last that of the function itself. There is at most one
-- table, and at most one memory.
pub record Context : Type 0 where
  pub types : List FuncType
  pub functions : List FuncType
  pub globals : List GlobalType
  pub has_table : Bool
  pub has_memory : Bool
  pub locals : List ValType
  pub labels : List (List ValType)
  pub results : List ValType

abbrev pub value_of : Width → ValType
value_of w64 = I64
value_of _ = I32

-- 3.3.1, Numeric Instructions: the operands and the result
abbrev pub operands_of : Numeric → List ValType
operands_of (test w) = value_of w ∷ []
operands_of (compare f w) = value_of w ∷ value_of w ∷ []
operands_of (unary f w) = value_of w ∷ []
operands_of (binary f w) = value_of w ∷ value_of w ∷ []
operands_of (convert wrap) = I64 ∷ []
operands_of (convert extend_s) = I32 ∷ []
operands_of (convert extend_u) = I32 ∷ []

abbrev pub result_of : Numeric → ValType
result_of (test w) = I32
result_of (compare f w) = I32
result_of (unary f w) = value_of w
result_of (binary f w) = value_of w
result_of (convert wrap) = I32
result_of (convert extend_s) = I64
result_of (convert extend_u) = I64

-- the types that a branch to label n carries
abbrev pub LabelIs : Context → ℕ → List ValType → Type 0
LabelIs c n ls = slice_get c.labels n ≡ Some ls

abbrev pub LabelsAre : Context → List ℕ → List ValType → Type 0
LabelsAre c [] ls = Unit {0}
LabelsAre c (n ∷ ns) ls = LabelIs c n ls × LabelsAre c ns ls

abbrev pub Takes : List ValType → List ValType → List ValType → List ValType → Type 0
Takes ps qs takes leaves = (ps ≡ takes) × (qs ≡ leaves)

-- An instruction without blocks has the type ps → qs. Floats have none, nor have opcodes that name nothing.
abbrev pub HasType : Context → Instr → List ValType → List ValType → Type 0
-- 3.3.5, Control Instructions: after `unreachable`, `br`, `br_table` and `return` qs is any list, and so is ps below what is carried
HasType c Unreachable ps qs = Unit {0}
HasType c Nop ps qs = Takes ps qs [] []
HasType c (Br n) ps qs = (ls xs : List ValType) × LabelIs c n ls × (ps ≡ ls ++ xs)
HasType c (BrIf n) ps qs = (ls : List ValType) × LabelIs c n ls × Takes ps qs (I32 ∷ ls) ls
HasType c (BrTable ns n) ps qs = (ls xs : List ValType) × LabelsAre c ns ls × LabelIs c n ls × (ps ≡ I32 ∷ (ls ++ xs))
HasType c Return ps qs = (xs : List ValType) × (ps ≡ c.results ++ xs)
HasType c (Call f) ps qs = (g : FuncType) × (slice_get c.functions f ≡ Some g) × Takes ps qs (reverse g.params) g.results
HasType c (CallIndirect t) ps qs = (g : FuncType) × (slice_get c.types t ≡ Some g) × IsTrue c.has_table × Takes ps qs (I32 ∷ reverse g.params) g.results
-- 3.3.2, Parametric Instructions
HasType c Drop ps qs = (t : ValType) × Takes ps qs (t ∷ []) []
HasType c Select ps qs = (t : ValType) × Takes ps qs (I32 ∷ t ∷ t ∷ []) (t ∷ [])
-- 3.3.3, Variable Instructions
HasType c (LocalGet k) ps qs = (t : ValType) × (slice_get c.locals k ≡ Some t) × Takes ps qs [] (t ∷ [])
HasType c (LocalSet k) ps qs = (t : ValType) × (slice_get c.locals k ≡ Some t) × Takes ps qs (t ∷ []) []
HasType c (LocalTee k) ps qs = (t : ValType) × (slice_get c.locals k ≡ Some t) × Takes ps qs (t ∷ []) (t ∷ [])
HasType c (GlobalGet k) ps qs = (g : GlobalType) × (slice_get c.globals k ≡ Some g) × Takes ps qs [] (g.value ∷ [])
HasType c (GlobalSet k) ps qs = (g : GlobalType) × (slice_get c.globals k ≡ Some g) × IsTrue g.mutable × Takes ps qs (g.value ∷ []) []
-- 3.3.4, Memory Instructions: the alignment is at most the width of the access
HasType c (Load op align offset) ps qs = (l : bytes.Load) × (load_of op ≡ Some l) × IsTrue c.has_memory × (2 ^ align ≤ load_size l) × Takes ps qs (I32 ∷ []) (value_of l.value ∷ [])
HasType c (Store op align offset) ps qs = (n : ℕ) × (store_of op ≡ Some n) × IsTrue c.has_memory × (2 ^ align ≤ n) × Takes ps qs (value_of (store_value op) ∷ I32 ∷ []) []
HasType c MemorySize ps qs = IsTrue c.has_memory × Takes ps qs [] (I32 ∷ [])
HasType c MemoryGrow ps qs = IsTrue c.has_memory × Takes ps qs (I32 ∷ []) (I32 ∷ [])
-- 3.3.1, Numeric Instructions
HasType c (I32Const n) ps qs = Takes ps qs [] (I32 ∷ [])
HasType c (I64Const n) ps qs = Takes ps qs [] (I64 ∷ [])
HasType c (Num op) ps qs = (n : Numeric) × (numeric_of op ≡ Some n) × Takes ps qs (operands_of n) (result_of n ∷ [])
HasType c _ ps qs = ⊥

-- 3.3.6, Instruction Sequences: it takes operands of types ts and leaves us, and below what it takes anything may stand
pub record Effect (c : Context) (i : Instr) (ts us : List ValType) : Type 0 where
  pub takes : List ValType
  pub leaves : List ValType
  pub under : List ValType
  pub type : HasType c i takes leaves
  pub before : ts ≡ takes ++ under
  pub after : us ≡ leaves ++ under

abbrev pub with_label : Context → List ValType → Context
with_label c ls = record c { labels = ls ∷ c.labels }

-- 3.3.5 and 3.3.6: a sequence that begins with operands of types ts, the last argument, ends with exactly rs
abbrev pub Typed : Tree → Context → List ValType → List ValType → Type 0
Typed stop c rs ts = ts ≡ rs
Typed (plain i e) c rs ts = (us : List ValType) × Effect c i ts us × Typed e c rs us
Typed (block t b e) c rs ts = Typed b (with_label c (types_of t)) (types_of t) [] × Typed e c rs (types_of t ++ ts)
Typed (loop t b e) c rs ts = Typed b (with_label c []) (types_of t) [] × Typed e c rs (types_of t ++ ts)
Typed (if_then t b e) c rs ts = (us : List ValType) × (ts ≡ I32 ∷ us) × (t ≡ None) × Typed b (with_label c (types_of t)) (types_of t) [] × Typed e c rs (types_of t ++ us)
Typed (if_else t b d e) c rs ts = (us : List ValType) × (ts ≡ I32 ∷ us) × Typed b (with_label c (types_of t)) (types_of t) [] × Typed d (with_label c (types_of t)) (types_of t) [] × Typed e c rs (types_of t ++ us)

-- 3.3.7, Expressions: a flat list is a tree written out, and the tree is typed. A list that is no tree is untyped.
pub record IsTyped (c : Context) (code : List Instr) : Type 0 where
  pub tree : Tree
  pub is_written : IsWritten code tree
  pub typed : Typed tree c c.results []
