-- What one instruction makes of the open blocks, or nothing where it may not stand there. This project's own: functions on
-- lists, which the walk over a body follows, and no definitions.
use Rattle.std.specs.Prelude.{ℕ, Bool, true, false, ◌&&◌, nat_le, List, [], ◌∷◌, Option, Some, None, cond, slice_get, reverse, option_and_then, option_map}
use Rattle.faaslet_meaning.specs.declared.instr.ValType.{ValType}
use Rattle.faaslet_meaning.specs.declared.instr.ValType.TheVariants.{I32, I64}
use Rattle.faaslet_meaning.specs.declared.module.GlobalType.{GlobalType}
use Rattle.faaslet_meaning.specs.declared.instr.Instr.{Instr}
use Rattle.faaslet_meaning.specs.declared.instr.Instr.TheVariants.{Unreachable, Nop, Block, Loop, If, Else, End, Br, BrIf, BrTable, Return, Call, Drop, Select, LocalGet, LocalSet, LocalTee, I32Const, I64Const, F32Const, F64Const, Num, GlobalGet, GlobalSet, Load, Store, MemorySize, MemoryGrow, CallIndirect}
use Rattle.faaslet_meaning.specs.Typing.{Context}
use Rattle.faaslet_meaning.specs.Tree.{types_of}
use Rattle.wasm_validate.specs.declared.opcodes.Access.{Access}
use Rattle.wasm_validate.specs.Opcodes.{signature_at, operands, load_at, store_at}
use Rattle.wasm_validate.specs.declared.kind.Kind.{Kind}
use Rattle.wasm_validate.specs.declared.kind.Kind.TheVariants.{Body, Again, Choice}
use Rattle.wasm_validate.specs.Frames.{Frame, same, may_be, push, push_type, pop_any, pop, pops, dead, opened, close, label_of}

abbrev pub pushes : List ValType → List Frame → List Frame
pushes [] fs = fs
pushes (t ∷ ts) fs = push (Some t) (pushes ts fs)

-- takes operands of the types ps and leaves some of the types qs, both topmost first
abbrev pub arrow : List ValType → List ValType → List Frame → Option (List Frame)
arrow ps qs fs = option_map (pushes qs) (pops ps fs)

abbrev pub label : ℕ → List Frame → Option (Option ValType)
label n fs = option_map label_of (slice_get fs n)

abbrev pub same_type : Option ValType → Option ValType → Bool
same_type None None = true
same_type (Some s) (Some t) = same s t
same_type _ _ = false

abbrev pub is_label : Option ValType → Option (Option ValType) → Bool
is_label t None = false
is_label t (Some s) = same_type s t

abbrev pub all_labels : Option ValType → List ℕ → List Frame → Bool
all_labels t [] fs = true
all_labels t (n ∷ ns) fs = is_label t (label n fs) && all_labels t ns fs

-- a branch that is always taken
abbrev pub leaves_by : List ValType → List Frame → Option (List Frame)
leaves_by ps fs = option_map dead (pops ps fs)

abbrev pub chosen : Option ValType → Option ValType → List Frame → Option (List Frame)
chosen None o fs = Some (push o fs)
chosen (Some t) o fs = cond (may_be o t) (Some (push (Some t) fs)) None

abbrev pub select_second : Option ValType × List Frame → Option (List Frame)
select_second x = option_and_then (λ y. chosen x.0 y.0 y.1) (pop_any x.1)

abbrev pub select_first : List Frame → Option (List Frame)
select_first fs = option_and_then select_second (pop_any fs)

abbrev pub other : Kind → Option ValType → List Frame → Option (List Frame)
other Choice t fs = Some (opened Body t fs)
other Body t fs = None
other Again t fs = None

abbrev pub end : Kind → Option ValType → List Frame → Option (List Frame)
end Choice None fs = Some fs
end Choice (Some t) fs = None
end Body t fs = Some (push_type t fs)
end Again t fs = Some (push_type t fs)

abbrev pub other_side : (Kind × Option ValType) × List Frame → Option (List Frame)
other_side x = other x.0.0 x.0.1 x.1

abbrev pub ended : (Kind × Option ValType) × List Frame → Option (List Frame)
ended x = end x.0.0 x.0.1 x.1

-- the type of a global that may be set
abbrev pub if_mutable : GlobalType → Option ValType
if_mutable g = cond g.mutable (Some g.value) None

abbrev pub settable : Context → ℕ → Option ValType
settable s k = option_and_then if_mutable (slice_get s.globals k)

-- the type that is loaded or stored, where there is a memory and the alignment is not too large
abbrev pub if_aligned : Bool → ℕ → Access → Option ValType
if_aligned memory align a = cond (memory && nat_le align a.align) (Some a.value) None

abbrev pub accessed : Context → Option Access → ℕ → Option ValType
accessed s o align = option_and_then (if_aligned s.has_memory align) o

abbrev pub go_at : Context → Instr → List Frame → Option (List Frame)
go_at s Unreachable fs = Some (dead fs)
go_at s Nop fs = Some fs
go_at s (Block t) fs = Some (opened Body t fs)
go_at s (Loop t) fs = Some (opened Again t fs)
go_at s (If t) fs = option_map (opened Choice t) (pop I32 fs)
go_at s Else fs = option_and_then other_side (close fs)
go_at s End fs = option_and_then ended (close fs)
go_at s (Br n) fs = option_and_then (λ t. leaves_by (types_of t) fs) (label n fs)
go_at s (BrIf n) fs = option_and_then (λ t. arrow (I32 ∷ types_of t) (types_of t) fs) (label n fs)
go_at s (BrTable ns n) fs = option_and_then (λ t. cond (all_labels t ns fs) (leaves_by (I32 ∷ types_of t) fs) None) (label n fs)
go_at s Return fs = leaves_by s.results fs
go_at s (Call f) fs = option_and_then (λ g. arrow (reverse g.params) (g.results) fs) (slice_get s.functions f)
go_at s Drop fs = option_map (λ x. x.1) (pop_any fs)
go_at s Select fs = option_and_then select_first (pop I32 fs)
go_at s (LocalGet k) fs = option_map (λ t. push (Some t) fs) (slice_get s.locals k)
go_at s (LocalSet k) fs = option_and_then (λ t. arrow (t ∷ []) [] fs) (slice_get s.locals k)
go_at s (LocalTee k) fs = option_and_then (λ t. arrow (t ∷ []) (t ∷ []) fs) (slice_get s.locals k)
go_at s (I32Const n) fs = Some (push (Some I32) fs)
go_at s (I64Const n) fs = Some (push (Some I64) fs)
go_at s (F32Const n) fs = None
go_at s (F64Const n) fs = None
go_at s (GlobalGet k) fs = option_and_then (λ g. arrow [] (g.value ∷ []) fs) (slice_get s.globals k)
go_at s (GlobalSet k) fs = option_and_then (λ t. arrow (t ∷ []) [] fs) (settable s k)
go_at s (Load op align offset) fs = option_and_then (λ t. arrow (I32 ∷ []) (t ∷ []) fs) (accessed s (load_at op) align)
go_at s (Store op align offset) fs = option_and_then (λ t. arrow (t ∷ (I32 ∷ [])) [] fs) (accessed s (store_at op) align)
go_at s MemorySize fs = cond s.has_memory (arrow [] (I32 ∷ []) fs) None
go_at s MemoryGrow fs = cond s.has_memory (arrow (I32 ∷ []) (I32 ∷ []) fs) None
go_at s (CallIndirect k) fs = option_and_then (λ g. arrow (I32 ∷ reverse g.params) (g.results) fs) (cond s.has_table (slice_get s.types k) None)
go_at s (Num op) fs = option_and_then (λ g. arrow (operands g.operand g.two) (g.leaves ∷ []) fs) (signature_at op)

-- nothing may follow the end of the body
abbrev pub step_at : Context → Instr → List Frame → Option (List Frame)
step_at s i [] = None
step_at s i (f ∷ fs) = go_at s i (f ∷ fs)

abbrev pub run_at : Context → List Instr → List Frame → Option (List Frame)
run_at s [] fs = Some fs
run_at s (i ∷ is) fs = option_and_then (run_at s is) (step_at s i fs)
