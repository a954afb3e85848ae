-- The stacks of the validator as a list of open blocks, innermost first, each with the operands that were pushed since it
-- was opened. This project's own; after the appendix A.3, Validation Algorithm, of the W3C WebAssembly Core Specification 1.0.
use Rattle.std.specs.Prelude.{Bool, true, false, List, [], ◌∷◌, Option, Some, None, cond, option_and_then}
use Rattle.faaslet_meaning.specs.declared.instr.ValType.{ValType}
use Rattle.faaslet_meaning.specs.declared.instr.ValType.TheVariants.{I32, I64, F32, F64}
use Rattle.faaslet_meaning.specs.Tree.{types_of}
use Rattle.wasm_validate.specs.declared.kind.Kind.{Kind}
use Rattle.wasm_validate.specs.declared.kind.Kind.TheVariants.{Body, Again, Choice}

-- an operand of unknown type is None; below those of an unreachable block there may be any others
pub record Frame : Type 0 where
  pub kind : Kind
  pub ends : Option ValType
  pub unreachable : Bool
  pub operands : List (Option ValType)

abbrev pub same : ValType → ValType → Bool
same I32 I32 = true
same I64 I64 = true
same F32 F32 = true
same F64 F64 = true
same _ _ = false

-- whether an operand may have the type
abbrev pub may_be : Option ValType → ValType → Bool
may_be None t = true
may_be (Some s) t = same s t

abbrev pub with_operands : Frame → List (Option ValType) → Frame
with_operands f os = record f { operands = os }

abbrev pub push : Option ValType → List Frame → List Frame
push o [] = []
push o (f ∷ fs) = with_operands f (o ∷ f.operands) ∷ fs

abbrev pub push_type : Option ValType → List Frame → List Frame
push_type None fs = fs
push_type (Some t) fs = push (Some t) fs

abbrev pub any_of : Frame → List Frame → Bool → List (Option ValType) → Option (Option ValType × List Frame)
any_of f fs u (o ∷ os) = Some (o, with_operands f os ∷ fs)
any_of f fs true [] = Some (None, with_operands f [] ∷ fs)
any_of f fs false [] = None

abbrev pub pop_any : List Frame → Option (Option ValType × List Frame)
pop_any [] = None
pop_any (f ∷ fs) = any_of f fs f.unreachable f.operands

abbrev pub expected : ValType → Option ValType × List Frame → Option (List Frame)
expected t x = cond (may_be x.0 t) (Some x.1) None

abbrev pub pop : ValType → List Frame → Option (List Frame)
pop t fs = option_and_then (expected t) (pop_any fs)

-- topmost first
abbrev pub pops : List ValType → List Frame → Option (List Frame)
pops [] fs = Some fs
pops (t ∷ ts) fs = option_and_then (pops ts) (pop t fs)

abbrev pub dead : List Frame → List Frame
dead [] = []
dead (f ∷ fs) = record f { unreachable = true; operands = [] } ∷ fs

abbrev pub opened : Kind → Option ValType → List Frame → List Frame
opened k t fs = record { kind = k; ends = t; unreachable = false; operands = [] } ∷ fs

abbrev pub shut : Frame → List Frame → List (Option ValType) → Option ((Kind × Option ValType) × List Frame)
shut f fs [] = Some ((f.kind, f.ends), fs)
shut f fs (o ∷ os) = None

abbrev pub closed : List Frame → Option ((Kind × Option ValType) × List Frame)
closed [] = None
closed (f ∷ fs) = shut f fs f.operands

abbrev pub ends_of : List Frame → Option ValType
ends_of [] = None
ends_of (f ∷ fs) = f.ends

-- the innermost block is left: its results, and nothing else, are on the stack
abbrev pub close : List Frame → Option ((Kind × Option ValType) × List Frame)
close fs = option_and_then closed (pops (types_of (ends_of fs)) fs)

-- what a branch to the block carries
abbrev pub label_type : Kind → Option ValType → Option ValType
label_type Again t = None
label_type Body t = t
label_type Choice t = t

abbrev pub label_of : Frame → Option ValType
label_of f = label_type f.kind f.ends
