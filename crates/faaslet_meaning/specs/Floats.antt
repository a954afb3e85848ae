-- Modules with floats, which are not run. This project's own; the types and opcodes are those of W3C WebAssembly Core
-- Specification 1.0, sections 5.3.1, Value Types, 5.4.4, Memory Instructions, and 5.4.5, Numeric Instructions.
use Rattle.std.specs.Prelude.{ℕ, Bool, true, false, List, Option, Some, None, IsTrue, nat_le, ◌==◌, ◌&&◌, ◌||◌}
use Rattle.std.specs.List.{list_any}
use Rattle.faaslet_meaning.specs.declared.instr.ValType.{ValType}
use Rattle.faaslet_meaning.specs.declared.instr.ValType.TheVariants.{I32, I64, F32, F64}
use Rattle.faaslet_meaning.specs.declared.instr.Instr.{Instr}
use Rattle.faaslet_meaning.specs.declared.instr.Instr.TheVariants.{Block, Loop, If, Load, Store, F32Const, F64Const, Num}
use Rattle.faaslet_meaning.specs.declared.module.ImportKind.{ImportKind}
use Rattle.faaslet_meaning.specs.declared.module.ImportKind.TheVariants.{Global}
use Rattle.faaslet_meaning.specs.declared.module.Module.{Module}

abbrev pub is_float : ValType → Bool
is_float I32 = false
is_float I64 = false
is_float F32 = true
is_float F64 = true

-- of a block, which may have no type
abbrev pub is_float_result : Option ValType → Bool
is_float_result None = false
is_float_result (Some t) = is_float t

-- a numeric opcode that takes or leaves a float
abbrev pub is_float_opcode : ℕ → Bool
is_float_opcode op =
    (nat_le 0x5B op && nat_le op 0x66) || ((nat_le 0x8B op && nat_le op 0xA6) || ((nat_le 0xA8 op && nat_le op 0xAB) || (nat_le 0xAE op && nat_le op 0xBF)))

abbrev pub is_float_instr : Instr → Bool
is_float_instr (Block t) = is_float_result t
is_float_instr (Loop t) = is_float_result t
is_float_instr (If t) = is_float_result t
is_float_instr (Load op align offset) = (op == 0x2A) || (op == 0x2B)
is_float_instr (Store op align offset) = (op == 0x38) || (op == 0x39)
is_float_instr (F32Const bits) = true
is_float_instr (F64Const bits) = true
is_float_instr (Num op) = is_float_opcode op
is_float_instr _ = false

abbrev pub is_float_code : List Instr → Bool
is_float_code code = list_any is_float_instr code

-- of an imported global
abbrev pub is_float_import : ImportKind → Bool
is_float_import (Global g) = is_float g.value
is_float_import _ = false

-- a float type or a float instruction stands somewhere in the module
abbrev pub has_float : Module → Bool
has_float m =
    list_any (λ t. list_any is_float t.params || list_any is_float t.results) m.types
    || (list_any (λ i. is_float_import i.kind) m.imports
    || (list_any (λ d. is_float d.kind.value || is_float_code d.init) m.globals
    || (list_any (λ e. is_float_code e.offset) m.elements
    || (list_any (λ b. list_any (λ g. is_float g.kind) b.locals || is_float_code b.code) m.bodies
    || list_any (λ s. is_float_code s.offset) m.segments))))

abbrev pub IsFloat : Module → Type 0
IsFloat m = IsTrue (has_float m)
