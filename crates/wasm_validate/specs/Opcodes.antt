-- What the numeric opcodes take and leave, and what the opcodes of memory move, as the validator looks them up. This
-- project's own: that they are the rows of the integer tables is proved in `proofs/Opcodes`.
use Rattle.std.specs.Prelude.{ℕ, Bool, true, false, ◌&&◌, ◌==◌, nat_le, if◌then◌else◌, List, [], ◌∷◌, Option, Some, None, option_map}
use Rattle.faaslet_meaning.specs.declared.instr.ValType.{ValType}
use Rattle.faaslet_meaning.specs.declared.instr.ValType.TheVariants.{I32, I64}
use Rattle.faaslet_meaning.specs.LoadStore as bytes
use Rattle.faaslet_meaning.specs.LoadStore.{load_of, load_size, store_of, store_value}
use Rattle.faaslet_meaning.specs.Typing.{value_of}
use Rattle.wasm_validate.specs.declared.opcodes.Access.{Access}
use Rattle.wasm_validate.specs.declared.opcodes.Signature.{Signature}

abbrev pub within : ℕ → ℕ → ℕ → Bool
within a b op = nat_le a op && nat_le op b

abbrev pub signature : ValType → Bool → ValType → Option Signature
signature t two u = Some (record { operand = t; two = two; leaves = u })

abbrev pub signature_at : ℕ → Option Signature
signature_at op =
    if op == 0x45 then signature I32 false I32
    else if op == 0x50 then signature I64 false I32
    else if within 0x46 0x4F op then signature I32 true I32
    else if within 0x51 0x5A op then signature I64 true I32
    else if within 0x67 0x69 op then signature I32 false I32
    else if within 0x79 0x7B op then signature I64 false I64
    else if within 0x6A 0x78 op then signature I32 true I32
    else if within 0x7C 0x8A op then signature I64 true I64
    else if op == 0xA7 then signature I64 false I32
    else if op == 0xAC then signature I32 false I64
    else if op == 0xAD then signature I32 false I64
    else None

abbrev pub operands : ValType → Bool → List ValType
operands t true = t ∷ t ∷ []
operands t false = t ∷ []

-- The greatest exponent of an alignment is that of the width. How many bytes a load or a store moves is a power of 2.
abbrev pub exponent : ℕ → ℕ
exponent n = if n == 8 then 3 else if n == 4 then 2 else if n == 2 then 1 else 0

abbrev pub load_access : bytes.Load → Access
load_access l = record { value = value_of l.value; align = exponent (load_size l) }

abbrev pub load_at : ℕ → Option Access
load_at op = option_map load_access (load_of op)

abbrev pub store_access : ℕ → ℕ → Access
store_access op n = record { value = value_of (store_value op); align = exponent n }

abbrev pub store_at : ℕ → Option Access
store_at op = option_map (store_access op) (store_of op)
