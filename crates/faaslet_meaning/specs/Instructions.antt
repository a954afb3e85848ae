-- How bytes spell instructions and expressions. W3C WebAssembly Core Specification 1.0, section 5.4, Instructions.
use Rattle.std.specs.Prelude.{◌≡◌, ℕ, ◌≤◌, length, List, [], ◌∷◌, ◌++◌, Option, Some, None}
use Rattle.std.specs.Int.{w32, w64, from_le_bytes}
use Rattle.faaslet_meaning.specs.declared.instr.ValType.{ValType}
use Rattle.faaslet_meaning.specs.declared.instr.ValType.TheVariants.{I32, I64, F32, F64}
use Rattle.faaslet_meaning.specs.declared.instr.Instr.{Instr}
use Rattle.faaslet_meaning.specs.declared.instr.Instr.TheVariants.{Unreachable, Nop, Block, Loop, If, Else, End, Br, BrIf, BrTable, Return, Call, CallIndirect, Drop, Select, LocalGet, LocalSet, LocalTee, GlobalGet, GlobalSet, Load, Store, MemorySize, MemoryGrow, I32Const, I64Const, F32Const, F64Const, Num}
use Rattle.faaslet_meaning.specs.Productions.{Byte, Nothing, ◌⨾◌}
use Rattle.faaslet_meaning.specs.Numbers.{IsU32, IsS32, IsS64, IsVec}
use Rattle.faaslet_meaning.specs.Tree.{Tree, stop, plain, block, loop, if_then, if_else, written}

-- 5.3.1, Value Types
abbrev pub IsValType : ValType → List ℕ → Type 0
IsValType I32 = Byte 0x7F
IsValType I64 = Byte 0x7E
IsValType F32 = Byte 0x7D
IsValType F64 = Byte 0x7C

-- 5.3.2, Result Types: of a block
abbrev pub IsBlockType : Option ValType → List ℕ → Type 0
IsBlockType None = Byte 0x40
IsBlockType (Some t) = IsValType t

-- 5.2.3, Floating-Point: the bits, the lowest byte first
abbrev pub IsF32 : ℕ → List ℕ → Type 0
IsF32 n bytes = (length bytes ≡ 4) × (n ≡ from_le_bytes w32 bytes)

abbrev pub IsF64 : ℕ → List ℕ → Type 0
IsF64 n bytes = (length bytes ≡ 8) × (n ≡ from_le_bytes w64 bytes)

-- an opcode of a range
abbrev pub ByteIn : ℕ → ℕ → ℕ → List ℕ → Type 0
ByteIn low high op bytes = (low ≤ op) × (op ≤ high) × Byte op bytes

-- 5.4.1 to 5.4.5: the instructions that hold no sequence. Alignment comes before offset.
abbrev pub IsInstr : Instr → List ℕ → Type 0
IsInstr Unreachable = Byte 0x00
IsInstr Nop = Byte 0x01
IsInstr (Br l) = Byte 0x0C ⨾ IsU32 l
IsInstr (BrIf l) = Byte 0x0D ⨾ IsU32 l
IsInstr (BrTable ls l) = Byte 0x0E ⨾ IsVec IsU32 ls ⨾ IsU32 l
IsInstr Return = Byte 0x0F
IsInstr (Call f) = Byte 0x10 ⨾ IsU32 f
IsInstr (CallIndirect t) = Byte 0x11 ⨾ IsU32 t ⨾ Byte 0x00
IsInstr Drop = Byte 0x1A
IsInstr Select = Byte 0x1B
IsInstr (LocalGet x) = Byte 0x20 ⨾ IsU32 x
IsInstr (LocalSet x) = Byte 0x21 ⨾ IsU32 x
IsInstr (LocalTee x) = Byte 0x22 ⨾ IsU32 x
IsInstr (GlobalGet x) = Byte 0x23 ⨾ IsU32 x
IsInstr (GlobalSet x) = Byte 0x24 ⨾ IsU32 x
IsInstr (Load op align offset) = ByteIn 0x28 0x35 op ⨾ IsU32 align ⨾ IsU32 offset
IsInstr (Store op align offset) = ByteIn 0x36 0x3E op ⨾ IsU32 align ⨾ IsU32 offset
IsInstr MemorySize = Byte 0x3F ⨾ Byte 0x00
IsInstr MemoryGrow = Byte 0x40 ⨾ Byte 0x00
IsInstr (I32Const n) = Byte 0x41 ⨾ IsS32 n
IsInstr (I64Const n) = Byte 0x42 ⨾ IsS64 n
IsInstr (F32Const n) = Byte 0x43 ⨾ IsF32 n
IsInstr (F64Const n) = Byte 0x44 ⨾ IsF64 n
IsInstr (Num op) = ByteIn 0x45 0xBF op
IsInstr (Block t) = λ _. ⊥
IsInstr (Loop t) = λ _. ⊥
IsInstr (If t) = λ _. ⊥
IsInstr Else = λ _. ⊥
IsInstr End = λ _. ⊥

-- 5.4.1, Control Instructions: sequences, with the blocks, loops and ifs among them
abbrev pub IsSequence : Tree → List ℕ → Type 0
IsSequence stop = Nothing
IsSequence (plain i rest) = IsInstr i ⨾ IsSequence rest
IsSequence (block t body rest) = Byte 0x02 ⨾ IsBlockType t ⨾ IsSequence body ⨾ Byte 0x0B ⨾ IsSequence rest
IsSequence (loop t body rest) = Byte 0x03 ⨾ IsBlockType t ⨾ IsSequence body ⨾ Byte 0x0B ⨾ IsSequence rest
IsSequence (if_then t body rest) = Byte 0x04 ⨾ IsBlockType t ⨾ IsSequence body ⨾ Byte 0x0B ⨾ IsSequence rest
IsSequence (if_else t body other rest) = Byte 0x04 ⨾ IsBlockType t ⨾ IsSequence body ⨾ Byte 0x05 ⨾ IsSequence other ⨾ Byte 0x0B ⨾ IsSequence rest

-- 5.4.6, Expressions: a sequence and its end, kept as the tree written out. So an if with an empty else is kept apart from one
-- without, for which the standard's abstract syntax has one form.
pub record IsExpression (code : List Instr) (bytes : List ℕ) : Type 0 where
  pub tree : Tree
  pub spells : (IsSequence tree ⨾ Byte 0x0B) bytes
  pub flat : code ≡ written tree ++ End ∷ []
