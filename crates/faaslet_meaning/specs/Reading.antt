-- Reading from the front of a list of bytes: what was read and the bytes behind it, or nothing where the bytes begin
-- with no spelling. This project's own: these are no definitions, but the functions on lists by which the laws of the
-- grammar are proved, in `proofs/Readers` and the files that follow it. Contracts of the readers that one crate of decoding
-- lends to the next name them too.
use Rattle.std.specs.Prelude.{ℕ, zero, suc, ℤ, pos, length, take, drop, ◌+ℤ◌, ◌-ℤ◌, ◌*ℤ◌, ◌+◌, ◌-◌, ◌*◌, ◌^◌, List, [], ◌∷◌, Option, Some, None, nat_lt, nat_le, ◌==◌, ◌&&◌, if◌then◌else◌}
use Rattle.std.specs.Int.{Width, w32, w64, byte_len, from_le_bytes}
use Rattle.faaslet_meaning.specs.declared.instr.ValType.{ValType}
use Rattle.faaslet_meaning.specs.declared.instr.ValType.TheVariants.{I32, I64, F32, F64}
use Rattle.faaslet_meaning.specs.declared.instr.Instr.{Instr}
use Rattle.faaslet_meaning.specs.declared.instr.Instr.TheVariants.{Unreachable, Nop, Block, Loop, If, Else, End, Br, BrIf, BrTable, Return, Call, CallIndirect, Drop, Select, LocalGet, LocalSet, LocalTee, GlobalGet, GlobalSet, Load, Store, MemorySize, MemoryGrow, I32Const, I64Const, F32Const, F64Const, Num}

abbrev pub Read : Type 0 → Type 0
Read A = Option (A × List ℕ)

infixl 10 ◌>>=◌
abbrev pub ◌>>=◌ : {A B : Type 0} → Option A → (A → Option B) → Option B
(Some x) >>= f = f x
None >>= f = None

-- the same, with f of what was read
abbrev pub mapped : {A B : Type 0} → (A → B) → Read A → Read B
mapped f (Some x) = Some (f x.0, x.1)
mapped f None = None

unfoldable pub byte_at : List ℕ → Read ℕ
byte_at [] = None
byte_at (b ∷ rest) = Some (b, rest)

unfoldable pub unsigned_at : ℕ → List ℕ → Read ℕ
unsigned_at bits [] = None
unsigned_at bits (b ∷ rest) = if nat_lt b 128 then (if nat_lt b (2 ^ bits) then Some (b, rest) else None) else (if nat_lt 7 bits then mapped (λ m. b + 128 * m - 128) (unsigned_at (bits - 7) rest) else None)

unfoldable pub signed_at : ℕ → List ℕ → Read ℤ
signed_at bits [] = None
signed_at bits (b ∷ rest) = if nat_lt b 64 then (if nat_lt b (2 ^ (bits - 1)) then Some (pos b, rest) else None) else if nat_lt b 128 then (if nat_lt (127 - b) (2 ^ (bits - 1)) then Some (pos b -ℤ pos 128, rest) else None) else (if nat_lt 7 bits then mapped (λ m. pos b +ℤ pos 128 *ℤ m -ℤ pos 128) (signed_at (bits - 7) rest) else None)

unfoldable pub many_at : {A : Type 0} → (List ℕ → Read A) → ℕ → List ℕ → Read (List A)
many_at at zero bytes = Some ([], bytes)
many_at at (suc n) bytes = do
  x ← at bytes
  mapped (λ xs. x.0 ∷ xs) (many_at at n x.1)

unfoldable pub vec_at : {A : Type 0} → (List ℕ → Read A) → List ℕ → Read (List A)
vec_at at bytes = do
  n ← unsigned_at 32 bytes
  many_at at n.0 n.1

-- just this byte
unfoldable pub tag_at : ℕ → List ℕ → Read ℕ
tag_at k bytes = do
  b ← byte_at bytes
  if b.0 == k then Some b else None

-- so many bytes, as a number with the lowest first
unfoldable pub le_bytes_at : Width → List ℕ → Read ℕ
le_bytes_at w bytes = if nat_lt (length bytes) (byte_len w) then None else Some (from_le_bytes w (take (byte_len w) bytes), drop (byte_len w) bytes)

unfoldable pub val_type_at : List ℕ → Read ValType
val_type_at bytes = do
  b ← byte_at bytes
  if b.0 == 0x7F then Some (I32, b.1) else if b.0 == 0x7E then Some (I64, b.1) else if b.0 == 0x7D then Some (F32, b.1) else if b.0 == 0x7C then Some (F64, b.1) else None

unfoldable pub block_type_at : List ℕ → Read (Option ValType)
block_type_at bytes = do
  b ← byte_at bytes
  if b.0 == 0x40 then Some (None, b.1) else mapped (λ t. Some t) (val_type_at bytes)

-- instructions of one byte
unfoldable pub bare_at : ℕ → List ℕ → Read Instr
bare_at b rest =
    if b == 0x00 then Some (Unreachable, rest)
    else if b == 0x01 then Some (Nop, rest)
    else if b == 0x05 then Some (Else, rest)
    else if b == 0x0B then Some (End, rest)
    else if b == 0x0F then Some (Return, rest)
    else if b == 0x1A then Some (Drop, rest)
    else if b == 0x1B then Some (Select, rest)
    else None

-- blocks
unfoldable pub block_at : ℕ → List ℕ → Read Instr
block_at b rest =
    if b == 0x02 then mapped (λ t. Block t) (block_type_at rest)
    else if b == 0x03 then mapped (λ t. Loop t) (block_type_at rest)
    else if b == 0x04 then mapped (λ t. If t) (block_type_at rest)
    else None

-- instructions with one index
unfoldable pub index_at : ℕ → List ℕ → Read Instr
index_at b rest =
    if b == 0x0C then mapped (λ n. Br n) (unsigned_at 32 rest)
    else if b == 0x0D then mapped (λ n. BrIf n) (unsigned_at 32 rest)
    else if b == 0x10 then mapped (λ n. Call n) (unsigned_at 32 rest)
    else if b == 0x20 then mapped (λ n. LocalGet n) (unsigned_at 32 rest)
    else if b == 0x21 then mapped (λ n. LocalSet n) (unsigned_at 32 rest)
    else if b == 0x22 then mapped (λ n. LocalTee n) (unsigned_at 32 rest)
    else if b == 0x23 then mapped (λ n. GlobalGet n) (unsigned_at 32 rest)
    else if b == 0x24 then mapped (λ n. GlobalSet n) (unsigned_at 32 rest)
    else None

-- two numbers
unfoldable pub pair_at : List ℕ → Read (ℕ × ℕ)
pair_at bytes = do
  align ← unsigned_at 32 bytes
  mapped (λ offset. (align.0, offset)) (unsigned_at 32 align.1)

-- a load or a store
unfoldable pub access_at : ℕ → List ℕ → Read Instr
access_at b rest =
    if nat_le b 0x35 then mapped (λ m. Load b m.0 m.1) (pair_at rest) else mapped (λ m. Store b m.0 m.1) (pair_at rest)

-- constants
unfoldable pub const_at : ℕ → List ℕ → Read Instr
const_at b rest =
    if b == 0x41 then mapped (λ n. I32Const n) (signed_at 32 rest)
    else if b == 0x42 then mapped (λ n. I64Const n) (signed_at 64 rest)
    else if b == 0x43 then mapped (λ n. F32Const n) (le_bytes_at w32 rest)
    else if b == 0x44 then mapped (λ n. F64Const n) (le_bytes_at w64 rest)
    else None

-- the others
unfoldable pub other_at : ℕ → List ℕ → Read Instr
other_at b rest =
    if b == 0x0E then (do
      labels ← vec_at (unsigned_at 32) rest
      mapped (λ n. BrTable labels.0 n) (unsigned_at 32 labels.1))
    else if b == 0x11 then (do
      kind ← unsigned_at 32 rest
      mapped (λ _. CallIndirect kind.0) (tag_at 0x00 kind.1))
    else if b == 0x3F then mapped (λ _. MemorySize) (tag_at 0x00 rest)
    else if b == 0x40 then mapped (λ _. MemoryGrow) (tag_at 0x00 rest)
    else None

-- one flat instruction
unfoldable pub instr_at : List ℕ → Read Instr
instr_at bytes = do
  b ← byte_at bytes
  if nat_le 0x45 b.0 && nat_le b.0 0xBF then Some (Num b.0, b.1)
      else if nat_le 0x28 b.0 && nat_le b.0 0x3E then access_at b.0 b.1
      else if nat_le 0x41 b.0 && nat_le b.0 0x44 then const_at b.0 b.1
      else if nat_le 0x20 b.0 && nat_le b.0 0x24 then index_at b.0 b.1
      else if b.0 == 0x0C then index_at b.0 b.1
      else if b.0 == 0x0D then index_at b.0 b.1
      else if b.0 == 0x10 then index_at b.0 b.1
      else if nat_le 0x02 b.0 && nat_le b.0 0x04 then block_at b.0 b.1
      else if b.0 == 0x0E then other_at b.0 b.1
      else if b.0 == 0x11 then other_at b.0 b.1
      else if nat_le 0x3F b.0 && nat_le b.0 0x40 then other_at b.0 b.1
      else bare_at b.0 b.1
