-- Numbers as bytes, the lowest first, and what each load and store reads and writes. W3C WebAssembly Core Specification
-- 1.0, sections 4.3.1 (storage), 4.4.4 (loads and stores) and 5.4.4 (opcodes), without those of floats.
use Rattle.std.specs.Prelude.{ℕ, zero, suc, ◌+◌, ◌*◌, ◌/◌, ◌%◌, Bool, true, false, List, [], ◌∷◌, Option, if◌then◌else◌, ◌==◌, ◌||◌}
use Rattle.std.specs.Int.{Width, w8, w16, w32, w64}
use mir.Val.{bits}
use Rattle.faaslet_meaning.specs.Integers.{signed, unsigned}
use Rattle.faaslet_meaning.specs.Lists.{row_at}

-- the number that these bytes spell
abbrev pub number : List ℕ → ℕ
number [] = 0
number (b ∷ bs) = b + 256 * number bs

-- the lowest n bytes of x
abbrev pub bytes_of : ℕ → ℕ → List ℕ
bytes_of zero x = []
bytes_of (suc n) x = x % 256 ∷ bytes_of n (x / 256)

-- the bits that a load takes from memory, those of the value that it gives, and whether it copies the sign into the
-- bits between
pub record Load : Type 0 where
  pub stored : Width
  pub value : Width
  pub signed : Bool

abbrev pub whole : Width → Load
whole w = record { stored = w; value = w; signed = false }

abbrev pub extend_s : Width → Width → Load
extend_s s v = record { stored = s; value = v; signed = true }

abbrev pub extend_u : Width → Width → Load
extend_u s v = record { stored = s; value = v; signed = false }

abbrev pub loads : List (ℕ × Load)
loads =
    (0x28, whole w32) ∷ (0x29, whole w64)
    ∷ (0x2C, extend_s w8 w32) ∷ (0x2D, extend_u w8 w32) ∷ (0x2E, extend_s w16 w32) ∷ (0x2F, extend_u w16 w32)
    ∷ (0x30, extend_s w8 w64) ∷ (0x31, extend_u w8 w64) ∷ (0x32, extend_s w16 w64) ∷ (0x33, extend_u w16 w64)
    ∷ (0x34, extend_s w32 w64) ∷ (0x35, extend_u w32 w64) ∷ []

-- the value that a store takes
abbrev pub store_value : ℕ → Width
store_value op = if (op == 0x36) || ((op == 0x3A) || (op == 0x3B)) then w32 else w64

-- how many bytes of it a store writes
abbrev pub stores : List (ℕ × ℕ)
stores = (0x36, 4) ∷ (0x37, 8) ∷ (0x3A, 1) ∷ (0x3B, 2) ∷ (0x3C, 1) ∷ (0x3D, 2) ∷ (0x3E, 4) ∷ []

abbrev pub load_of : ℕ → Option Load
load_of op = row_at loads op

abbrev pub store_of : ℕ → Option ℕ
store_of op = row_at stores op

abbrev pub load_size : Load → ℕ
load_size l = bits l.stored / 8

-- the value that these bytes give
abbrev pub loaded : Load → List ℕ → ℕ
loaded l bytes = if l.signed then unsigned l.value (signed l.stored (number bytes)) else number bytes
