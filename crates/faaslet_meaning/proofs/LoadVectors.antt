-- What each load gives from bytes whose highest digit is set, and from others, and what each store writes. The expected
-- numbers were computed apart from the definitions, with another language's conversions of bytes.
use Rattle.std.proofs.Common.{◌≡◌, ℕ, List, [], ◌∷◌, refl, Option, Some, None, take}
use Rattle.faaslet_meaning.specs.LoadStore.{Load, load_of, load_size, loaded, store_of, bytes_of}

abbrev value : Option Load → List ℕ → Option ℕ
value None bytes = None
value (Some l) bytes = Some (loaded l (take (load_size l) bytes))

abbrev values : List ℕ → List ℕ → List (Option ℕ)
values [] bytes = []
values (op ∷ ops) bytes = value (load_of op) bytes ∷ values ops bytes

abbrev somes : List ℕ → List (Option ℕ)
somes [] = []
somes (n ∷ ns) = Some n ∷ somes ns

abbrev written : ℕ → Option ℕ → List ℕ
written x None = []
written x (Some n) = bytes_of n x

abbrev all_written : ℕ → List ℕ → List (List ℕ)
all_written x [] = []
all_written x (op ∷ ops) = written x (store_of op) ∷ all_written x ops

abbrev loads : List ℕ
loads = 0x28 ∷ 0x29 ∷ 0x2C ∷ 0x2D ∷ 0x2E ∷ 0x2F ∷ 0x30 ∷ 0x31 ∷ 0x32 ∷ 0x33 ∷ 0x34 ∷ 0x35 ∷ []

abbrev stores : List ℕ
stores = 0x36 ∷ 0x37 ∷ 0x3A ∷ 0x3B ∷ 0x3C ∷ 0x3D ∷ 0x3E ∷ []

high : values loads (0x81 ∷ 0x92 ∷ 0xA3 ∷ 0xB4 ∷ 0xC5 ∷ 0xD6 ∷ 0xE7 ∷ 0xF8 ∷ [])
    ≡ somes (0xB4A39281 ∷ 0xF8E7D6C5B4A39281 ∷ 0xFFFFFF81 ∷ 0x81 ∷ 0xFFFF9281 ∷ 0x9281 ∷ 0xFFFFFFFFFFFFFF81 ∷ 0x81 ∷ 0xFFFFFFFFFFFF9281 ∷ 0x9281 ∷ 0xFFFFFFFFB4A39281 ∷ 0xB4A39281 ∷ [])
high = refl

not_high : values loads (0x7F ∷ 0x6E ∷ 93 ∷ 76 ∷ 59 ∷ 42 ∷ 25 ∷ 8 ∷ [])
    ≡ somes (0x4C5D6E7F ∷ 0x8192A3B4C5D6E7F ∷ 0x7F ∷ 0x7F ∷ 0x6E7F ∷ 0x6E7F ∷ 0x7F ∷ 0x7F ∷ 0x6E7F ∷ 0x6E7F ∷ 0x4C5D6E7F ∷ 0x4C5D6E7F ∷ [])
not_high = refl

ones : values loads (0xFF ∷ 0xFF ∷ 0xFF ∷ 0xFF ∷ 0xFF ∷ 0xFF ∷ 0xFF ∷ 0xFF ∷ [])
    ≡ somes (0xFFFFFFFF ∷ 0xFFFFFFFFFFFFFFFF ∷ 0xFFFFFFFF ∷ 0xFF ∷ 0xFFFFFFFF ∷ 0xFFFF ∷ 0xFFFFFFFFFFFFFFFF ∷ 0xFF ∷ 0xFFFFFFFFFFFFFFFF ∷ 0xFFFF ∷ 0xFFFFFFFFFFFFFFFF ∷ 0xFFFFFFFF ∷ [])
ones = refl

stored : all_written 0x123456789ABCDEF stores
    ≡ (0xEF ∷ 0xCD ∷ 0xAB ∷ 0x89 ∷ []) ∷ (0xEF ∷ 0xCD ∷ 0xAB ∷ 0x89 ∷ 0x67 ∷ 69 ∷ 35 ∷ 1 ∷ []) ∷ (0xEF ∷ []) ∷ (0xEF ∷ 0xCD ∷ []) ∷ (0xEF ∷ []) ∷ (0xEF ∷ 0xCD ∷ []) ∷ (0xEF ∷ 0xCD ∷ 0xAB ∷ 0x89 ∷ []) ∷ []
stored = refl

none : values (0x27 ∷ 0x2A ∷ 0x2B ∷ 0x36 ∷ []) (1 ∷ []) ≡ None ∷ None ∷ None ∷ None ∷ []
none = refl

no_store : all_written 1 (0x35 ∷ 0x38 ∷ 0x39 ∷ 0x3F ∷ []) ≡ [] ∷ [] ∷ [] ∷ [] ∷ []
no_store = refl
