-- Integers in LEB128. W3C WebAssembly Core Specification 1.0, section 5.2.2, Integers: the rules uN and sN.
use Rattle.std.specs.Prelude.{◌≡◌, ℕ, ℤ, pos, ◌+ℤ◌, ◌*ℤ◌, ◌+◌, ◌-◌, ◌*◌, ◌^◌, ◌<◌, ◌≤◌, ◌⊎◌, List, [], ◌∷◌, length}
use Rattle.faaslet_meaning.specs.Productions.{◌⨾◌, IsMany}

-- uN. A byte below 128 is the last and stands for itself, where that fits the bits that are left. One from 128 on, which
-- stands only where more than seven bits are left, has the low seven, and the bytes after it spell the rest, as a number of
-- seven bits fewer.
abbrev pub IsUnsigned : ℕ → ℕ → List ℕ → Type 0
IsUnsigned bits n [] = ⊥
IsUnsigned bits n (b ∷ []) = (b < 128) × (b < 2 ^ bits) × (n ≡ b)
IsUnsigned bits n (b ∷ c ∷ bs) = (7 < bits) × (128 ≤ b) × (m : ℕ) × (n + 128 ≡ b + 128 * m) × IsUnsigned (bits - 7) m (c ∷ bs)

-- sN. A last byte below 64 stands for itself, and one from 64 to 127 for 128 less, where that fits the bits that
-- are left. An uninterpreted iN is spelled as sN.
abbrev pub IsSigned : ℕ → ℤ → List ℕ → Type 0
IsSigned bits z [] = ⊥
IsSigned bits z (b ∷ []) =
    ((b < 64) × (b < 2 ^ (bits - 1)) × (z ≡ pos b)) ⊎ ((64 ≤ b) × (b < 128) × (128 ≤ b + 2 ^ (bits - 1)) × (z +ℤ pos 128 ≡ pos b))
IsSigned bits z (b ∷ c ∷ bs) =
    (7 < bits) × (128 ≤ b) × (m : ℤ) × (z +ℤ pos 128 ≡ pos b +ℤ pos 128 *ℤ m) × IsSigned (bits - 7) m (c ∷ bs)

abbrev pub IsU32 : ℕ → List ℕ → Type 0
IsU32 = IsUnsigned 32

abbrev pub IsS32 : ℤ → List ℕ → Type 0
IsS32 = IsSigned 32

abbrev pub IsS64 : ℤ → List ℕ → Type 0
IsS64 = IsSigned 64

-- a count, and so many items. Section 5.1.3, Vectors
abbrev pub IsVec : {A : Type 0} → (A → List ℕ → Type 0) → List A → List ℕ → Type 0
IsVec P xs = IsU32 (length xs) ⨾ IsMany P xs
