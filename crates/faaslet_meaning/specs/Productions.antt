-- The words in which the binary grammar is written. A language is a property of lists of bytes, and a production gives each
-- value the language of its spellings. Where a clause names bytes they are below 256; the relations do not say it. W3C
-- WebAssembly Core Specification 1.0, section 5.1.1, Grammar.
use Rattle.std.specs.Prelude.{◌≡◌, ℕ, List, [], ◌∷◌, ◌++◌, ◌≤◌, length, take}

-- just this byte
abbrev pub Byte : ℕ → List ℕ → Type 0
Byte b bytes = bytes ≡ b ∷ []

-- nothing
abbrev pub Nothing : List ℕ → Type 0
Nothing bytes = bytes ≡ []

-- these very bytes
abbrev pub Exactly : List ℕ → List ℕ → Type 0
Exactly content bytes = bytes ≡ content

-- the one and then the other
infixr 30 ◌⨾◌
pub record ◌⨾◌ (P Q : List ℕ → Type 0) (bytes : List ℕ) : Type 0 where
  pub front : List ℕ
  pub back : List ℕ
  pub parts : bytes ≡ front ++ back
  pub first : P front
  pub second : Q back

-- a spelling of each item, one after the other
abbrev pub IsMany : {A : Type 0} → (A → List ℕ → Type 0) → List A → List ℕ → Type 0
IsMany P [] = Nothing
IsMany P (x ∷ xs) = P x ⨾ IsMany P xs

-- ---- What readers say of a production. This project's own.

-- the bytes begin with a spelling of x, of so many bytes
pub record Prefix {A : Type 0} (P : A → List ℕ → Type 0) (bytes : List ℕ) (x : A) (len : ℕ) : Type 0 where
  pub within : len ≤ length bytes
  pub spells : P x (take len bytes)

-- the same, by the bytes that are behind it
pub record Front {A : Type 0} (P : A → List ℕ → Type 0) (bytes : List ℕ) (x : A) (rest : List ℕ) : Type 0 where
  pub text : List ℕ
  pub parts : bytes ≡ text ++ rest
  pub spells : P x text

-- the bytes begin with words of this language
pub record Fronts (L : List ℕ → Type 0) (bytes rest : List ℕ) : Type 0 where
  pub text : List ℕ
  pub parts : bytes ≡ text ++ rest
  pub spells : L text

-- the bytes begin with no spelling
pub record NoFront {A : Type 0} (P : A → List ℕ → Type 0) (bytes : List ℕ) : Type 0 where
  pub none : (x : A) (text rest : List ℕ) → bytes ≡ text ++ rest → P x text → ⊥

-- the text, all of it, spells nothing
pub record NoSpelling {A T : Type 0} (P : A → T → Type 0) (text : T) : Type 0 where
  pub none : (x : A) → P x text → ⊥

-- no spelling begins another, and each spells one value
pub record IsDetermined {A : Type 0} (P : A → List ℕ → Type 0) : Type 0 where
  pub same : (x y : A) (a b r s : List ℕ) → P x a → P y b → a ++ r ≡ b ++ s → (x ≡ y) × (a ≡ b) × (r ≡ s)
