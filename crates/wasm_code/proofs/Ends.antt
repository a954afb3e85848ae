-- The end of a field by its length, and by the bytes behind it.
use Rattle.std.proofs.Common.{ℤ, Some, None, ◌≡◌, ℕ, ◌-◌, ◌≤◌, List, [], ◌++◌, length, take, refl, sym, ap, subst, ◌∙◌, arith}
use Rattle.std.proofs.lemmas.List.{append-nil, take_at, length-append}
use Rattle.faaslet_meaning.specs.Productions.{Front, Prefix, NoFront, NoSpelling, IsDetermined}
use Rattle.faaslet_meaning.specs.Numbers.{IsU32, IsS32, IsS64}
use Rattle.faaslet_meaning.specs.Reading.{unsigned_at, signed_at}
use Rattle.faaslet_meaning.proofs.Readers.{none_is_none, read_again, not_read}
use Rattle.faaslet_meaning.proofs.NumberReaders.{unsigned_reads, signed_reads}

pub front_len : {A : Type 0} (P : A → List ℕ → Type 0) (bytes : List ℕ) (x : A) (rest : List ℕ) → Front P bytes x rest → length rest ≤ length bytes
front_len P bytes x rest f = omega (arith, length-append f.text rest, ap length f.parts)

pub front_text : {A : Type 0} (P : A → List ℕ → Type 0) (bytes : List ℕ) (x : A) (rest : List ℕ) → Front P bytes x rest → P x (take (length bytes - length rest) bytes)
front_text P bytes x rest f =
    let len : length f.text ≡ length bytes - length rest = omega (arith, length-append f.text rest, ap length f.parts) in
    let same : take (length bytes - length rest) bytes ≡ f.text = ap (take (length bytes - length rest)) f.parts ∙ take_at f.text rest (length bytes - length rest) len in
    rw same f.spells

pub prefix : {A : Type 0} (P : A → List ℕ → Type 0) (bytes : List ℕ) (x : A) (rest : List ℕ) → Front P bytes x rest → Prefix P bytes x (length bytes - length rest)
prefix P bytes x rest f = record { within = omega arith; spells = front_text P bytes x rest f }

-- what was read of a u32 and of an s32, and what was not
pub u32_front : (bytes : List ℕ) (x : ℕ) (rest : List ℕ) → unsigned_at 32 bytes ≡ Some (x, rest) → Front IsU32 bytes x rest
u32_front bytes x rest e = (unsigned_reads 32).takes bytes x rest e

pub u32_none : (bytes : List ℕ) → unsigned_at 32 bytes ≡ None → NoFront IsU32 bytes
u32_none bytes e = none_is_none IsU32 (unsigned_at 32) bytes (unsigned_reads 32) e

pub s32_front : (bytes : List ℕ) (x : ℤ) (rest : List ℕ) → signed_at 32 bytes ≡ Some (x, rest) → Front IsS32 bytes x rest
s32_front bytes x rest e = (signed_reads 32).takes bytes x rest e

pub s32_none : (bytes : List ℕ) → signed_at 32 bytes ≡ None → NoFront IsS32 bytes
s32_none bytes e = none_is_none IsS32 (signed_at 32) bytes (signed_reads 32) e

pub s64_front : (bytes : List ℕ) (x : ℤ) (rest : List ℕ) → signed_at 64 bytes ≡ Some (x, rest) → Front IsS64 bytes x rest
s64_front bytes x rest e = (signed_reads 64).takes bytes x rest e

pub s64_none : (bytes : List ℕ) → signed_at 64 bytes ≡ None → NoFront IsS64 bytes
s64_none bytes e = none_is_none IsS64 (signed_at 64) bytes (signed_reads 64) e

pub ruleset u32_steps = (u32_front, u32_none)

pub ruleset s32_steps = (s32_front, s32_none)

pub ruleset s64_steps = (s64_front, s64_none)

-- and back
pub u32_read : (bytes : List ℕ) (x : ℕ) (rest : List ℕ) → Front IsU32 bytes x rest → unsigned_at 32 bytes ≡ Some (x, rest)
u32_read bytes x rest f = read_again IsU32 (unsigned_at 32) bytes x rest (unsigned_reads 32) f

pub u32_unread : (bytes : List ℕ) → NoFront IsU32 bytes → unsigned_at 32 bytes ≡ None
u32_unread bytes none = not_read IsU32 (unsigned_at 32) bytes (unsigned_reads 32) none (unsigned_at 32 bytes) refl

pub s32_read : (bytes : List ℕ) (x : ℤ) (rest : List ℕ) → Front IsS32 bytes x rest → signed_at 32 bytes ≡ Some (x, rest)
s32_read bytes x rest f = read_again IsS32 (signed_at 32) bytes x rest (signed_reads 32) f

pub s32_unread : (bytes : List ℕ) → NoFront IsS32 bytes → signed_at 32 bytes ≡ None
s32_unread bytes none = not_read IsS32 (signed_at 32) bytes (signed_reads 32) none (signed_at 32 bytes) refl

pub ruleset u32_again = (u32_read, u32_unread)

pub ruleset s32_again = (s32_read, s32_unread)

-- ---- all of the bytes

pub all_front : {A : Type 0} (P : A → List ℕ → Type 0) (bytes : List ℕ) (x : A) (rest : List ℕ) → Front P bytes x rest → rest ≡ [] → P x bytes
all_front P bytes x rest f e = subst (P x) (sym (f.parts ∙ ap (λ (t : List ℕ). f.text ++ t) e ∙ append-nil f.text)) f.spells

pub none_at_all : {A : Type 0} (P : A → List ℕ → Type 0) (bytes : List ℕ) → NoFront P bytes → NoSpelling P bytes
none_at_all P bytes none = record { none = λ x p. none.none x bytes [] (sym (append-nil bytes)) p }

pub more_behind : {A : Type 0} (P : A → List ℕ → Type 0) (bytes : List ℕ) (x : A) (rest : List ℕ) → IsDetermined P → Front P bytes x rest → (rest ≡ [] → ⊥) → NoSpelling P bytes
more_behind P bytes x rest once f more = record { none = λ y p. more ((once.same x y f.text bytes rest [] f.spells p (sym f.parts ∙ sym (append-nil bytes))).2) }
