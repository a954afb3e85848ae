-- The two ways to ask whether bytes are UTF-8.
use Rattle.std.proofs.Common.{◌≡◌, ℕ, Bool, true, false, List, refl}
use Rattle.std.specs.Prelude.{IsUtf8}
use Rattle.std.specs.Str.{is_utf8}
use Rattle.std.proofs.lemmas.Str.{IsUtf8-from_is_utf8, is_utf8-from_IsUtf8}

pub not_utf8 : (bytes : List ℕ) → (IsUtf8 bytes → ⊥) → is_utf8 bytes ≡ false
not_utf8 bytes no_text = go (is_utf8 bytes) refl
  where
    go : (b : Bool) → is_utf8 bytes ≡ b → b ≡ false
    go true e = absurd (no_text (IsUtf8-from_is_utf8 bytes e))
    go false e = refl

pub utf8 : (bytes : List ℕ) → IsUtf8 bytes → is_utf8 bytes ≡ true
utf8 bytes h = is_utf8-from_IsUtf8 bytes h

pub ruleset text_steps = (not_utf8, utf8)
