-- Bytes have the hex digits that are printed of them.
use Rattle.std.proofs.Common.{◌≡◌, ℕ, zero, suc, ◌/◌, ◌%◌, ◌<◌, ◌==◌, Bool, true, ◌&&◌, inl, inr, List, [], ◌∷◌, slice_index, ◌++◌, Result, Ok, Err, OnOk, is_ok, cond, refl, ap, ap₂, ◌∙◌, arith}
use Rattle.std.proofs.lemmas.Bool.{and_parts, cases_lt, eqb-true}
use Rattle.hex.specs.Hex.{IsBytes, encode_lower, encode_with, lower_digits}
use Rattle.faaslet_meaning.specs.Report.{hex, hex_digit}

abbrev all_same : ℕ → Bool
all_same zero = true
all_same (suc n) = (slice_index lower_digits n == hex_digit n) && all_same n

same_below : (n k : ℕ) → all_same n ≡ true → k < n → slice_index lower_digits k ≡ hex_digit k
same_below zero k h lt = absurd (omega arith)
same_below (suc n) k h lt =
    let parts = and_parts (slice_index lower_digits n == hex_digit n) (all_same n) h in
    elim (cases_lt k n) [
      | inl below ↦ same_below n k parts.1 below
      | inr top ↦
          let e : k ≡ n = omega arith in
          rw e (eqb-true _ _ parts.0)
    ]

same_digit : (d : ℕ) → d < 16 → slice_index lower_digits d ≡ hex_digit d
same_digit d h = same_below 16 d refl h

pub same_hex : (bytes : List ℕ) → IsBytes bytes → encode_lower bytes ≡ hex bytes
unfolding encode_with
same_hex [] h = refl
same_hex (b ∷ bs) h =
    let byte : b < 256 = h 0 in
    let high : b / 16 < 16 = omega arith in
    let low : b % 16 < 16 = omega arith in
    let rest = same_hex bs (λ i. h (suc i)) in
    ap₂ (λ x ys. x ∷ ys) (same_digit (b / 16) high) (ap₂ (λ x ys. x ∷ ys) (same_digit (b % 16) low) rest)

-- a text that is pushed, which is this one
pub pushed : {T E : Type 0} (r : Result T E) (old new text other : List ℕ) → new ≡ cond (is_ok r) (old ++ text) old → text ≡ other → OnOk r (new ≡ old ++ other)
pushed (Ok x) old new text other e f = e ∙ ap (λ z. old ++ z) f
pushed (Err x) old new text other e f = tt
