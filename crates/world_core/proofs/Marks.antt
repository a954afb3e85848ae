-- The marks of the calls that are queued, one after another.
use Rattle.std.proofs.Common.{◌≡◌, ℕ, zero, suc, ◌+◌, ◌<◌, Bool, true, false, List, [], ◌∷◌, ◌++◌, length, map, take, drop, slice_index_or, slice_set, refl, sym, ap, ◌∙◌, arith}
use Rattle.std.specs.Prelude.{◌==◌, ◌||◌}
use Rattle.world_core.specs.declared.floor.Waiting.{Waiting}
use Rattle.world_core.specs.Seating.{looked}

-- the first so many are marked
abbrev pub marked : ℕ → ℕ → List Waiting → List Waiting
marked call i old = map (looked call) (take i old) ++ drop i old

pub marked_more : (call i : ℕ) (old : List Waiting) (d : Waiting) → i < length old → slice_set (marked call i old) i (looked call (slice_index_or old i d)) ≡ marked call (i + 1) old
marked_more call i [] d l = let bad : ⊥ = omega (arith, l) in absurd bad
marked_more call zero (x ∷ old) d l = refl
marked_more call (suc i) (x ∷ old) d l =
    let e : suc (i + 1) ≡ suc i + 1 = omega arith in
    ap (λ ws. looked call x ∷ ws) (marked_more call i old d (omega (arith, l))) ∙ ap (λ n. marked call n (x ∷ old)) e

pub marked_all : (call i : ℕ) (old : List Waiting) → length old ≡ i → marked call i old ≡ map (looked call) old
marked_all call i [] e = nothing i
  where
    nothing : (i : ℕ) → marked call i [] ≡ []
    nothing zero = refl
    nothing (suc i) = refl
marked_all call zero (x ∷ old) e = let bad : ⊥ = omega (arith, e) in absurd bad
marked_all call (suc i) (x ∷ old) e = ap (λ ws. looked call x ∷ ws) (marked_all call i old (omega (arith, e)))

item_at : (call i : ℕ) (old : List Waiting) (d : Waiting) → i < length old → slice_index_or (marked call i old) i d ≡ slice_index_or old i d
item_at call i [] d l = let bad : ⊥ = omega (arith, l) in absurd bad
item_at call zero (x ∷ old) d l = refl
item_at call (suc i) (x ∷ old) d l = item_at call i old d (omega (arith, l))

-- the next is marked
pub mark_next : (call i : ℕ) (old items : List Waiting) (d : Waiting) (b : Bool) → i < length old → items ≡ marked call i old → b ≡ ((slice_index_or items i d).awaited || ((slice_index_or items i d).call == call)) → slice_set items i (record { call = (slice_index_or items i d).call; awaited = b }) ≡ marked call (i + 1) old
mark_next call i old items d b l e so =
    ap (λ b. slice_set items i (record { call = (slice_index_or items i d).call; awaited = b })) so
    ∙ ap (λ items. slice_set items i (looked call (slice_index_or items i d))) e
    ∙ ap (λ q. slice_set (marked call i old) i (looked call q)) (item_at call i old d l)
    ∙ marked_more call i old d l

pub marked_before : (a x b : Bool) → a ≡ true → b ≡ a → b ≡ (a || x)
marked_before a x b h k = k ∙ h ∙ sym (ap (λ a. a || x) h)

pub marked_now : (a x b : Bool) → a ≡ false → b ≡ x → b ≡ (a || x)
marked_now a x b h k = k ∙ sym (ap (λ a. a || x) h)
