-- The readers of numbers.
use Rattle.std.proofs.Common.{◌≡◌, ℕ, ℤ, pos, negsuc, suc, ◌+◌, ◌-◌, ◌*◌, ◌^◌, ◌<◌, ◌≤◌, ltb, List, [], ◌∷◌, ◌++◌, Some, inl, inr, refl, ap, arith}
use Rattle.std.specs.Prelude.{◌+ℤ◌, ◌-ℤ◌, ◌*ℤ◌}
use Rattle.std.proofs.lemmas.Bool.{ltb-true, ltb-false, lt-ltb, le-ltb}
use Rattle.std.proofs.lemmas.Int.{ints}
use Rattle.faaslet_meaning.specs.Productions.{Front}
use Rattle.faaslet_meaning.specs.Numbers.{IsUnsigned, IsSigned}
use Rattle.faaslet_meaning.specs.Reading.{unsigned_at, signed_at}
use Rattle.faaslet_meaning.proofs.Readers.{Reads, either, mapped_some, byte_takes, at_value}

unsigned_on : (bits b n m : ℕ) (a : List ℕ) → 7 < bits → 128 ≤ b → n + 128 ≡ b + 128 * m → IsUnsigned (bits - 7) m a → IsUnsigned bits n (b ∷ a)
unsigned_on bits b n m [] wide high value p = absurd p
unsigned_on bits b n m (c ∷ bs) wide high value p = (wide, high, m, value, p)

unsigned_takes : (bits : ℕ) (bytes : List ℕ) (x : ℕ) (rest : List ℕ) → unsigned_at bits bytes ≡ Some (x, rest) → Front (IsUnsigned bits) bytes x rest
unfolding unsigned_at
unsigned_takes bits [] x rest e = absurd cc
unsigned_takes bits (b ∷ bs) x rest e =
    elim (either (ltb b 128)) [
      | inl low ↦ (let e1 = rw low at e in elim (either (ltb b (2 ^ bits))) [
        | inl fits ↦ byte_takes (IsUnsigned bits) b b b bs x rest refl (ltb-true _ _ low, ltb-true _ _ fits, refl) (rw fits at e1)
        | inr over ↦ (let h = rw over at e1 in absurd cc)
      ])
      | inr high ↦ (let e1 = rw high at e in elim (either (ltb 7 bits)) [
        | inl wide ↦
            (let m = mapped_some (λ m. b + 128 * m - 128) (unsigned_at (bits - 7) bs) x rest (rw wide at e1) in
            let f = unsigned_takes (bits - 7) bs m.0 rest m.1 in
            let le : 128 ≤ b = ltb-false _ _ high in
            record { text = b ∷ f.text; parts = ap (λ (t : List ℕ). b ∷ t) f.parts; spells = unsigned_on bits b x m.0 f.text (ltb-true _ _ wide) le (omega (arith, m.2)) f.spells })
        | inr over ↦ (let h = rw over at e1 in absurd cc)
      ])
    ]

unsigned_again : (bits x : ℕ) (a rest : List ℕ) → IsUnsigned bits x a → unsigned_at bits (a ++ rest) ≡ Some (x, rest)
unfolding unsigned_at
unsigned_again bits x [] rest p = absurd p
unsigned_again bits x (b ∷ []) rest p = rw (lt-ltb _ _ p.0, lt-ltb _ _ p.1, p.2) refl
unsigned_again bits x (b ∷ c ∷ bs) rest p =
    let value : b + 128 * p.2 - 128 ≡ x = omega (arith, p.3) in
    rw (le-ltb _ _ p.1, lt-ltb _ _ p.0, unsigned_again (bits - 7) p.2 (c ∷ bs) rest p.4, value) refl

pub unsigned_reads : (bits : ℕ) → Reads (IsUnsigned bits) (unsigned_at bits)
unsigned_reads bits = record { takes = unsigned_takes bits; again = unsigned_again bits }

signed_on : (bits b : ℕ) (z m : ℤ) (a : List ℕ) → 7 < bits → 128 ≤ b → z +ℤ pos 128 ≡ pos b +ℤ pos 128 *ℤ m → IsSigned (bits - 7) m a → IsSigned bits z (b ∷ a)
signed_on bits b z m [] wide high value p = absurd p
signed_on bits b z m (c ∷ bs) wide high value p = (wide, high, m, value, p)

signed_takes : (bits : ℕ) (bytes : List ℕ) (x : ℤ) (rest : List ℕ) → signed_at bits bytes ≡ Some (x, rest) → Front (IsSigned bits) bytes x rest
unfolding signed_at
signed_takes bits [] x rest e = absurd cc
signed_takes bits (b ∷ bs) x rest e =
    elim (either (ltb b 64)) [
      | inl low ↦ (let e1 = rw low at e in elim (either (ltb b (2 ^ (bits - 1)))) [
        | inl fits ↦ byte_takes (IsSigned bits) b b (pos b) bs x rest refl (inl (ltb-true _ _ low, ltb-true _ _ fits, refl)) (rw fits at e1)
        | inr over ↦ (let h = rw over at e1 in absurd cc)
      ])
      | inr more ↦ (let e1 = rw more at e in elim (either (ltb b 128)) [
        | inl last ↦ (let e2 = rw last at e1 in elim (either (ltb (127 - b) (2 ^ (bits - 1)))) [
          | inl fits ↦
              (let le : 64 ≤ b = ltb-false _ _ more in
              let lt : b < 128 = ltb-true _ _ last in
              let room : 127 - b < 2 ^ (bits - 1) = ltb-true _ _ fits in
              byte_takes (IsSigned bits) b b (negsuc (128 - suc b)) bs x rest refl (inr (le, lt, omega arith, omega (arith, ints))) (rw fits at e2))
          | inr over ↦ (let h = rw over at e2 in absurd cc)
        ])
        | inr high ↦ (let e2 = rw high at e1 in elim (either (ltb 7 bits)) [
          | inl wide ↦
              (let m = mapped_some (λ m. pos b +ℤ pos 128 *ℤ m -ℤ pos 128) (signed_at (bits - 7) bs) x rest (rw wide at e2) in
              let f = signed_takes (bits - 7) bs m.0 rest m.1 in
              let le : 128 ≤ b = ltb-false _ _ high in
              record { text = b ∷ f.text; parts = ap (λ (t : List ℕ). b ∷ t) f.parts; spells = signed_on bits b x m.0 f.text (ltb-true _ _ wide) le (omega (arith, ints, m.2)) f.spells })
          | inr over ↦ (let h = rw over at e2 in absurd cc)
        ])
      ])
    ]

signed_again : (bits : ℕ) (x : ℤ) (a rest : List ℕ) → IsSigned bits x a → signed_at bits (a ++ rest) ≡ Some (x, rest)
unfolding signed_at
signed_again bits x [] rest p = absurd p
signed_again bits x (b ∷ []) rest (inl p) = rw (lt-ltb _ _ p.0, lt-ltb _ _ p.1, p.2) refl
signed_again bits x (b ∷ []) rest (inr p) =
    let value : negsuc (128 - suc b) ≡ x = omega (arith, ints, p.3) in
    let room : 127 - b < 2 ^ (bits - 1) = omega (arith, p.2) in
    rw (le-ltb _ _ p.0, lt-ltb _ _ p.1, lt-ltb _ _ room) (at_value _ _ rest value)
signed_again bits x (b ∷ c ∷ bs) rest p =
    let high : 128 ≤ b = p.1 in
    let le : 64 ≤ b = omega arith in
    let value : pos b +ℤ pos 128 *ℤ p.2 -ℤ pos 128 ≡ x = omega (arith, ints, p.3) in
    rw (le-ltb _ _ le, le-ltb _ _ p.1, lt-ltb _ _ p.0, signed_again (bits - 7) p.2 (c ∷ bs) rest p.4) (at_value _ _ rest value)

pub signed_reads : (bits : ℕ) → Reads (IsSigned bits) (signed_at bits)
signed_reads bits = record { takes = signed_takes bits; again = signed_again bits }
