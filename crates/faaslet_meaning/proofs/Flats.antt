-- Flat lists of instructions, and the bytes that spell them one after another.
use Rattle.std.proofs.lemmas.List.{append-nil}
use Rattle.faaslet_meaning.specs.Reading.{byte_at}
use Rattle.std.proofs.Common.{◌⊎◌, inl, inr, ◌≡◌, ℕ, List, [], ◌∷◌, ◌++◌, Some, refl, sym, ap, subst, ◌∙◌, append_assoc}
use Rattle.faaslet_meaning.specs.declared.instr.Instr.{Instr}
use Rattle.faaslet_meaning.specs.Productions.{◌⨾◌, Nothing}
use Rattle.faaslet_meaning.specs.Reading.{instr_at}
use Rattle.faaslet_meaning.proofs.Readers.{once}
use Rattle.faaslet_meaning.proofs.InstrReaders.{IsFlat, instr_reads}

abbrev pub AreFlats : List Instr → List ℕ → Type 0
AreFlats [] = Nothing
AreFlats (i ∷ is) = IsFlat i ⨾ AreFlats is

pub flats-append : (is js : List Instr) (a b : List ℕ) → AreFlats is a → AreFlats js b → AreFlats (is ++ js) (a ++ b)
flats-append [] js a b p q = rw p q
flats-append (i ∷ is) js a b p q = record { front = p.front; back = p.back ++ b; parts = ap (λ (t : List ℕ). t ++ b) p.parts ∙ append_assoc p.front p.back b; first = p.first; second = flats-append is js p.back b p.second q }

pub flats-split : (is js : List Instr) (c : List ℕ) → AreFlats (is ++ js) c → (a b : List ℕ) × (c ≡ a ++ b) × AreFlats is a × AreFlats js b
flats-split [] js c p = ([], c, refl, refl, p)
flats-split (i ∷ is) js c p =
    let h = flats-split is js p.back p.second in
    (p.front ++ h.0, h.1, p.parts ∙ ap (λ (t : List ℕ). p.front ++ t) h.2 ∙ sym (append_assoc p.front h.0 h.1), record { front = p.front; back = h.0; parts = refl; first = p.first; second = h.3 }, h.4)

pub one_more : (is : List Instr) (i : Instr) (a b : List ℕ) → AreFlats is a → IsFlat i b → AreFlats (is ++ i ∷ []) (a ++ b)
one_more is i a b p q = flats-append is (i ∷ []) a b p (record { front = b; back = []; parts = sym (append-nil b); first = q; second = refl })

-- no instruction is spelled by nothing
nothing_at : (i : Instr) (rest : List ℕ) → instr_at [] ≡ Some (i, rest) → ⊥
unfolding instr_at byte_at
nothing_at i rest h = cc

pub flat_not_empty : (i : Instr) (a : List ℕ) → IsFlat i a → a ≡ [] → ⊥
flat_not_empty i a p e = nothing_at i [] (subst (λ (t : List ℕ). instr_at (t ++ []) ≡ Some (i, [])) e (instr_reads.again i a [] p))

-- Two lists at the front of one text: one goes on from the other.
pub record Longer (read : List Instr) (rest : List ℕ) (whole : List Instr) (tail : List ℕ) : Type 0 where
  pub more : List Instr
  pub text : List ℕ
  pub goes_on : whole ≡ read ++ more
  pub spells : AreFlats more text
  pub parts : rest ≡ text ++ tail

pub record Shorter (read whole : List Instr) : Type 0 where
  pub next : Instr
  pub more : List Instr
  pub goes_on : read ≡ whole ++ next ∷ more

pub beside : (read whole : List Instr) (front rest a tail : List ℕ) → AreFlats read front → AreFlats whole a → a ++ tail ≡ front ++ rest → Longer read rest whole tail ⊎ Shorter read whole
beside [] whole front rest a tail p q e = inl (record { more = whole; text = a; goes_on = refl; spells = q; parts = sym (e ∙ ap (λ (t : List ℕ). t ++ rest) p) })
beside (i ∷ is) [] front rest a tail p q e = inr (record { next = i; more = is; goes_on = refl })
beside (i ∷ is) (j ∷ js) front rest a tail p q e =
    let left : q.front ++ (q.back ++ tail) ≡ p.front ++ (p.back ++ rest) = sym (append_assoc q.front q.back tail) ∙ ap (λ (t : List ℕ). t ++ tail) (sym q.parts) ∙ e ∙ ap (λ (t : List ℕ). t ++ rest) p.parts ∙ append_assoc p.front p.back rest in
    let same = (once IsFlat instr_at instr_reads).same j i q.front p.front (q.back ++ tail) (p.back ++ rest) q.first p.first left in
    elim (beside is js p.back rest q.back tail p.second q.second same.2) [
      | inl l ↦ inl (record { more = l.more; text = l.text; goes_on = cc (same.0, l.goes_on); spells = l.spells; parts = l.parts })
      | inr s ↦ inr (record { next = s.next; more = s.more; goes_on = cc (same.0, s.goes_on) })
    ]
