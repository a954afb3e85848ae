-- Lists of sections, with one section more at the end.
use Rattle.std.proofs.Common.{◌≡◌, ℕ, ◌≤◌, ◌<◌, true, false, cond, eqb, ltb, leb, List, [], ◌∷◌, ◌++◌, length, Option, Some, None, ◌⊎◌, inl, inr, refl, sym, ap, ◌∙◌, append_assoc, arith}
use Rattle.std.specs.Prelude.{◌&&◌}
use Rattle.std.proofs.lemmas.Bool.{eqb-true, ltb-true, leb-true, eq-eqb, ne_eqb, lt-ltb, le-leb}
use Rattle.std.proofs.lemmas.List.{append-nil, length-append, nil_from_length}
use Rattle.faaslet_meaning.specs.Productions.{IsMany, Fronts}
use Rattle.faaslet_meaning.specs.Grammar.{Section, IsSection, IsCustom, IsRising, content_of}
use Rattle.faaslet_meaning.specs.ModuleReading.{section_at}
use Rattle.faaslet_meaning.proofs.Readers.{either}
use Rattle.faaslet_meaning.proofs.VecReaders.{regroup}
use Rattle.faaslet_meaning.proofs.BodyReaders.{section_reads}
use Rattle.faaslet_meaning.proofs.OneModule.{section_not_empty}
use Rattle.wasm_decode.specs.Sections.{next_id, end_of}

-- ---- the ids

-- a section with this id and this content may follow one with the id last
abbrev pub MayFollow : ℕ → ℕ → List ℕ → Type 0
MayFollow last id c = ((id ≡ 0) × IsCustom c) ⊎ ((last < id) × (id ≤ 11))

pub rising_more : (last : ℕ) (ss : List Section) (id : ℕ) (c : List ℕ) → IsRising last ss → MayFollow (end_of last ss) id c → IsRising last (ss ++ (id, c) ∷ [])
rising_more last [] id c r (inl n) = inl (n.0, n.1, tt)
rising_more last [] id c r (inr n) = inr (n.0, n.1, tt)
rising_more last (s ∷ ss) id c (inl r) n = inl (r.0, r.1, rising_more last ss id c r.2 (let same : eqb s.0 0 ≡ true = eq-eqb _ _ r.0 in rw same at n))
rising_more last (s ∷ ss) id c (inr r) n = inr (r.0, r.1, rising_more s.0 ss id c r.2 (let other : eqb s.0 0 ≡ false = ne_eqb _ _ (λ z. omega (arith, r.0)) in rw other at n))

pub rising_at : (last : ℕ) (ss : List Section) (id : ℕ) (c : List ℕ) (more : List Section) → IsRising last (ss ++ (id, c) ∷ more) → MayFollow (end_of last ss) id c
rising_at last [] id c more (inl r) = inl (r.0, r.1)
rising_at last [] id c more (inr r) = inr (r.0, r.1)
rising_at last (s ∷ ss) id c more (inl r) = let same : eqb s.0 0 ≡ true = eq-eqb _ _ r.0 in rw same (rising_at last ss id c more r.2)
rising_at last (s ∷ ss) id c more (inr r) = let other : eqb s.0 0 ≡ false = ne_eqb _ _ (λ z. omega (arith, r.0)) in rw other (rising_at s.0 ss id c more r.2)

pub end_more : (last : ℕ) (ss : List Section) (id : ℕ) (c : List ℕ) → end_of last (ss ++ (id, c) ∷ []) ≡ cond (eqb id 0) (end_of last ss) id
end_more last [] id c = refl
end_more last (s ∷ ss) id c = end_more (cond (eqb s.0 0) last s.0) ss id c

-- what the step over ids gives, and when
pub next_takes : (last id next : ℕ) → next_id last id ≡ Some next → (cond (eqb id 0) last id ≡ next) × ((id ≡ 0) ⊎ ((last < id) × (id ≤ 11)))
unfolding next_id
next_takes last id next e =
    elim (either (eqb id 0)) [
      | inl custom ↦ (let e1 = rw custom at e in (rw custom (let h = e1 in cc), inl (eqb-true _ _ custom)))
      | inr other ↦ (let e1 = rw other at e in elim (either (ltb last id && leb id 11)) [
        | inl may ↦ (let e2 = rw may at e1 in (rw other (let h = e2 in cc), inr (both may)))
        | inr not ↦ (let e2 = rw not at e1 in absurd cc)
      ])
    ]
  where
    both : (ltb last id && leb id 11) ≡ true → (last < id) × (id ≤ 11)
    both h =
        elim (either (ltb last id)) [
          | inl lt ↦ (ltb-true _ _ lt, leb-true _ _ (let h1 = rw lt at h in h1))
          | inr not ↦ (let h1 = rw not at h in absurd cc)
        ]

pub next_again : (last id : ℕ) (c : List ℕ) → MayFollow last id c → (next : ℕ) × (next_id last id ≡ Some next)
unfolding next_id
next_again last id c (inl custom) = (last, rw (eq-eqb _ _ custom.0) refl)
next_again last id c (inr known) = (id, rw (ne_eqb id 0 (λ z. omega (arith, known.0)), lt-ltb _ _ known.0, le-leb _ _ known.1) refl)

-- ---- the contents

above_end : (last : ℕ) (ss : List Section) → IsRising last ss → last ≤ end_of last ss
above_end last [] r = omega arith
above_end last (s ∷ ss) (inl r) = let same : eqb s.0 0 ≡ true = eq-eqb _ _ r.0 in rw same (above_end last ss r.2)
above_end last (s ∷ ss) (inr r) = let other : eqb s.0 0 ≡ false = ne_eqb _ _ (λ z. omega (arith, r.0)) in rw other (omega (arith, r.0, above_end s.0 ss r.2))

pub none_yet : (last : ℕ) (ss : List Section) (j : ℕ) → IsRising last ss → end_of last ss < j → content_of j ss ≡ None
none_yet last [] j r lt = refl
none_yet last (s ∷ ss) j (inl r) lt =
    let same : eqb s.0 0 ≡ true = eq-eqb _ _ r.0 in
    let lt1 = rw same at lt in
    let other : eqb s.0 j ≡ false = ne_eqb _ _ (λ z. omega (arith, r.0)) in
    rw other (none_yet last ss j r.2 lt1)
none_yet last (s ∷ ss) j (inr r) lt =
    let zero_not : eqb s.0 0 ≡ false = ne_eqb _ _ (λ z. omega (arith, r.0)) in
    let lt1 = rw zero_not at lt in
    let other : eqb s.0 j ≡ false = ne_eqb _ _ (λ z. omega (arith, above_end s.0 ss r.2, lt1)) in
    rw other (none_yet s.0 ss j r.2 lt1)

-- the content with the id j, after a section with another id, and after the first with this one
pub of_other : (j id : ℕ) (c : List ℕ) (ss : List Section) → eqb id j ≡ false → content_of j (ss ++ (id, c) ∷ []) ≡ content_of j ss
of_other j id c [] other = rw other refl
of_other j id c (s ∷ ss) other = ap (λ (o : Option (List ℕ)). cond (eqb s.0 j) (Some s.1) o) (of_other j id c ss other)

pub of_same : (j : ℕ) (c : List ℕ) (ss more : List Section) → content_of j ss ≡ None → content_of j (ss ++ (j, c) ∷ more) ≡ Some c
of_same j c [] more none = rw (eq-eqb j j refl) refl
of_same j c (s ∷ ss) more none =
    elim (either (eqb s.0 j)) [
      | inl here ↦ (let h = rw here at none in absurd cc)
      | inr other ↦ (let h = rw other at none in rw other (of_same j c ss more h))
    ]

-- ---- the bytes

many_more : (ss : List Section) (s : Section) (a b : List ℕ) → IsMany IsSection ss a → IsSection s b → IsMany IsSection (ss ++ s ∷ []) (a ++ b)
many_more [] s a b p q = record { front = b; back = []; parts = rw p (sym (append-nil b)); first = q; second = refl }
many_more (t ∷ ss) s a b p q = record { front = p.front; back = p.back ++ b; parts = regroup p b; first = p.first; second = many_more ss s p.back b p.second q }

pub read_more : (body rest : List ℕ) (ss : List Section) (s : Section) (after : List ℕ) → Fronts (IsMany IsSection ss) body rest → section_at rest ≡ Some (s, after) → Fronts (IsMany IsSection (ss ++ s ∷ [])) body after
read_more body rest ss s after f e =
    let t = section_reads.takes rest s after e in
    record { text = f.text ++ t.text; parts = f.parts ∙ ap (λ (u : List ℕ). f.text ++ u) t.parts ∙ sym (append_assoc f.text t.text after); spells = many_more ss s f.text t.text f.spells t.spells }

pub section_shorter : (rest : List ℕ) (s : Section) (after : List ℕ) → section_at rest ≡ Some (s, after) → length after < length rest
section_shorter rest s after e =
    let t = section_reads.takes rest s after e in
    let h : (length t.text ≡ 0) → ⊥ = λ z. section_not_empty s t.text [] t.spells (append-nil t.text ∙ nil_from_length t.text z) in
    omega (arith, length-append t.text after, ap length t.parts, h)
