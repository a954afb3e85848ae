-- Sections taken one after another make the module that the bytes spell, and no other bytes are taken.
use Rattle.std.proofs.Common.{◌≡◌, ℕ, cond, eqb, List, [], ◌∷◌, ◌++◌, length, take, Some, None, inl, inr, refl, sym, ap, subst, ◌∙◌, arith}
use Rattle.std.proofs.lemmas.List.{take_at, append-nil}
use Rattle.faaslet_meaning.specs.declared.module.Module.{Module}
use Rattle.faaslet_meaning.specs.Productions.{IsMany, NoSpelling}
use Rattle.faaslet_meaning.specs.Grammar.{Section, IsSection, IsRising, Holds, header, IsModule}
use Rattle.faaslet_meaning.specs.Reading.{◌>>=◌}
use Rattle.faaslet_meaning.specs.ModuleReading.{section_at}
use Rattle.faaslet_meaning.proofs.Readers.{bind_some, some_is}
use Rattle.faaslet_meaning.proofs.BodyReaders.{section_reads}
use Rattle.faaslet_meaning.proofs.OneModule.{section_not_empty, goes_on, holds_once, body_of, unread, same_sections}
use Rattle.wasm_decode.specs.declared.sections.SoFar.{SoFar}
use Rattle.wasm_decode.specs.Sections.{no_module, next_id, filled, put, end_of}
use Rattle.wasm_decode.specs.Built.{Built}
use Rattle.wasm_decode.proofs.SectionLists.{MayFollow, rising_more, rising_at, end_more, next_takes, next_again, none_yet, of_same, read_more}
use Rattle.wasm_decode.proofs.Contents.{changes, holds_more, custom_takes, custom_again, filled_again}

-- ---- what is taken

pub built_first : (body : List ℕ) (s : SoFar) → s.last ≡ 0 → s.built ≡ no_module → Built body body s
built_first body s last e =
    let none : Holds [] no_module = record { types = refl; imports = refl; functions = refl; tables = refl; memories = refl; globals = refl; exports = refl; start = refl; elements = refl; bodies = refl; segments = refl } in
    record { sections = []; read = record { text = []; parts = refl; spells = refl }; rising = tt; last = sym last; holds = subst (Holds []) (sym e) none }

-- what `put` takes: the ids, and the content
put_takes : (s : SoFar) (id : ℕ) (c : List ℕ) (new : SoFar) → put s id c ≡ Some new → (next_id s.last id ≡ Some new.last) × (filled s.built id c ≡ Some new.built)
unfolding put
put_takes s id c new e =
    let l = bind_some (next_id s.last id) (λ last. filled s.built id c >>= λ built. Some (record { last = last; built = built })) new e in
    let b = bind_some (filled s.built id c) (λ built. Some (record { last = l.0; built = built })) new l.2 in
    let made : SoFar = record { last = l.0; built = b.0 } in
    let same : made ≡ new = let h = b.2 in cc in
    (l.1 ∙ ap (λ (t : SoFar). Some t.last) same, b.1 ∙ ap (λ (t : SoFar). Some t.built) same)

pub built_more : (body rest : List ℕ) (s : SoFar) (id : ℕ) (c after : List ℕ) (new : SoFar) → Built body rest s → section_at rest ≡ Some ((id, c), after) → put s id c ≡ Some new → Built body after new
built_more body rest s id c after new b e f =
    let p = put_takes s id c new f in
    let next = next_takes s.last id new.last p.0 in
    record {
      sections = b.sections ++ (id, c) ∷ [];
      read = read_more body rest b.sections (id, c) after b.read e;
      rising = rising_more 0 b.sections id c b.rising (elim next.1 [
        | inl zero ↦ inl (zero, (custom_takes c s.built new.built (subst (λ (i : ℕ). filled s.built i c ≡ Some new.built) zero p.1)).0)
        | inr known ↦ inr (omega (arith, b.last, known.0), known.1)
      ]);
      last = end_more 0 b.sections id c ∙ ap (λ (l : ℕ). cond (eqb id 0) l id) b.last ∙ next.0;
      holds = holds_more b.sections id c s.built new.built (λ some. none_yet 0 b.sections id b.rising (elim next.1 [ inl zero ↦ absurd (omega (arith, some, zero)) | inr known ↦ omega (arith, b.last, known.0) ])) (changes id c s.built new.built p.1) b.holds;
    }

pub is_module : (bytes body rest : List ℕ) (s : SoFar) → bytes ≡ header ++ body → Built body rest s → rest ≡ [] → length s.built.functions ≡ length s.built.bodies → IsModule s.built bytes
is_module bytes body rest s e b done counts = record {
  sections = b.sections;
  spells = record { front = header; back = body; parts = e; first = refl; second = subst (IsMany IsSection b.sections) (sym (b.read.parts ∙ ap (λ (t : List ℕ). b.read.text ++ t) done ∙ append-nil b.read.text)) b.read.spells };
  rising = b.rising;
  holds = b.holds;
  counts = counts;
}

-- ---- and what is not

put_again : (s : SoFar) (id : ℕ) (c : List ℕ) (ss more : List Section) (m : Module) → end_of 0 ss ≡ s.last → IsRising 0 ss → IsRising 0 (ss ++ (id, c) ∷ more) → Holds (ss ++ (id, c) ∷ more) m → (new : SoFar) × (put s id c ≡ Some new)
unfolding put
put_again s id c ss more m last rising all holds =
    let may : MayFollow s.last id c = subst (λ (l : ℕ). MayFollow l id c) last (rising_at 0 ss id c more all) in
    let next = next_again s.last id c may in
    let full = content may in
    (record { last = next.0; built = full.0 }, rw (next.1, full.1) refl)
  where
    content : MayFollow s.last id c → (n : Module) × (filled s.built id c ≡ Some n)
    content (inl custom) = let x = custom_again c s.built custom.1 in (x.0, ap (λ (i : ℕ). filled s.built i c) custom.0 ∙ x.1)
    content (inr known) = filled_again id c (ss ++ (id, c) ∷ more) s.built m (omega (arith, known.0)) known.1 (of_same id c ss more (none_yet 0 ss id rising (omega (arith, last, known.0)))) holds

-- how another module's sections go on from those read
further : (bytes body rest : List ℕ) (s : SoFar) (b : Built body rest s) → bytes ≡ header ++ body → (m : Module) (x : IsModule m bytes) → (more : List Section) × (x.sections ≡ b.sections ++ more) × IsMany IsSection more rest
further bytes body rest s b e m x = goes_on b.sections x.sections b.read.text rest body b.read.spells (body_of m bytes body x e) b.read.parts

pub refused_unread : (bytes body rest : List ℕ) (s : SoFar) → bytes ≡ header ++ body → Built body rest s → (rest ≡ [] → ⊥) → section_at rest ≡ None → NoSpelling IsModule bytes
refused_unread bytes body rest s e b some none = record { none = λ m x. unread m bytes body b.read.text rest b.sections x e b.read.parts b.read.spells some none }

pub refused_section : (bytes body rest : List ℕ) (s : SoFar) (id : ℕ) (c after : List ℕ) → bytes ≡ header ++ body → Built body rest s → section_at rest ≡ Some ((id, c), after) → put s id c ≡ None → NoSpelling IsModule bytes
refused_section bytes body rest s id c after e b read unput = record { none = λ m x. (let g = further bytes body rest s b e m x in go m x g.0 g.1 g.2) }
  where
    go : (m : Module) (x : IsModule m bytes) (more : List Section) → x.sections ≡ b.sections ++ more → IsMany IsSection more rest → ⊥
    go m x [] is p = let h = section_reads.takes rest (id, c) after read in section_not_empty (id, c) h.text after h.spells (sym h.parts ∙ p)
    go m x (t ∷ more) is p =
        let h = sym (section_reads.again t p.front p.back p.first) ∙ ap section_at (sym p.parts) ∙ read in
        let same : t ≡ (id, c) = ap (λ (q : Section × List ℕ). q.0) (some_is (t, p.back) ((id, c), after) h) in
        let all : x.sections ≡ b.sections ++ (id, c) ∷ more = is ∙ ap (λ (q : Section). b.sections ++ q ∷ more) same in
        let made = put_again s id c b.sections more m b.last b.rising (subst (IsRising 0) all x.rising) (subst (λ (ss : List Section). Holds ss m) all x.holds) in
        let k = made.1 in cc

pub refused_counts : (bytes body rest : List ℕ) (s : SoFar) → bytes ≡ header ++ body → Built body rest s → rest ≡ [] → (length s.built.functions ≡ length s.built.bodies → ⊥) → NoSpelling IsModule bytes
refused_counts bytes body rest s e b done differ = record { none = λ m x. differ (same m x) }
  where
    all : IsMany IsSection b.sections body
    all = subst (IsMany IsSection b.sections) (sym (b.read.parts ∙ ap (λ (t : List ℕ). b.read.text ++ t) done ∙ append-nil b.read.text)) b.read.spells

    same : (m : Module) (x : IsModule m bytes) → length s.built.functions ≡ length s.built.bodies
    same m x =
        let is : x.sections ≡ b.sections = same_sections m bytes body b.sections x all e in
        let eq : m ≡ s.built = holds_once b.sections m s.built (subst (λ (ss : List Section). Holds ss m) is x.holds) b.holds in
        subst (λ (n : Module). length n.functions ≡ length n.bodies) eq x.counts

pub refused_header : (bytes : List ℕ) → (take 8 bytes ≡ header → ⊥) → NoSpelling IsModule bytes
refused_header bytes other = record { none = λ m x. other (ap (take 8) (x.spells.parts ∙ ap (λ (t : List ℕ). t ++ x.spells.back) x.spells.first) ∙ take_at header x.spells.back 8 refl) }
