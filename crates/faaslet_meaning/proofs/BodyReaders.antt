-- The readers of expressions, of what holds them, and of sections.
use Rattle.std.proofs.Common.{◌≡◌, ℕ, zero, suc, ◌≤◌, Bool, cond, eqb, ltb, List, [], ◌∷◌, ◌++◌, length, Option, Some, None, inl, inr, refl, sym, ap, subst, ◌∙◌, arith}
use Rattle.std.specs.Prelude.{sum_by, ◌^◌}
use Rattle.std.proofs.lemmas.Bool.{eqb-true, ltb-true, lt-ltb}
use Rattle.std.proofs.lemmas.List.{length-append, append-nil, nil_from_length}
use Rattle.faaslet_meaning.specs.declared.instr.Instr.{Instr}
use Rattle.faaslet_meaning.specs.declared.module.GlobalDef.{GlobalDef}
use Rattle.faaslet_meaning.specs.declared.module.Element.{Element}
use Rattle.faaslet_meaning.specs.declared.module.LocalGroup.{LocalGroup}
use Rattle.faaslet_meaning.specs.declared.module.Body.{Body}
use Rattle.faaslet_meaning.specs.declared.module.Segment.{Segment}
use Rattle.faaslet_meaning.specs.Productions.{Front, Fronts}
use Rattle.faaslet_meaning.specs.Numbers.{IsU32, IsVec}
use Rattle.faaslet_meaning.specs.Instructions.{IsValType, IsExpression}
use Rattle.faaslet_meaning.specs.Grammar.{IsBlob, IsSized, IsGlobalType, IsGlobalDef, IsElement, IsLocalGroup, IsBody, IsCodeEntry, IsSegment, Section, IsSection}
use Rattle.faaslet_meaning.specs.Reading.{Read, ◌>>=◌, mapped, byte_at, unsigned_at, val_type_at, vec_at, instr_at}
use Rattle.faaslet_meaning.specs.Nesting.{step, run}
use Rattle.faaslet_meaning.specs.ModuleReading.{blob_at, whole, sized_at, flats_at, expression_at, global_type_at, global_def_at, element_at, local_group_at, entry_at, body_at, segment_at, section_at}
use Rattle.faaslet_meaning.proofs.Readers.{Reads, either, mapped_some, bind_some, some_is, front_is}
use Rattle.faaslet_meaning.proofs.NumberReaders.{unsigned_reads}
use Rattle.faaslet_meaning.proofs.VecReaders.{fronts, fronts_then, regroup, two_takes, three_takes, vec_reads}
use Rattle.faaslet_meaning.proofs.InstrReaders.{val_type_reads, instr_reads}
use Rattle.faaslet_meaning.proofs.Flats.{AreFlats, flat_not_empty}
use Rattle.faaslet_meaning.proofs.Expressions.{start, is_expression, expression_flats, expression_runs}
use Rattle.faaslet_meaning.proofs.ModuleReaders.{blob_reads}
use Rattle.faaslet_meaning.proofs.TypeReaders.{global_type_reads}

-- ---- expressions

flats_take : (fuel : ℕ) (ms : List Bool) (bytes : List ℕ) (is : List Instr) (rest : List ℕ) → flats_at fuel ms bytes ≡ Some (is, rest) → Fronts (AreFlats is) bytes rest × (run ms is ≡ Some [])
unfolding flats_at
flats_take fuel [] bytes is rest e =
    subst (λ (p : List Instr × List ℕ). Fronts (AreFlats p.0) bytes p.1 × (run [] p.0 ≡ Some [])) (some_is ([], bytes) (is, rest) e) (record { text = []; parts = refl; spells = refl }, refl)
flats_take zero (m ∷ ms) bytes is rest e = absurd cc
flats_take (suc fuel) (m ∷ ms) bytes is rest e =
    let i = bind_some (instr_at bytes) (λ i. step (m ∷ ms) i.0 >>= λ ns. mapped (λ is. i.0 ∷ is) (flats_at fuel ns i.1)) (is, rest) e in
    let s = bind_some (step (m ∷ ms) i.0.0) (λ ns. mapped (λ is. i.0.0 ∷ is) (flats_at fuel ns i.0.1)) (is, rest) i.2 in
    let js = mapped_some (λ is. i.0.0 ∷ is) (flats_at fuel s.0 i.0.1) is rest s.2 in
    let others = flats_take fuel s.0 i.0.1 js.0 rest js.1 in
    let first = fronts (instr_reads.takes bytes i.0.0 i.0.1 i.1) in
    let both : Fronts (AreFlats (i.0.0 ∷ js.0)) bytes rest = fronts_then first others.0 in
    let ran : run (m ∷ ms) (i.0.0 ∷ js.0) ≡ Some [] = ap (λ (o : Option (List Bool)). o >>= λ ns. run ns js.0) s.1 ∙ others.1 in
    subst (λ (c : List Instr). Fronts (AreFlats c) bytes rest × (run (m ∷ ms) c ≡ Some [])) js.2 (both, ran)

flats_again : (fuel : ℕ) (ms : List Bool) (is : List Instr) (a rest : List ℕ) → AreFlats is a → run ms is ≡ Some [] → length is ≤ fuel → flats_at fuel ms (a ++ rest) ≡ Some (is, rest)
unfolding flats_at
flats_again fuel [] [] a rest p e le = rw p refl
flats_again fuel [] (i ∷ is) a rest p e le = absurd cc
flats_again fuel (m ∷ ms) [] a rest p e le = absurd cc
flats_again zero (m ∷ ms) (i ∷ is) a rest p e le = absurd (omega arith)
flats_again (suc fuel) (m ∷ ms) (i ∷ is) a rest p e le =
    let s = bind_some (step (m ∷ ms) i) (λ ns. run ns is) [] e in
    ap (flats_at (suc fuel) (m ∷ ms)) (regroup p rest) ∙ rw (instr_reads.again i p.front (p.back ++ rest) p.first, s.1, flats_again fuel s.0 is p.back rest p.second s.2 (omega arith)) refl

no_longer : (is : List Instr) (a : List ℕ) → AreFlats is a → length is ≤ length a
no_longer [] a p = omega arith
no_longer (i ∷ is) a p =
    let h : (length p.front ≡ 0) → ⊥ = λ z. flat_not_empty i p.front p.first (nil_from_length p.front z) in
    omega (arith, no_longer is p.back p.second, length-append p.front p.back, ap length p.parts, h)

expression_takes : (bytes : List ℕ) (x : List Instr) (rest : List ℕ) → expression_at bytes ≡ Some (x, rest) → Front IsExpression bytes x rest
unfolding expression_at
expression_takes bytes x rest e =
    let f = flats_take (length bytes) start bytes x rest e in
    record { text = f.0.text; parts = f.0.parts; spells = is_expression x f.0.text f.0.spells f.1 }

expression_again : (x : List Instr) (a rest : List ℕ) → IsExpression x a → expression_at (a ++ rest) ≡ Some (x, rest)
unfolding expression_at
expression_again x a rest p =
    let flats = expression_flats x a p in
    flats_again (length (a ++ rest)) start x a rest flats (expression_runs x a p) (omega (arith, no_longer x a flats, length-append a rest))

pub expression_reads : Reads IsExpression expression_at
expression_reads = record { takes = expression_takes; again = expression_again }

-- ---- a size, and what it holds

pub whole_some : {A : Type 0} (r : Read A) (x : A) → whole r ≡ Some x → r ≡ Some (x, [])
whole_some None x e = absurd cc
whole_some {A = A} (Some y) x e =
    elim (either (eqb (length y.1) 0)) [
      | inl empty ↦ (let h : y.1 ≡ [] = nil_from_length y.1 (eqb-true _ _ empty) in let same : y.0 ≡ x = value y.0 x (rw empty at e) in pair y.0 x y.1 [] same h)
      | inr more ↦ (let h = rw more at e in absurd cc)
    ]
  where
    value : (v w : A) → (let o : Option A = Some v in o ≡ Some w) → v ≡ w
    value v w e = cc

    pair : (v w : A) (r s : List ℕ) → v ≡ w → r ≡ s → (let o : Read A = Some (v, r) in o ≡ Some (w, s))
    pair v w r s e f = cc

sized_takes : {A : Type 0} (P : A → List ℕ → Type 0) (at : List ℕ → Read A) → Reads P at → (bytes : List ℕ) (x : A) (rest : List ℕ) → sized_at at bytes ≡ Some (x, rest) → Front (IsSized P) bytes x rest
unfolding sized_at
sized_takes P at reads bytes x rest e =
    let c = bind_some (blob_at bytes) (λ c. whole (at c.0) >>= λ x. Some (x, c.1)) (x, rest) e in
    let w = bind_some (whole (at c.0.0)) (λ x. Some (x, c.0.1)) (x, rest) c.2 in
    let b = blob_reads.takes bytes c.0.0 c.0.1 c.1 in
    let f = reads.takes c.0.0 w.0 [] (whole_some (at c.0.0) w.0 w.1) in
    let means : P w.0 c.0.0 = subst (P w.0) (sym (f.parts ∙ append-nil f.text)) f.spells in
    front_is (IsSized P) bytes (w.0, c.0.1) (x, rest) (some_is _ _ w.2) (record { text = b.text; parts = b.parts; spells = record { content = c.0.0; blob = b.spells; means = means } })

pub all_again : {A : Type 0} (P : A → List ℕ → Type 0) (at : List ℕ → Read A) → Reads P at → (x : A) (a : List ℕ) → P x a → at a ≡ Some (x, [])
all_again P at reads x a p = ap at (sym (append-nil a)) ∙ reads.again x a [] p

sized_again : {A : Type 0} (P : A → List ℕ → Type 0) (at : List ℕ → Read A) → Reads P at → (x : A) (a rest : List ℕ) → IsSized P x a → sized_at at (a ++ rest) ≡ Some (x, rest)
unfolding sized_at
sized_again P at reads x a rest p = rw (blob_reads.again p.content a rest p.blob, all_again P at reads x p.content p.means) refl

pub sized_reads : {A : Type 0} (P : A → List ℕ → Type 0) (at : List ℕ → Read A) → Reads P at → Reads (IsSized P) (sized_at at)
sized_reads P at reads = record { takes = sized_takes P at reads; again = sized_again P at reads }

-- ---- what holds an expression

global_def_takes : (bytes : List ℕ) (x : GlobalDef) (rest : List ℕ) → global_def_at bytes ≡ Some (x, rest) → Front IsGlobalDef bytes x rest
unfolding global_def_at
global_def_takes bytes x rest e = two_takes IsGlobalType IsExpression IsGlobalDef global_type_at expression_at (λ kind init. record { kind = kind; init = init }) bytes x rest global_type_reads expression_reads (λ a b t p. p) e

global_def_again : (x : GlobalDef) (a rest : List ℕ) → IsGlobalDef x a → global_def_at (a ++ rest) ≡ Some (x, rest)
unfolding global_def_at
global_def_again x a rest p = ap global_def_at (regroup p rest) ∙ rw (global_type_reads.again x.kind p.front (p.back ++ rest) p.first, expression_again x.init p.back rest p.second) refl

pub global_def_reads : Reads IsGlobalDef global_def_at
global_def_reads = record { takes = global_def_takes; again = global_def_again }

indices_reads : Reads (IsVec IsU32) (vec_at (unsigned_at 32))
indices_reads = vec_reads IsU32 (unsigned_at 32) (unsigned_reads 32)

element_takes : (bytes : List ℕ) (x : Element) (rest : List ℕ) → element_at bytes ≡ Some (x, rest) → Front IsElement bytes x rest
unfolding element_at
element_takes bytes x rest e = three_takes IsU32 IsExpression (IsVec IsU32) IsElement (unsigned_at 32) expression_at (vec_at (unsigned_at 32)) (λ table offset functions. record { table = table; offset = offset; functions = functions }) bytes x rest (unsigned_reads 32) expression_reads indices_reads (λ a b c t p. p) e

element_again : (x : Element) (a rest : List ℕ) → IsElement x a → element_at (a ++ rest) ≡ Some (x, rest)
unfolding element_at
element_again x a rest p =
    let q = p.second in
    ap element_at (regroup p rest) ∙ rw ((unsigned_reads 32).again x.table p.front (p.back ++ rest) p.first, regroup q rest, expression_again x.offset q.front (q.back ++ rest) q.first, indices_reads.again x.functions q.back rest q.second) refl

pub element_reads : Reads IsElement element_at
element_reads = record { takes = element_takes; again = element_again }

segment_takes : (bytes : List ℕ) (x : Segment) (rest : List ℕ) → segment_at bytes ≡ Some (x, rest) → Front IsSegment bytes x rest
unfolding segment_at
segment_takes bytes x rest e = three_takes IsU32 IsExpression IsBlob IsSegment (unsigned_at 32) expression_at blob_at (λ memory offset content. record { memory = memory; offset = offset; bytes = content }) bytes x rest (unsigned_reads 32) expression_reads blob_reads (λ a b c t p. p) e

segment_again : (x : Segment) (a rest : List ℕ) → IsSegment x a → segment_at (a ++ rest) ≡ Some (x, rest)
unfolding segment_at
segment_again x a rest p =
    let q = p.second in
    ap segment_at (regroup p rest) ∙ rw ((unsigned_reads 32).again x.memory p.front (p.back ++ rest) p.first, regroup q rest, expression_again x.offset q.front (q.back ++ rest) q.first, blob_reads.again x.bytes q.back rest q.second) refl

pub segment_reads : Reads IsSegment segment_at
segment_reads = record { takes = segment_takes; again = segment_again }

local_group_takes : (bytes : List ℕ) (x : LocalGroup) (rest : List ℕ) → local_group_at bytes ≡ Some (x, rest) → Front IsLocalGroup bytes x rest
unfolding local_group_at
local_group_takes bytes x rest e = two_takes IsU32 IsValType IsLocalGroup (unsigned_at 32) val_type_at (λ count kind. record { count = count; kind = kind }) bytes x rest (unsigned_reads 32) val_type_reads (λ a b t p. p) e

local_group_again : (x : LocalGroup) (a rest : List ℕ) → IsLocalGroup x a → local_group_at (a ++ rest) ≡ Some (x, rest)
unfolding local_group_at
local_group_again x a rest p = ap local_group_at (regroup p rest) ∙ rw ((unsigned_reads 32).again x.count p.front (p.back ++ rest) p.first, val_type_reads.again x.kind p.back rest p.second) refl

pub local_group_reads : Reads IsLocalGroup local_group_at
local_group_reads = record { takes = local_group_takes; again = local_group_again }

entry_takes : (bytes : List ℕ) (x : Body) (rest : List ℕ) → entry_at bytes ≡ Some (x, rest) → Front IsBody bytes x rest
unfolding entry_at
entry_takes bytes x rest e =
    let l = bind_some (vec_at local_group_at bytes) (λ l. cond (ltb (sum_by (λ g. g.count) l.0) (2 ^ 32)) (mapped (λ code. record { locals = l.0; code = code }) (expression_at l.1)) None) (x, rest) e in
    let e1 = l.2 in
    elim (either (ltb (sum_by (λ g. g.count) l.0.0) (2 ^ 32))) [
      | inl few ↦
          (let c = mapped_some (λ code. record { locals = l.0.0; code = code }) (expression_at l.0.1) x rest (rw few at e1) in
          let two = fronts_then (fronts ((vec_reads IsLocalGroup local_group_at local_group_reads).takes bytes l.0.0 l.0.1 l.1)) (fronts (expression_takes l.0.1 c.0 rest c.1)) in
          record { text = two.text; parts = two.parts; spells = subst (λ (b : Body). IsBody b two.text) c.2 (ltb-true _ _ few, two.spells) })
      | inr many ↦ (let h = rw many at e1 in absurd cc)
    ]

entry_again : (x : Body) (a rest : List ℕ) → IsBody x a → entry_at (a ++ rest) ≡ Some (x, rest)
unfolding entry_at
entry_again x a rest p =
    let q = p.1 in
    ap entry_at (regroup q rest) ∙ rw ((vec_reads IsLocalGroup local_group_at local_group_reads).again x.locals q.front (q.back ++ rest) q.first, lt-ltb _ _ p.0, expression_again x.code q.back rest q.second) refl

pub entry_reads : Reads IsBody entry_at
entry_reads = record { takes = entry_takes; again = entry_again }

pub body_reads : Reads IsCodeEntry body_at
unfolding body_at
body_reads = sized_reads IsBody entry_at entry_reads

-- ---- sections

section_takes : (bytes : List ℕ) (x : Section) (rest : List ℕ) → section_at bytes ≡ Some (x, rest) → Front IsSection bytes x rest
unfolding section_at byte_at
section_takes [] x rest e = absurd cc
section_takes (b ∷ bs) x rest e =
    let c = mapped_some (λ content. (b, content)) (blob_at bs) x rest e in
    let f = blob_reads.takes bs c.0 rest c.1 in
    record { text = b ∷ f.text; parts = ap (λ (t : List ℕ). b ∷ t) f.parts; spells = subst (λ (s : Section). IsSection s (b ∷ f.text)) c.2 (record { front = b ∷ []; back = f.text; parts = refl; first = refl; second = f.spells }) }

section_again : (x : Section) (a rest : List ℕ) → IsSection x a → section_at (a ++ rest) ≡ Some (x, rest)
unfolding section_at byte_at
section_again x a rest p = ap section_at (regroup p rest) ∙ rw (p.first, blob_reads.again x.1 p.back rest p.second) refl

pub section_reads : Reads IsSection section_at
section_reads = record { takes = section_takes; again = section_again }
