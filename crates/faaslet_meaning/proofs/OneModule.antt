-- Bytes spell one module at most.
use Rattle.std.proofs.Common.{◌≡◌, ℕ, List, [], ◌∷◌, ◌++◌, Option, Some, None, refl, sym, ap, subst, ◌∙◌}
use Rattle.std.proofs.lemmas.List.{append_cancel_left, append-nil}
use Rattle.faaslet_meaning.specs.declared.module.Module.{Module}
use Rattle.faaslet_meaning.specs.Productions.{IsMany}
use Rattle.faaslet_meaning.specs.Numbers.{IsU32, IsVec}
use Rattle.faaslet_meaning.specs.Grammar.{IsFuncType, IsImport, IsTableType, IsLimits, IsGlobalDef, IsExport, IsElement, IsCodeEntry, IsSegment, Section, IsSection, content_of, IsPart, IsStart, Holds, header, IsModule}
use Rattle.faaslet_meaning.specs.Reading.{Read, unsigned_at, vec_at}
use Rattle.faaslet_meaning.specs.ModuleReading.{func_type_at, import_at, table_type_at, limits_at, global_def_at, export_at, element_at, body_at, segment_at, section_at}
use Rattle.faaslet_meaning.proofs.Readers.{Reads, once}
use Rattle.faaslet_meaning.proofs.NumberReaders.{unsigned_reads}
use Rattle.faaslet_meaning.proofs.VecReaders.{regroup, vec_reads}
use Rattle.faaslet_meaning.proofs.ModuleReaders.{func_type_reads, export_reads}
use Rattle.faaslet_meaning.proofs.TypeReaders.{limits_reads, table_type_reads, import_reads}
use Rattle.faaslet_meaning.proofs.BodyReaders.{global_def_reads, element_reads, body_reads, segment_reads, section_reads}

-- ---- lists of sections

pub section_not_empty : (s : Section) (a b : List ℕ) → IsSection s a → a ++ b ≡ [] → ⊥
section_not_empty s a b p e = let h = sym (regroup p b) ∙ e in let k = rw p.first at h in cc

-- of two lists of sections, one at the front of what the other spells: the other goes on from it
pub goes_on : (ss mine : List Section) (front rest body : List ℕ) → IsMany IsSection ss front → IsMany IsSection mine body → body ≡ front ++ rest → (more : List Section) × (mine ≡ ss ++ more) × IsMany IsSection more rest
goes_on [] mine front rest body p q e = (mine, refl, subst (IsMany IsSection mine) (e ∙ ap (λ (t : List ℕ). t ++ rest) p) q)
goes_on (s ∷ ss) [] front rest body p q e = absurd (section_not_empty s p.front (p.back ++ rest) p.first (sym (regroup p rest) ∙ sym e ∙ q))
goes_on (s ∷ ss) (t ∷ ts) front rest body p q e =
    let same = (once IsSection section_at section_reads).same t s q.front p.front q.back (p.back ++ rest) q.first p.first (sym q.parts ∙ e ∙ regroup p rest) in
    let h = goes_on ss ts p.back rest q.back p.second q.second same.2 in
    (h.0, cc (same.0, h.1), h.2)

-- ---- what the sections spell

pub part_once : {A : Type 0} (P : A → List ℕ → Type 0) (at : List ℕ → Read A) → Reads P at → (o : Option (List ℕ)) (xs ys : List A) → IsPart P o xs → IsPart P o ys → xs ≡ ys
part_once P at reads None xs ys p q = p ∙ sym q
part_once P at reads (Some c) xs ys p q = ((once (IsVec P) (vec_at at) (vec_reads P at reads)).same xs ys c c [] [] p q refl).0

pub start_once : (o : Option (List ℕ)) (x y : Option ℕ) → IsStart o x → IsStart o y → x ≡ y
start_once None x y p q = p ∙ sym q
start_once (Some c) None y p q = absurd p
start_once (Some c) (Some f) None p q = absurd q
start_once (Some c) (Some f) (Some g) p q = ap (λ (n : ℕ). Some n) ((once IsU32 (unsigned_at 32) (unsigned_reads 32)).same f g c c [] [] p q refl).0

pub holds_once : (ss : List Section) (m n : Module) → Holds ss m → Holds ss n → m ≡ n
holds_once ss m n p q =
    let types = part_once IsFuncType func_type_at func_type_reads (content_of 1 ss) m.types n.types p.types q.types in
    let imports = part_once IsImport import_at import_reads (content_of 2 ss) m.imports n.imports p.imports q.imports in
    let functions = part_once IsU32 (unsigned_at 32) (unsigned_reads 32) (content_of 3 ss) m.functions n.functions p.functions q.functions in
    let tables = part_once IsTableType table_type_at table_type_reads (content_of 4 ss) m.tables n.tables p.tables q.tables in
    let memories = part_once IsLimits limits_at limits_reads (content_of 5 ss) m.memories n.memories p.memories q.memories in
    let globals = part_once IsGlobalDef global_def_at global_def_reads (content_of 6 ss) m.globals n.globals p.globals q.globals in
    let exports = part_once IsExport export_at export_reads (content_of 7 ss) m.exports n.exports p.exports q.exports in
    let start = start_once (content_of 8 ss) m.start n.start p.start q.start in
    let elements = part_once IsElement element_at element_reads (content_of 9 ss) m.elements n.elements p.elements q.elements in
    let bodies = part_once IsCodeEntry body_at body_reads (content_of 10 ss) m.bodies n.bodies p.bodies q.bodies in
    let segments = part_once IsSegment segment_at segment_reads (content_of 11 ss) m.segments n.segments p.segments q.segments in
    ap (λ x. record m { types = x }) types
    ∙ ap (λ x. record m { types = n.types; imports = x }) imports
    ∙ ap (λ x. record m { types = n.types; imports = n.imports; functions = x }) functions
    ∙ ap (λ x. record m { types = n.types; imports = n.imports; functions = n.functions; tables = x }) tables
    ∙ ap (λ x. record m { types = n.types; imports = n.imports; functions = n.functions; tables = n.tables; memories = x }) memories
    ∙ ap (λ x. record m { types = n.types; imports = n.imports; functions = n.functions; tables = n.tables; memories = n.memories; globals = x }) globals
    ∙ ap (λ x. record m { types = n.types; imports = n.imports; functions = n.functions; tables = n.tables; memories = n.memories; globals = n.globals; exports = x }) exports
    ∙ ap (λ x. record m { types = n.types; imports = n.imports; functions = n.functions; tables = n.tables; memories = n.memories; globals = n.globals; exports = n.exports; start = x }) start
    ∙ ap (λ x. record m { types = n.types; imports = n.imports; functions = n.functions; tables = n.tables; memories = n.memories; globals = n.globals; exports = n.exports; start = n.start; elements = x }) elements
    ∙ ap (λ x. record m { types = n.types; imports = n.imports; functions = n.functions; tables = n.tables; memories = n.memories; globals = n.globals; exports = n.exports; start = n.start; elements = n.elements; bodies = x }) bodies
    ∙ ap (λ x. record n { segments = x }) segments

-- ---- the module

-- its sections are those of the bytes behind the header
pub body_of : (m : Module) (bytes body : List ℕ) → (x : IsModule m bytes) → bytes ≡ header ++ body → IsMany IsSection x.sections body
body_of m bytes body x e =
    let h : header ++ x.spells.back ≡ header ++ body = ap (λ (t : List ℕ). t ++ x.spells.back) (sym x.spells.first) ∙ sym x.spells.parts ∙ e in
    subst (IsMany IsSection x.sections) (append_cancel_left header x.spells.back body h) x.spells.second

pub no_more : (ss more : List Section) → IsMany IsSection more [] → ss ++ more ≡ ss
no_more ss [] p = append-nil ss
no_more ss (s ∷ more) p = absurd (section_not_empty s p.front p.back p.first (sym p.parts))

-- and no others
pub same_sections : (m : Module) (bytes body : List ℕ) (ss : List Section) (x : IsModule m bytes) → IsMany IsSection ss body → bytes ≡ header ++ body → x.sections ≡ ss
same_sections m bytes body ss x p e =
    let g = goes_on ss x.sections body [] body p (body_of m bytes body x e) (sym (append-nil body)) in
    g.1 ∙ no_more ss g.0 g.2

pub one_module : (m n : Module) (bytes : List ℕ) → IsModule m bytes → IsModule n bytes → m ≡ n
one_module m n bytes x y =
    let e : bytes ≡ header ++ x.spells.back = x.spells.parts ∙ ap (λ (t : List ℕ). t ++ x.spells.back) x.spells.first in
    let same : y.sections ≡ x.sections = same_sections n bytes x.spells.back x.sections y x.spells.second e in
    holds_once x.sections m n x.holds (subst (λ (ss : List Section). Holds ss n) same y.holds)

-- ---- no module

-- the bytes behind some sections begin with no section
pub unread : (m : Module) (bytes body front rest : List ℕ) (ss : List Section) → IsModule m bytes → bytes ≡ header ++ body → body ≡ front ++ rest → IsMany IsSection ss front → (rest ≡ [] → ⊥) → section_at rest ≡ None → ⊥
unread m bytes body front rest ss x e parts p some none =
    let g = goes_on ss x.sections front rest body p (body_of m bytes body x e) parts in
    go g.0 g.2
  where
    go : (more : List Section) → IsMany IsSection more rest → ⊥
    go [] p = some p
    go (t ∷ more) p = let h = section_reads.again t p.front p.back p.first in let k = ap section_at p.parts in cc
