-- What a section's content makes of a module.
use Rattle.std.proofs.Common.{◌≡◌, ℕ, zero, suc, ◌<◌, ◌≤◌, Bool, true, false, eqb, List, [], ◌∷◌, ◌++◌, Option, Some, None, refl, sym, ap, subst, ◌∙◌, arith}
use Rattle.std.proofs.lemmas.Bool.{eqb-true, ne_eqb}
use Rattle.std.proofs.lemmas.List.{append-nil}
use Rattle.faaslet_meaning.specs.declared.module.Module.{Module}
use Rattle.faaslet_meaning.specs.Numbers.{IsU32, IsVec}
use Rattle.faaslet_meaning.specs.Grammar.{IsFuncType, IsImport, IsTableType, IsLimits, IsGlobalDef, IsExport, IsElement, IsCodeEntry, IsSegment, Section, IsCustom, content_of, IsPart, IsStart, Holds}
use Rattle.faaslet_meaning.specs.Reading.{Read, ◌>>=◌, unsigned_at, vec_at}
use Rattle.faaslet_meaning.specs.ModuleReading.{whole, name_at, func_type_at, import_at, table_type_at, limits_at, global_def_at, export_at, element_at, body_at, segment_at}
use Rattle.faaslet_meaning.proofs.Readers.{Reads, bind_some}
use Rattle.faaslet_meaning.proofs.NumberReaders.{unsigned_reads}
use Rattle.faaslet_meaning.proofs.VecReaders.{vec_reads}
use Rattle.faaslet_meaning.proofs.ModuleReaders.{name_reads, func_type_reads, export_reads}
use Rattle.faaslet_meaning.proofs.TypeReaders.{import_reads, table_type_reads, limits_reads}
use Rattle.faaslet_meaning.proofs.BodyReaders.{global_def_reads, element_reads, body_reads, segment_reads, whole_some, all_again}
use Rattle.wasm_decode.specs.Sections.{filled}
use Rattle.wasm_decode.proofs.SectionLists.{of_other, of_same}

-- ---- what changes

-- the content of the section id spells the new value of the part j, where that is its section, and else the part is as before
abbrev pub Changed : {A : Type 0} → Bool → (A → List ℕ → Type 0) → List ℕ → A → A → Type 0
Changed true P c old new = P new c
Changed false P c old new = new ≡ old

-- the index of the start function is given
pub record IsStartOf (start : Option ℕ) (c : List ℕ) : Type 0 where
  pub index : ℕ
  pub given : start ≡ Some index
  pub spells : IsU32 index c

pub record Changes (id : ℕ) (c : List ℕ) (m n : Module) : Type 0 where
  pub types : Changed (eqb id 1) (IsVec IsFuncType) c m.types n.types
  pub imports : Changed (eqb id 2) (IsVec IsImport) c m.imports n.imports
  pub functions : Changed (eqb id 3) (IsVec IsU32) c m.functions n.functions
  pub tables : Changed (eqb id 4) (IsVec IsTableType) c m.tables n.tables
  pub memories : Changed (eqb id 5) (IsVec IsLimits) c m.memories n.memories
  pub globals : Changed (eqb id 6) (IsVec IsGlobalDef) c m.globals n.globals
  pub exports : Changed (eqb id 7) (IsVec IsExport) c m.exports n.exports
  pub start : Changed (eqb id 8) IsStartOf c m.start n.start
  pub elements : Changed (eqb id 9) (IsVec IsElement) c m.elements n.elements
  pub bodies : Changed (eqb id 10) (IsVec IsCodeEntry) c m.bodies n.bodies
  pub segments : Changed (eqb id 11) (IsVec IsSegment) c m.segments n.segments

part_more : {A : Type 0} (P : A → List ℕ → Type 0) (j id : ℕ) (c : List ℕ) (ss : List Section) (old new : List A) → (id ≡ j → content_of j ss ≡ None) → Changed (eqb id j) (IsVec P) c old new → IsPart P (content_of j ss) old → IsPart P (content_of j (ss ++ (id, c) ∷ [])) new
part_more P j id c ss old new first changed p = go (eqb id j) refl changed
  where
    go : (b : Bool) → eqb id j ≡ b → Changed b (IsVec P) c old new → IsPart P (content_of j (ss ++ (id, c) ∷ [])) new
    go true e spells =
        let same : id ≡ j = eqb-true _ _ e in
        let there : content_of j (ss ++ (id, c) ∷ []) ≡ Some c = ap (λ (i : ℕ). content_of j (ss ++ (i, c) ∷ [])) same ∙ of_same j c ss [] (first same) in
        subst (λ (o : Option (List ℕ)). IsPart P o new) (sym there) spells
    go false e is = subst (λ (o : Option (List ℕ)). IsPart P o new) (sym (of_other j id c ss e)) (subst (IsPart P (content_of j ss)) (sym is) p)

start_more : (j id : ℕ) (c : List ℕ) (ss : List Section) (old new : Option ℕ) → (id ≡ j → content_of j ss ≡ None) → Changed (eqb id j) IsStartOf c old new → IsStart (content_of j ss) old → IsStart (content_of j (ss ++ (id, c) ∷ [])) new
start_more j id c ss old new first changed p = go (eqb id j) refl changed
  where
    go : (b : Bool) → eqb id j ≡ b → Changed b IsStartOf c old new → IsStart (content_of j (ss ++ (id, c) ∷ [])) new
    go true e of =
        let same : id ≡ j = eqb-true _ _ e in
        let there : content_of j (ss ++ (id, c) ∷ []) ≡ Some c = ap (λ (i : ℕ). content_of j (ss ++ (i, c) ∷ [])) same ∙ of_same j c ss [] (first same) in
        subst (λ (o : Option (List ℕ)). IsStart o new) (sym there) (subst (IsStart (Some c)) (sym of.given) of.spells)
    go false e is = subst (λ (o : Option (List ℕ)). IsStart o new) (sym (of_other j id c ss e)) (subst (IsStart (content_of j ss)) (sym is) p)

-- the sections hold the new module, with this section at their end
pub holds_more : (ss : List Section) (id : ℕ) (c : List ℕ) (m n : Module) → (0 < id → content_of id ss ≡ None) → Changes id c m n → Holds ss m → Holds (ss ++ (id, c) ∷ []) n
holds_more ss id c m n first ch h = record {
  types = part_more IsFuncType 1 id c ss m.types n.types (none 1 (omega arith)) ch.types h.types;
  imports = part_more IsImport 2 id c ss m.imports n.imports (none 2 (omega arith)) ch.imports h.imports;
  functions = part_more IsU32 3 id c ss m.functions n.functions (none 3 (omega arith)) ch.functions h.functions;
  tables = part_more IsTableType 4 id c ss m.tables n.tables (none 4 (omega arith)) ch.tables h.tables;
  memories = part_more IsLimits 5 id c ss m.memories n.memories (none 5 (omega arith)) ch.memories h.memories;
  globals = part_more IsGlobalDef 6 id c ss m.globals n.globals (none 6 (omega arith)) ch.globals h.globals;
  exports = part_more IsExport 7 id c ss m.exports n.exports (none 7 (omega arith)) ch.exports h.exports;
  start = start_more 8 id c ss m.start n.start (none 8 (omega arith)) ch.start h.start;
  elements = part_more IsElement 9 id c ss m.elements n.elements (none 9 (omega arith)) ch.elements h.elements;
  bodies = part_more IsCodeEntry 10 id c ss m.bodies n.bodies (none 10 (omega arith)) ch.bodies h.bodies;
  segments = part_more IsSegment 11 id c ss m.segments n.segments (none 11 (omega arith)) ch.segments h.segments;
}
  where
    none : (j : ℕ) → 0 < j → id ≡ j → content_of j ss ≡ None
    none j lt same = subst (λ (i : ℕ). content_of i ss ≡ None) same (first (omega (arith, lt, same)))

-- ---- case by case

-- what holds at each id of a section, and at those that are none
by_id : (Q : ℕ → Type 0) → Q 0 → Q 1 → Q 2 → Q 3 → Q 4 → Q 5 → Q 6 → Q 7 → Q 8 → Q 9 → Q 10 → Q 11 → ((i : ℕ) → 11 < i → Q i) → (id : ℕ) → Q id
by_id Q q0 q1 q2 q3 q4 q5 q6 q7 q8 q9 q10 q11 more zero = q0
by_id Q q0 q1 q2 q3 q4 q5 q6 q7 q8 q9 q10 q11 more (suc zero) = q1
by_id Q q0 q1 q2 q3 q4 q5 q6 q7 q8 q9 q10 q11 more (suc (suc zero)) = q2
by_id Q q0 q1 q2 q3 q4 q5 q6 q7 q8 q9 q10 q11 more (suc (suc (suc zero))) = q3
by_id Q q0 q1 q2 q3 q4 q5 q6 q7 q8 q9 q10 q11 more (suc (suc (suc (suc zero)))) = q4
by_id Q q0 q1 q2 q3 q4 q5 q6 q7 q8 q9 q10 q11 more (suc (suc (suc (suc (suc zero))))) = q5
by_id Q q0 q1 q2 q3 q4 q5 q6 q7 q8 q9 q10 q11 more (suc (suc (suc (suc (suc (suc zero)))))) = q6
by_id Q q0 q1 q2 q3 q4 q5 q6 q7 q8 q9 q10 q11 more (suc (suc (suc (suc (suc (suc (suc zero))))))) = q7
by_id Q q0 q1 q2 q3 q4 q5 q6 q7 q8 q9 q10 q11 more (suc (suc (suc (suc (suc (suc (suc (suc zero)))))))) = q8
by_id Q q0 q1 q2 q3 q4 q5 q6 q7 q8 q9 q10 q11 more (suc (suc (suc (suc (suc (suc (suc (suc (suc zero))))))))) = q9
by_id Q q0 q1 q2 q3 q4 q5 q6 q7 q8 q9 q10 q11 more (suc (suc (suc (suc (suc (suc (suc (suc (suc (suc zero)))))))))) = q10
by_id Q q0 q1 q2 q3 q4 q5 q6 q7 q8 q9 q10 q11 more (suc (suc (suc (suc (suc (suc (suc (suc (suc (suc (suc zero))))))))))) = q11
by_id Q q0 q1 q2 q3 q4 q5 q6 q7 q8 q9 q10 q11 more (suc (suc (suc (suc (suc (suc (suc (suc (suc (suc (suc (suc i)))))))))))) = more (suc (suc (suc (suc (suc (suc (suc (suc (suc (suc (suc (suc i)))))))))))) (omega arith)

-- ---- what `filled` makes

part_takes : {A : Type 0} (P : A → List ℕ → Type 0) (at : List ℕ → Read A) → Reads P at → (c : List ℕ) (set : List A → Module) (n : Module) → (whole (vec_at at c) >>= λ xs. Some (set xs)) ≡ Some n → (xs : List A) × IsVec P xs c × (set xs ≡ n)
part_takes P at reads c set n e =
    let x = bind_some (whole (vec_at at c)) (λ xs. Some (set xs)) n e in
    let f = (vec_reads P at reads).takes c x.0 [] (whole_some (vec_at at c) x.0 x.1) in
    (x.0, subst (IsVec P x.0) (sym (f.parts ∙ append-nil f.text)) f.spells, (let h = x.2 in cc))

start_takes : (c : List ℕ) (set : Option ℕ → Module) (n : Module) → (whole (unsigned_at 32 c) >>= λ f. Some (set (Some f))) ≡ Some n → (f : ℕ) × IsU32 f c × (set (Some f) ≡ n)
start_takes c set n e =
    let x = bind_some (whole (unsigned_at 32 c)) (λ f. Some (set (Some f))) n e in
    let f = (unsigned_reads 32).takes c x.0 [] (whole_some (unsigned_at 32 c) x.0 x.1) in
    (x.0, subst (IsU32 x.0) (sym (f.parts ∙ append-nil f.text)) f.spells, (let h = x.2 in cc))

pub custom_takes : (c : List ℕ) (m n : Module) → filled m 0 c ≡ Some n → IsCustom c × (m ≡ n)
unfolding filled
custom_takes c m n e =
    let x = bind_some (name_at c) (λ x. Some m) n e in
    let f = name_reads.takes c x.0.0 x.0.1 x.1 in
    (record { name = x.0.0; rest = x.0.1; spells = record { front = f.text; back = x.0.1; parts = f.parts; first = f.spells; second = refl } }, (let h = x.2 in cc))

none_above : (id : ℕ) (c : List ℕ) (m : Module) → 11 < id → filled m id c ≡ None
unfolding filled
none_above id c m above = rw (off 0 (omega arith), off 1 (omega arith), off 2 (omega arith), off 3 (omega arith), off 4 (omega arith), off 5 (omega arith), off 6 (omega arith), off 7 (omega arith), off 8 (omega arith), off 9 (omega arith), off 10 (omega arith), off 11 (omega arith)) refl
  where
    off : (k : ℕ) → k ≤ 11 → eqb id k ≡ false
    off k le = ne_eqb id k (λ z. omega (arith, above, le, z))

pub changes : (id : ℕ) (c : List ℕ) (m n : Module) → filled m id c ≡ Some n → Changes id c m n
unfolding filled
changes id c m n e =
    by_id (λ i. filled m i c ≡ Some n → Changes i c m n)
    (λ e. subst (Changes 0 c m) (custom_takes c m n e).1 (record { types = refl; imports = refl; functions = refl; tables = refl; memories = refl; globals = refl; exports = refl; start = refl; elements = refl; bodies = refl; segments = refl }))
    (λ e. let x = part_takes IsFuncType func_type_at func_type_reads c (λ xs. record m { types = xs }) n e in subst (Changes 1 c m) x.2 (record { types = x.1; imports = refl; functions = refl; tables = refl; memories = refl; globals = refl; exports = refl; start = refl; elements = refl; bodies = refl; segments = refl }))
    (λ e. let x = part_takes IsImport import_at import_reads c (λ xs. record m { imports = xs }) n e in subst (Changes 2 c m) x.2 (record { types = refl; imports = x.1; functions = refl; tables = refl; memories = refl; globals = refl; exports = refl; start = refl; elements = refl; bodies = refl; segments = refl }))
    (λ e. let x = part_takes IsU32 (unsigned_at 32) (unsigned_reads 32) c (λ xs. record m { functions = xs }) n e in subst (Changes 3 c m) x.2 (record { types = refl; imports = refl; functions = x.1; tables = refl; memories = refl; globals = refl; exports = refl; start = refl; elements = refl; bodies = refl; segments = refl }))
    (λ e. let x = part_takes IsTableType table_type_at table_type_reads c (λ xs. record m { tables = xs }) n e in subst (Changes 4 c m) x.2 (record { types = refl; imports = refl; functions = refl; tables = x.1; memories = refl; globals = refl; exports = refl; start = refl; elements = refl; bodies = refl; segments = refl }))
    (λ e. let x = part_takes IsLimits limits_at limits_reads c (λ xs. record m { memories = xs }) n e in subst (Changes 5 c m) x.2 (record { types = refl; imports = refl; functions = refl; tables = refl; memories = x.1; globals = refl; exports = refl; start = refl; elements = refl; bodies = refl; segments = refl }))
    (λ e. let x = part_takes IsGlobalDef global_def_at global_def_reads c (λ xs. record m { globals = xs }) n e in subst (Changes 6 c m) x.2 (record { types = refl; imports = refl; functions = refl; tables = refl; memories = refl; globals = x.1; exports = refl; start = refl; elements = refl; bodies = refl; segments = refl }))
    (λ e. let x = part_takes IsExport export_at export_reads c (λ xs. record m { exports = xs }) n e in subst (Changes 7 c m) x.2 (record { types = refl; imports = refl; functions = refl; tables = refl; memories = refl; globals = refl; exports = x.1; start = refl; elements = refl; bodies = refl; segments = refl }))
    (λ e. let x = start_takes c (λ f. record m { start = f }) n e in subst (Changes 8 c m) x.2 (record { types = refl; imports = refl; functions = refl; tables = refl; memories = refl; globals = refl; exports = refl; start = record { index = x.0; given = refl; spells = x.1 }; elements = refl; bodies = refl; segments = refl }))
    (λ e. let x = part_takes IsElement element_at element_reads c (λ xs. record m { elements = xs }) n e in subst (Changes 9 c m) x.2 (record { types = refl; imports = refl; functions = refl; tables = refl; memories = refl; globals = refl; exports = refl; start = refl; elements = x.1; bodies = refl; segments = refl }))
    (λ e. let x = part_takes IsCodeEntry body_at body_reads c (λ xs. record m { bodies = xs }) n e in subst (Changes 10 c m) x.2 (record { types = refl; imports = refl; functions = refl; tables = refl; memories = refl; globals = refl; exports = refl; start = refl; elements = refl; bodies = x.1; segments = refl }))
    (λ e. let x = part_takes IsSegment segment_at segment_reads c (λ xs. record m { segments = xs }) n e in subst (Changes 11 c m) x.2 (record { types = refl; imports = refl; functions = refl; tables = refl; memories = refl; globals = refl; exports = refl; start = refl; elements = refl; bodies = refl; segments = x.1 }))
    (λ i above e. let h = sym (none_above i c m above) ∙ e in absurd cc) id e

-- ---- and what a module has is taken

whole_vec : {A : Type 0} (P : A → List ℕ → Type 0) (at : List ℕ → Read A) → Reads P at → (c : List ℕ) (xs : List A) → IsVec P xs c → whole (vec_at at c) ≡ Some xs
whole_vec P at reads c xs p = rw (all_again (IsVec P) (vec_at at) (vec_reads P at reads) xs c p) refl

part_again : {A : Type 0} (P : A → List ℕ → Type 0) (at : List ℕ → Read A) → Reads P at → (c : List ℕ) (set : List A → Module) (o : Option (List ℕ)) (xs : List A) → o ≡ Some c → IsPart P o xs → (n : Module) × ((whole (vec_at at c) >>= λ xs. Some (set xs)) ≡ Some n)
part_again P at reads c set o xs is p = (set xs, rw (whole_vec P at reads c xs (subst (λ (q : Option (List ℕ)). IsPart P q xs) is p)) refl)

start_again : (c : List ℕ) (set : Option ℕ → Module) (o : Option (List ℕ)) (start : Option ℕ) → o ≡ Some c → IsStart o start → (n : Module) × ((whole (unsigned_at 32 c) >>= λ f. Some (set (Some f))) ≡ Some n)
start_again c set o start is p = go start (subst (λ (q : Option (List ℕ)). IsStart q start) is p)
  where
    go : (s : Option ℕ) → IsStart (Some c) s → (n : Module) × ((whole (unsigned_at 32 c) >>= λ f. Some (set (Some f))) ≡ Some n)
    go None q = absurd q
    go (Some f) q = (set (Some f), rw (all_again IsU32 (unsigned_at 32) (unsigned_reads 32) f c q) refl)

pub custom_again : (c : List ℕ) (m : Module) → IsCustom c → (n : Module) × (filled m 0 c ≡ Some n)
unfolding filled
custom_again c m x = (m, (let h = ap name_at x.spells.parts ∙ name_reads.again x.name x.spells.front x.spells.back x.spells.first in rw h refl))

-- the sections, of which this is the one with its id, hold some module w
pub filled_again : (id : ℕ) (c : List ℕ) (ss : List Section) (m w : Module) → 0 < id → id ≤ 11 → content_of id ss ≡ Some c → Holds ss w → (n : Module) × (filled m id c ≡ Some n)
unfolding filled
filled_again id c ss m w some most is h =
    by_id (λ i. 0 < i → i ≤ 11 → content_of i ss ≡ Some c → (n : Module) × (filled m i c ≡ Some n))
    (λ some most is. absurd (omega (arith, some)))
    (λ some most is. part_again IsFuncType func_type_at func_type_reads c (λ xs. record m { types = xs }) (content_of 1 ss) w.types is h.types)
    (λ some most is. part_again IsImport import_at import_reads c (λ xs. record m { imports = xs }) (content_of 2 ss) w.imports is h.imports)
    (λ some most is. part_again IsU32 (unsigned_at 32) (unsigned_reads 32) c (λ xs. record m { functions = xs }) (content_of 3 ss) w.functions is h.functions)
    (λ some most is. part_again IsTableType table_type_at table_type_reads c (λ xs. record m { tables = xs }) (content_of 4 ss) w.tables is h.tables)
    (λ some most is. part_again IsLimits limits_at limits_reads c (λ xs. record m { memories = xs }) (content_of 5 ss) w.memories is h.memories)
    (λ some most is. part_again IsGlobalDef global_def_at global_def_reads c (λ xs. record m { globals = xs }) (content_of 6 ss) w.globals is h.globals)
    (λ some most is. part_again IsExport export_at export_reads c (λ xs. record m { exports = xs }) (content_of 7 ss) w.exports is h.exports)
    (λ some most is. start_again c (λ f. record m { start = f }) (content_of 8 ss) w.start is h.start)
    (λ some most is. part_again IsElement element_at element_reads c (λ xs. record m { elements = xs }) (content_of 9 ss) w.elements is h.elements)
    (λ some most is. part_again IsCodeEntry body_at body_reads c (λ xs. record m { bodies = xs }) (content_of 10 ss) w.bodies is h.bodies)
    (λ some most is. part_again IsSegment segment_at segment_reads c (λ xs. record m { segments = xs }) (content_of 11 ss) w.segments is h.segments)
    (λ i above some most is. absurd (omega (arith, above, most))) id some most is
