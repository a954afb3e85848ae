-- The readers of the parts of a module.
use Rattle.std.proofs.Common.{◌≡◌, ℕ, ◌≤◌, false, cond, ltb, eqb, List, [], ◌∷◌, ◌++◌, length, take, drop, Some, None, inl, inr, refl, sym, ap, subst, ◌∙◌, arith}
use Rattle.std.specs.Str.{is_utf8}
use Rattle.std.proofs.lemmas.Str.{IsUtf8-from_is_utf8, is_utf8-from_IsUtf8}
use Rattle.std.proofs.lemmas.Bool.{ltb-false, le-ltb, eqb-true}
use Rattle.std.proofs.lemmas.List.{take_at, drop_at, take-append-drop, length-append, length-take}
use Rattle.faaslet_meaning.specs.declared.module.FuncType.{FuncType}
use Rattle.faaslet_meaning.specs.declared.module.Export.{Export}
use Rattle.faaslet_meaning.specs.declared.module.ExportKind.{ExportKind}
use Rattle.faaslet_meaning.specs.declared.module.ExportKind.TheVariants.{Function, Table, Memory, Global}
use Rattle.faaslet_meaning.specs.Productions.{Byte, Exactly, Front, Fronts}
use Rattle.faaslet_meaning.specs.Numbers.{IsU32, IsVec}
use Rattle.faaslet_meaning.specs.Instructions.{IsValType}
use Rattle.faaslet_meaning.specs.Grammar.{IsBlob, IsName, IsFuncType, IsExportKind, IsExport}
use Rattle.faaslet_meaning.specs.Reading.{◌>>=◌, byte_at, unsigned_at, val_type_at, vec_at}
use Rattle.faaslet_meaning.specs.ModuleReading.{blob_at, name_at, func_type_at, export_kind_at, export_at}
use Rattle.faaslet_meaning.proofs.Readers.{Reads, either, bind_some, some_is, front_is, byte_takes}
use Rattle.faaslet_meaning.proofs.NumberReaders.{unsigned_reads}
use Rattle.faaslet_meaning.proofs.InstrReaders.{val_type_reads}
use Rattle.faaslet_meaning.proofs.VecReaders.{fronts, fronts_then, regroup, vec_reads}

-- ---- blobs and names

blob_takes : (bytes x rest : List ℕ) → blob_at bytes ≡ Some (x, rest) → Front IsBlob bytes x rest
unfolding blob_at
blob_takes bytes x rest e =
    let b = bind_some (unsigned_at 32 bytes) (λ n. cond (ltb (length n.1) n.0) None (Some (take n.0 n.1, drop n.0 n.1))) (x, rest) e in
    let n = b.0 in
    let e1 = b.2 in
    elim (either (ltb (length n.1) n.0)) [
      | inl short ↦ (let h = rw short at e1 in absurd cc)
      | inr long ↦
          (let h = some_is (take n.0 n.1, drop n.0 n.1) (x, rest) (rw long at e1) in
          let le : n.0 ≤ length n.1 = ltb-false _ _ long in
          let len : length (take n.0 n.1) ≡ n.0 = omega (arith, length-take n.0 n.1) in
          let first = fronts ((unsigned_reads 32).takes bytes n.0 n.1 b.1) in
          let size : Fronts (IsU32 (length (take n.0 n.1))) bytes n.1 = subst (λ k. Fronts (IsU32 k) bytes n.1) (sym len) first in
          let content : Fronts (Exactly (take n.0 n.1)) n.1 (drop n.0 n.1) = record { text = take n.0 n.1; parts = sym (take-append-drop n.0 n.1); spells = refl } in
          let both = fronts_then size content in
          front_is IsBlob bytes (take n.0 n.1, drop n.0 n.1) (x, rest) h (record { text = both.text; parts = both.parts; spells = both.spells }))
    ]

blob_again : (x a rest : List ℕ) → IsBlob x a → blob_at (a ++ rest) ≡ Some (x, rest)
unfolding blob_at
blob_again x a rest p =
    let tail : p.back ++ rest ≡ x ++ rest = ap (λ (t : List ℕ). t ++ rest) p.second in
    let long : ltb (length (x ++ rest)) (length x) ≡ false = le-ltb _ _ (omega (arith, length-append x rest)) in
    ap blob_at (regroup p rest) ∙ rw ((unsigned_reads 32).again (length x) p.front (p.back ++ rest) p.first, tail, long, take_at x rest (length x) refl, drop_at x rest (length x) refl) refl

pub blob_reads : Reads IsBlob blob_at
blob_reads = record { takes = blob_takes; again = blob_again }

name_takes : (bytes x rest : List ℕ) → name_at bytes ≡ Some (x, rest) → Front IsName bytes x rest
unfolding name_at
name_takes bytes x rest e =
    let c = bind_some (blob_at bytes) (λ c. cond (is_utf8 c.0) (Some c) None) (x, rest) e in
    let e1 = c.2 in
    elim (either (is_utf8 c.0.0)) [
      | inl text ↦
          (let f = blob_takes bytes c.0.0 c.0.1 c.1 in
          front_is IsName bytes c.0 (x, rest) (some_is c.0 (x, rest) (rw text at e1)) (record { text = f.text; parts = f.parts; spells = (IsUtf8-from_is_utf8 c.0.0 text, f.spells) }))
      | inr bad ↦ (let h = rw bad at e1 in absurd cc)
    ]

name_again : (x a rest : List ℕ) → IsName x a → name_at (a ++ rest) ≡ Some (x, rest)
unfolding name_at
name_again x a rest p = rw (blob_again x a rest p.1, is_utf8-from_IsUtf8 x p.0) refl

pub name_reads : Reads IsName name_at
name_reads = record { takes = name_takes; again = name_again }

-- ---- function types and exports

func_type_takes : (bytes : List ℕ) (x : FuncType) (rest : List ℕ) → func_type_at bytes ≡ Some (x, rest) → Front IsFuncType bytes x rest
unfolding func_type_at byte_at
func_type_takes [] x rest e = absurd cc
func_type_takes (b ∷ bs) x rest e =
    elim (either (eqb b 0x60)) [
      | inl tag ↦
          (let e1 = rw tag at e in
          let p = bind_some (vec_at val_type_at bs) (λ p. vec_at val_type_at p.1 >>= λ r. Some (record { params = p.0; results = r.0 }, r.1)) (x, rest) e1 in
          let r = bind_some (vec_at val_type_at p.0.1) (λ r. Some (record { params = p.0.0; results = r.0 }, r.1)) (x, rest) p.2 in
          let k : b ≡ 0x60 = eqb-true _ _ tag in
          let first : Fronts (Byte 0x60) (b ∷ bs) bs = record { text = 0x60 ∷ []; parts = ap (λ (h : ℕ). h ∷ bs) k; spells = refl } in
          let all = fronts_then first (fronts_then (fronts (types.takes bs p.0.0 p.0.1 p.1)) (fronts (types.takes p.0.1 r.0.0 r.0.1 r.1))) in
          front_is IsFuncType (b ∷ bs) (record { params = p.0.0; results = r.0.0 }, r.0.1) (x, rest) (some_is _ _ r.2) (record { text = all.text; parts = all.parts; spells = all.spells }))
      | inr other ↦ (let h = rw other at e in absurd cc)
    ]
  where
    types : Reads (IsVec IsValType) (vec_at val_type_at)
    types = vec_reads IsValType val_type_at val_type_reads

func_type_again : (x : FuncType) (a rest : List ℕ) → IsFuncType x a → func_type_at (a ++ rest) ≡ Some (x, rest)
unfolding func_type_at byte_at
func_type_again x a rest p =
    let q = p.second in
    let types = vec_reads IsValType val_type_at val_type_reads in
    ap func_type_at (regroup p rest) ∙ rw (p.first, regroup q rest, types.again x.params q.front (q.back ++ rest) q.first, types.again x.results q.back rest q.second) refl

pub func_type_reads : Reads IsFuncType func_type_at
func_type_reads = record { takes = func_type_takes; again = func_type_again }

export_kind_takes : (bytes : List ℕ) (x : ExportKind) (rest : List ℕ) → export_kind_at bytes ≡ Some (x, rest) → Front IsExportKind bytes x rest
unfolding export_kind_at byte_at
export_kind_takes [] x rest e = absurd cc
export_kind_takes (b ∷ bs) x rest e =
    elim (either (eqb b 0x00)) [
      | inl h ↦ byte_takes IsExportKind 0x00 b Function bs x rest (eqb-true _ _ h) refl (rw h at e)
      | inr h ↦ (let e = rw h at e in elim (either (eqb b 0x01)) [
        | inl h ↦ byte_takes IsExportKind 0x01 b Table bs x rest (eqb-true _ _ h) refl (rw h at e)
        | inr h ↦ (let e = rw h at e in elim (either (eqb b 0x02)) [
          | inl h ↦ byte_takes IsExportKind 0x02 b Memory bs x rest (eqb-true _ _ h) refl (rw h at e)
          | inr h ↦ (let e = rw h at e in elim (either (eqb b 0x03)) [
            | inl h ↦ byte_takes IsExportKind 0x03 b Global bs x rest (eqb-true _ _ h) refl (rw h at e)
            | inr h ↦ (let e = rw h at e in absurd cc)
          ])
        ])
      ])
    ]

export_kind_again : (x : ExportKind) (a rest : List ℕ) → IsExportKind x a → export_kind_at (a ++ rest) ≡ Some (x, rest)
unfolding export_kind_at byte_at
export_kind_again Function a rest p = rw p refl
export_kind_again Table a rest p = rw p refl
export_kind_again Memory a rest p = rw p refl
export_kind_again Global a rest p = rw p refl

export_takes : (bytes : List ℕ) (x : Export) (rest : List ℕ) → export_at bytes ≡ Some (x, rest) → Front IsExport bytes x rest
unfolding export_at
export_takes bytes x rest e =
    let n = bind_some (name_at bytes) (λ n. export_kind_at n.1 >>= λ k. unsigned_at 32 k.1 >>= λ i. Some (record { name = n.0; kind = k.0; index = i.0 }, i.1)) (x, rest) e in
    let k = bind_some (export_kind_at n.0.1) (λ k. unsigned_at 32 k.1 >>= λ i. Some (record { name = n.0.0; kind = k.0; index = i.0 }, i.1)) (x, rest) n.2 in
    let i = bind_some (unsigned_at 32 k.0.1) (λ i. Some (record { name = n.0.0; kind = k.0.0; index = i.0 }, i.1)) (x, rest) k.2 in
    let all = fronts_then (fronts (name_takes bytes n.0.0 n.0.1 n.1)) (fronts_then (fronts (export_kind_takes n.0.1 k.0.0 k.0.1 k.1)) (fronts ((unsigned_reads 32).takes k.0.1 i.0.0 i.0.1 i.1))) in
    front_is IsExport bytes (record { name = n.0.0; kind = k.0.0; index = i.0.0 }, i.0.1) (x, rest) (some_is _ _ i.2) (record { text = all.text; parts = all.parts; spells = all.spells })

export_again : (x : Export) (a rest : List ℕ) → IsExport x a → export_at (a ++ rest) ≡ Some (x, rest)
unfolding export_at
export_again x a rest p =
    let q = p.second in
    ap export_at (regroup p rest) ∙ rw (name_again x.name p.front (p.back ++ rest) p.first, regroup q rest, export_kind_again x.kind q.front (q.back ++ rest) q.first, (unsigned_reads 32).again x.index q.back rest q.second) refl

pub export_reads : Reads IsExport export_at
export_reads = record { takes = export_takes; again = export_again }
