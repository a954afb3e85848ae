-- The readers of limits, table types, global types and imports.
use Rattle.std.proofs.Common.{◌≡◌, ℕ, Bool, true, false, eqb, List, [], ◌∷◌, ◌++◌, Option, Some, None, inl, inr, refl, ap, ◌∙◌}
use Rattle.std.proofs.lemmas.Bool.{eqb-true}
use Rattle.faaslet_meaning.specs.declared.module.Limits.{Limits}
use Rattle.faaslet_meaning.specs.declared.module.GlobalType.{GlobalType}
use Rattle.faaslet_meaning.specs.declared.module.Import.{Import}
use Rattle.faaslet_meaning.specs.declared.module.ImportKind.{ImportKind}
use Rattle.faaslet_meaning.specs.declared.module.ImportKind.TheVariants as imported
use Rattle.faaslet_meaning.specs.Productions.{◌⨾◌, Front}
use Rattle.faaslet_meaning.specs.Numbers.{IsU32}
use Rattle.faaslet_meaning.specs.Instructions.{IsValType}
use Rattle.faaslet_meaning.specs.Grammar.{IsName, IsLimits, IsTableType, IsMutability, IsGlobalType, IsImportKind, IsImport}
use Rattle.faaslet_meaning.specs.Reading.{byte_at, unsigned_at, val_type_at, pair_at}
use Rattle.faaslet_meaning.specs.ModuleReading.{name_at, limits_at, table_type_at, mutability_at, global_type_at, import_kind_at, import_at}
use Rattle.faaslet_meaning.proofs.Readers.{Reads, either, byte_takes, operand_takes, tagged, tag_parts}
use Rattle.faaslet_meaning.proofs.NumberReaders.{unsigned_reads}
use Rattle.faaslet_meaning.proofs.VecReaders.{regroup, two_takes, three_takes}
use Rattle.faaslet_meaning.proofs.InstrReaders.{IsPair, pair_reads, val_type_reads}
use Rattle.faaslet_meaning.proofs.ModuleReaders.{name_reads}

limits_takes : (bytes : List ℕ) (x : Limits) (rest : List ℕ) → limits_at bytes ≡ Some (x, rest) → Front IsLimits bytes x rest
unfolding limits_at byte_at
limits_takes [] x rest e = absurd cc
limits_takes (b ∷ bs) x rest e =
    elim (either (eqb b 0x00)) [
      | inl h ↦ operand_takes IsLimits IsU32 (unsigned_at 32) 0x00 b (λ n. record { min = n; max = None }) bs x rest (unsigned_reads 32) (eqb-true _ _ h) (λ n a q. tagged 0x00 a q) (rw h at e)
      | inr h ↦ (let e = rw h at e in elim (either (eqb b 0x01)) [
        | inl h ↦ operand_takes IsLimits IsPair pair_at 0x01 b (λ p. record { min = p.0; max = Some p.1 }) bs x rest pair_reads (eqb-true _ _ h) (λ n a q. tagged 0x01 a q) (rw h at e)
        | inr h ↦ (let e = rw h at e in absurd cc)
      ])
    ]

limits_again : (min : ℕ) (max : Option ℕ) (a rest : List ℕ) → IsLimits (record { min = min; max = max }) a → limits_at (a ++ rest) ≡ Some (record { min = min; max = max }, rest)
unfolding limits_at byte_at
limits_again min None a rest p = ap limits_at (tag_parts (IsU32 min) 0x00 a rest p) ∙ rw ((unsigned_reads 32).again min p.back rest p.second) refl
limits_again min (Some max) a rest p = ap limits_at (tag_parts (IsU32 min ⨾ IsU32 max) 0x01 a rest p) ∙ rw (pair_reads.again (min, max) p.back rest p.second) refl

pub limits_reads : Reads IsLimits limits_at
limits_reads = record { takes = limits_takes; again = λ x a rest p. limits_again x.min x.max a rest p }

table_type_takes : (bytes : List ℕ) (x : Limits) (rest : List ℕ) → table_type_at bytes ≡ Some (x, rest) → Front IsTableType bytes x rest
unfolding table_type_at byte_at
table_type_takes [] x rest e = absurd cc
table_type_takes (b ∷ bs) x rest e =
    elim (either (eqb b 0x70)) [
      | inl h ↦
          (let f = limits_takes bs x rest (rw h at e) in
          record { text = 0x70 ∷ f.text; parts = ap (λ (k : ℕ). k ∷ bs) (eqb-true _ _ h) ∙ ap (λ (t : List ℕ). 0x70 ∷ t) f.parts; spells = tagged 0x70 f.text f.spells })
      | inr h ↦ (let e = rw h at e in absurd cc)
    ]

table_type_again : (x : Limits) (a rest : List ℕ) → IsTableType x a → table_type_at (a ++ rest) ≡ Some (x, rest)
unfolding table_type_at byte_at
table_type_again x a rest p = ap table_type_at (tag_parts (IsLimits x) 0x70 a rest p) ∙ limits_reads.again x p.back rest p.second

pub table_type_reads : Reads IsTableType table_type_at
table_type_reads = record { takes = table_type_takes; again = table_type_again }

mutability_takes : (bytes : List ℕ) (x : Bool) (rest : List ℕ) → mutability_at bytes ≡ Some (x, rest) → Front IsMutability bytes x rest
unfolding mutability_at byte_at
mutability_takes [] x rest e = absurd cc
mutability_takes (b ∷ bs) x rest e =
    elim (either (eqb b 0x00)) [
      | inl h ↦ byte_takes IsMutability 0x00 b false bs x rest (eqb-true _ _ h) refl (rw h at e)
      | inr h ↦ (let e = rw h at e in elim (either (eqb b 0x01)) [
        | inl h ↦ byte_takes IsMutability 0x01 b true bs x rest (eqb-true _ _ h) refl (rw h at e)
        | inr h ↦ (let e = rw h at e in absurd cc)
      ])
    ]

mutability_again : (x : Bool) (a rest : List ℕ) → IsMutability x a → mutability_at (a ++ rest) ≡ Some (x, rest)
unfolding mutability_at byte_at
mutability_again false a rest p = rw p refl
mutability_again true a rest p = rw p refl

pub mutability_reads : Reads IsMutability mutability_at
mutability_reads = record { takes = mutability_takes; again = mutability_again }

global_type_takes : (bytes : List ℕ) (x : GlobalType) (rest : List ℕ) → global_type_at bytes ≡ Some (x, rest) → Front IsGlobalType bytes x rest
unfolding global_type_at
global_type_takes bytes x rest e = two_takes IsValType IsMutability IsGlobalType val_type_at mutability_at (λ value mutable. record { value = value; mutable = mutable }) bytes x rest val_type_reads mutability_reads (λ a b t p. p) e

global_type_again : (x : GlobalType) (a rest : List ℕ) → IsGlobalType x a → global_type_at (a ++ rest) ≡ Some (x, rest)
unfolding global_type_at
global_type_again x a rest p = ap global_type_at (regroup p rest) ∙ rw (val_type_reads.again x.value p.front (p.back ++ rest) p.first, mutability_again x.mutable p.back rest p.second) refl

pub global_type_reads : Reads IsGlobalType global_type_at
global_type_reads = record { takes = global_type_takes; again = global_type_again }

import_kind_takes : (bytes : List ℕ) (x : ImportKind) (rest : List ℕ) → import_kind_at bytes ≡ Some (x, rest) → Front IsImportKind bytes x rest
unfolding import_kind_at byte_at
import_kind_takes [] x rest e = absurd cc
import_kind_takes (b ∷ bs) x rest e =
    elim (either (eqb b 0x00)) [
      | inl h ↦ operand_takes IsImportKind IsU32 (unsigned_at 32) 0x00 b (λ t. imported.Function t) bs x rest (unsigned_reads 32) (eqb-true _ _ h) (λ n a q. tagged 0x00 a q) (rw h at e)
      | inr h ↦ (let e = rw h at e in elim (either (eqb b 0x01)) [
        | inl h ↦ operand_takes IsImportKind IsTableType table_type_at 0x01 b (λ l. imported.Table l) bs x rest table_type_reads (eqb-true _ _ h) (λ n a q. tagged 0x01 a q) (rw h at e)
        | inr h ↦ (let e = rw h at e in elim (either (eqb b 0x02)) [
          | inl h ↦ operand_takes IsImportKind IsLimits limits_at 0x02 b (λ l. imported.Memory l) bs x rest limits_reads (eqb-true _ _ h) (λ n a q. tagged 0x02 a q) (rw h at e)
          | inr h ↦ (let e = rw h at e in elim (either (eqb b 0x03)) [
            | inl h ↦ operand_takes IsImportKind IsGlobalType global_type_at 0x03 b (λ g. imported.Global g) bs x rest global_type_reads (eqb-true _ _ h) (λ n a q. tagged 0x03 a q) (rw h at e)
            | inr h ↦ (let e = rw h at e in absurd cc)
          ])
        ])
      ])
    ]

import_kind_again : (x : ImportKind) (a rest : List ℕ) → IsImportKind x a → import_kind_at (a ++ rest) ≡ Some (x, rest)
unfolding import_kind_at byte_at
import_kind_again (imported.Function t) a rest p = ap import_kind_at (tag_parts (IsU32 t) 0x00 a rest p) ∙ rw ((unsigned_reads 32).again t p.back rest p.second) refl
import_kind_again (imported.Table l) a rest p = ap import_kind_at (tag_parts (IsTableType l) 0x01 a rest p) ∙ rw (table_type_reads.again l p.back rest p.second) refl
import_kind_again (imported.Memory l) a rest p = ap import_kind_at (tag_parts (IsLimits l) 0x02 a rest p) ∙ rw (limits_reads.again l p.back rest p.second) refl
import_kind_again (imported.Global g) a rest p = ap import_kind_at (tag_parts (IsGlobalType g) 0x03 a rest p) ∙ rw (global_type_reads.again g p.back rest p.second) refl

pub import_kind_reads : Reads IsImportKind import_kind_at
import_kind_reads = record { takes = import_kind_takes; again = import_kind_again }

import_takes : (bytes : List ℕ) (x : Import) (rest : List ℕ) → import_at bytes ≡ Some (x, rest) → Front IsImport bytes x rest
unfolding import_at
import_takes bytes x rest e = three_takes IsName IsName IsImportKind IsImport name_at name_at import_kind_at (λ place name kind. record { «module» = place; name = name; kind = kind }) bytes x rest name_reads name_reads import_kind_reads (λ a b c t p. p) e

import_again : (x : Import) (a rest : List ℕ) → IsImport x a → import_at (a ++ rest) ≡ Some (x, rest)
unfolding import_at
import_again x a rest p =
    let q = p.second in
    ap import_at (regroup p rest) ∙ rw (name_reads.again x.«module» p.front (p.back ++ rest) p.first, regroup q rest, name_reads.again x.name q.front (q.back ++ rest) q.first, import_kind_again x.kind q.back rest q.second) refl

pub import_reads : Reads IsImport import_at
import_reads = record { takes = import_takes; again = import_again }
