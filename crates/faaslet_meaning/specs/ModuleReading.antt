-- Reading the parts of a module from the front of a list of bytes. This project's own: functions on lists, as those of
-- `Reading`, and no definitions.
use Rattle.std.specs.Prelude.{ℕ, zero, suc, Bool, true, false, List, [], ◌∷◌, length, take, drop, Option, Some, None, nat_lt, ◌==◌, if◌then◌else◌, ◌^◌, sum_by}
use Rattle.std.specs.Str.{is_utf8}
use Rattle.faaslet_meaning.specs.declared.instr.Instr.{Instr}
use Rattle.faaslet_meaning.specs.declared.module.FuncType.{FuncType}
use Rattle.faaslet_meaning.specs.declared.module.Limits.{Limits}
use Rattle.faaslet_meaning.specs.declared.module.GlobalType.{GlobalType}
use Rattle.faaslet_meaning.specs.declared.module.Import.{Import}
use Rattle.faaslet_meaning.specs.declared.module.ImportKind.{ImportKind}
use Rattle.faaslet_meaning.specs.declared.module.ImportKind.TheVariants as imported
use Rattle.faaslet_meaning.specs.declared.module.GlobalDef.{GlobalDef}
use Rattle.faaslet_meaning.specs.declared.module.Export.{Export}
use Rattle.faaslet_meaning.specs.declared.module.ExportKind.{ExportKind}
use Rattle.faaslet_meaning.specs.declared.module.ExportKind.TheVariants.{Function, Table, Memory, Global}
use Rattle.faaslet_meaning.specs.declared.module.Element.{Element}
use Rattle.faaslet_meaning.specs.declared.module.LocalGroup.{LocalGroup}
use Rattle.faaslet_meaning.specs.declared.module.Body.{Body}
use Rattle.faaslet_meaning.specs.declared.module.Segment.{Segment}
use Rattle.faaslet_meaning.specs.Reading.{Read, ◌>>=◌, mapped, byte_at, unsigned_at, val_type_at, vec_at, pair_at, instr_at}
use Rattle.faaslet_meaning.specs.Nesting.{step}

unfoldable pub blob_at : List ℕ → Read (List ℕ)
blob_at bytes = do
  n ← unsigned_at 32 bytes
  if nat_lt (length n.1) n.0 then None else Some (take n.0 n.1, drop n.0 n.1)

-- all of the bytes
abbrev pub whole : {A : Type 0} → Read A → Option A
whole None = None
whole (Some x) = if length x.1 == 0 then Some x.0 else None

unfoldable pub sized_at : {A : Type 0} → (List ℕ → Read A) → List ℕ → Read A
sized_at at bytes = do
  c ← blob_at bytes
  x ← whole (at c.0)
  Some (x, c.1)

unfoldable pub name_at : List ℕ → Read (List ℕ)
name_at bytes = do
  c ← blob_at bytes
  if is_utf8 c.0 then Some c else None

unfoldable pub func_type_at : List ℕ → Read FuncType
func_type_at bytes = do
  b ← byte_at bytes
  if b.0 == 0x60 then (do
    params ← vec_at val_type_at b.1
    results ← vec_at val_type_at params.1
    Some (record { params = params.0; results = results.0 }, results.1)) else None

-- 0x00 and a minimum, or 0x01, a minimum and a maximum
unfoldable pub limits_at : List ℕ → Read Limits
limits_at bytes = do
  b ← byte_at bytes
  if b.0 == 0x00 then mapped (λ n. record { min = n; max = None }) (unsigned_at 32 b.1) else if b.0 == 0x01 then mapped (λ p. record { min = p.0; max = Some p.1 }) (pair_at b.1) else None

unfoldable pub table_type_at : List ℕ → Read Limits
table_type_at bytes = do
  b ← byte_at bytes
  if b.0 == 0x70 then limits_at b.1 else None

unfoldable pub mutability_at : List ℕ → Read Bool
mutability_at bytes = do
  b ← byte_at bytes
  if b.0 == 0x00 then Some (false, b.1) else if b.0 == 0x01 then Some (true, b.1) else None

unfoldable pub global_type_at : List ℕ → Read GlobalType
global_type_at bytes = do
  value ← val_type_at bytes
  mapped (λ mutable. record { value = value.0; mutable = mutable }) (mutability_at value.1)

unfoldable pub import_kind_at : List ℕ → Read ImportKind
import_kind_at bytes = do
  b ← byte_at bytes
  if b.0 == 0x00 then mapped (λ t. imported.Function t) (unsigned_at 32 b.1) else if b.0 == 0x01 then mapped (λ l. imported.Table l) (table_type_at b.1) else if b.0 == 0x02 then mapped (λ l. imported.Memory l) (limits_at b.1) else if b.0 == 0x03 then mapped (λ g. imported.Global g) (global_type_at b.1) else None

unfoldable pub import_at : List ℕ → Read Import
import_at bytes = do
  place ← name_at bytes
  name ← name_at place.1
  mapped (λ kind. record { «module» = place.0; name = name.0; kind = kind }) (import_kind_at name.1)

unfoldable pub export_kind_at : List ℕ → Read ExportKind
export_kind_at bytes = do
  b ← byte_at bytes
  if b.0 == 0x00 then Some (Function, b.1) else if b.0 == 0x01 then Some (Table, b.1) else if b.0 == 0x02 then Some (Memory, b.1) else if b.0 == 0x03 then Some (Global, b.1) else None

unfoldable pub export_at : List ℕ → Read Export
export_at bytes = do
  name ← name_at bytes
  kind ← export_kind_at name.1
  index ← unsigned_at 32 kind.1
  Some (record { name = name.0; kind = kind.0; index = index.0 }, index.1)

-- the flat instructions up to where nothing is open, at most so many
unfoldable pub flats_at : ℕ → List Bool → List ℕ → Read (List Instr)
flats_at fuel [] bytes = Some ([], bytes)
flats_at zero (m ∷ ms) bytes = None
flats_at (suc fuel) (m ∷ ms) bytes = do
  i ← instr_at bytes
  ns ← step (m ∷ ms) i.0
  mapped (λ is. i.0 ∷ is) (flats_at fuel ns i.1)

unfoldable pub expression_at : List ℕ → Read (List Instr)
expression_at bytes = flats_at (length bytes) (false ∷ []) bytes

unfoldable pub global_def_at : List ℕ → Read GlobalDef
global_def_at bytes = do
  kind ← global_type_at bytes
  mapped (λ init. record { kind = kind.0; init = init }) (expression_at kind.1)

unfoldable pub element_at : List ℕ → Read Element
element_at bytes = do
  table ← unsigned_at 32 bytes
  offset ← expression_at table.1
  mapped (λ functions. record { table = table.0; offset = offset.0; functions = functions }) (vec_at (unsigned_at 32) offset.1)

unfoldable pub local_group_at : List ℕ → Read LocalGroup
local_group_at bytes = do
  count ← unsigned_at 32 bytes
  mapped (λ kind. record { count = count.0; kind = kind }) (val_type_at count.1)

unfoldable pub entry_at : List ℕ → Read Body
entry_at bytes = do
  locals ← vec_at local_group_at bytes
  if nat_lt (sum_by (λ g. g.count) locals.0) (2 ^ 32) then mapped (λ code. record { locals = locals.0; code = code }) (expression_at locals.1) else None

unfoldable pub body_at : List ℕ → Read Body
body_at bytes = sized_at entry_at bytes

unfoldable pub segment_at : List ℕ → Read Segment
segment_at bytes = do
  memory ← unsigned_at 32 bytes
  offset ← expression_at memory.1
  mapped (λ content. record { memory = memory.0; offset = offset.0; bytes = content }) (blob_at offset.1)

unfoldable pub section_at : List ℕ → Read (ℕ × List ℕ)
section_at bytes = do
  id ← byte_at bytes
  mapped (λ content. (id.0, content)) (blob_at id.1)
