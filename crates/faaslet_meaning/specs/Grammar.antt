-- Modules, and the bytes that spell them. W3C WebAssembly Core Specification 1.0, sections 5.3, Types, and 5.5,
-- Modules.
use Rattle.std.specs.Prelude.{◌≡◌, ℕ, ◌<◌, ◌≤◌, ◌^◌, ◌⊎◌, Bool, true, false, List, [], ◌∷◌, length, Option, Some, None, ◌==◌, if◌then◌else◌, IsUtf8}
use Rattle.faaslet_meaning.specs.declared.module.FuncType.{FuncType}
use Rattle.faaslet_meaning.specs.declared.module.Limits.{Limits}
use Rattle.faaslet_meaning.specs.declared.module.GlobalType.{GlobalType}
use Rattle.faaslet_meaning.specs.declared.module.Import.{Import}
use Rattle.faaslet_meaning.specs.declared.module.ImportKind.{ImportKind}
use Rattle.faaslet_meaning.specs.declared.module.ImportKind.TheVariants as imported
use Rattle.faaslet_meaning.specs.declared.module.GlobalDef.{GlobalDef}
use Rattle.faaslet_meaning.specs.declared.module.Export.{Export}
use Rattle.faaslet_meaning.specs.declared.module.ExportKind.{ExportKind}
use Rattle.faaslet_meaning.specs.declared.module.ExportKind.TheVariants.{Function, Table, Memory, Global}
use Rattle.faaslet_meaning.specs.declared.module.Element.{Element}
use Rattle.faaslet_meaning.specs.declared.module.LocalGroup.{LocalGroup}
use Rattle.faaslet_meaning.specs.declared.module.Body.{Body}
use Rattle.faaslet_meaning.specs.declared.module.Segment.{Segment}
use Rattle.faaslet_meaning.specs.declared.module.Module.{Module}
use Rattle.faaslet_meaning.specs.IndexSpaces.{local_count}
use Rattle.faaslet_meaning.specs.Productions.{Byte, Exactly, ◌⨾◌, IsMany}
use Rattle.faaslet_meaning.specs.Numbers.{IsU32, IsVec}
use Rattle.faaslet_meaning.specs.Instructions.{IsValType, IsExpression}

-- a size, and that many bytes
abbrev pub IsBlob : List ℕ → List ℕ → Type 0
IsBlob content = IsU32 (length content) ⨾ Exactly content

-- a size, and that many bytes, which spell x
pub record IsSized {A : Type 0} (P : A → List ℕ → Type 0) (x : A) (bytes : List ℕ) : Type 0 where
  pub content : List ℕ
  pub blob : IsBlob content bytes
  pub means : P x content

-- 5.2.4, Names
abbrev pub IsName : List ℕ → List ℕ → Type 0
IsName name bytes = IsUtf8 name × IsBlob name bytes

-- 5.3.3, Function Types
abbrev pub IsFuncType : FuncType → List ℕ → Type 0
IsFuncType t = Byte 0x60 ⨾ IsVec IsValType t.params ⨾ IsVec IsValType t.results

-- 5.3.4, Limits
abbrev pub IsBounds : ℕ → Option ℕ → List ℕ → Type 0
IsBounds min None = Byte 0x00 ⨾ IsU32 min
IsBounds min (Some max) = Byte 0x01 ⨾ IsU32 min ⨾ IsU32 max

abbrev pub IsLimits : Limits → List ℕ → Type 0
IsLimits l = IsBounds l.min l.max

-- 5.3.6, Table Types
abbrev pub IsTableType : Limits → List ℕ → Type 0
IsTableType l = Byte 0x70 ⨾ IsLimits l

-- 5.3.7, Global Types
abbrev pub IsMutability : Bool → List ℕ → Type 0
IsMutability false = Byte 0x00
IsMutability true = Byte 0x01

abbrev pub IsGlobalType : GlobalType → List ℕ → Type 0
IsGlobalType g = IsValType g.value ⨾ IsMutability g.mutable

-- 5.5.5, Import Section
abbrev pub IsImportKind : ImportKind → List ℕ → Type 0
IsImportKind (imported.Function t) = Byte 0x00 ⨾ IsU32 t
IsImportKind (imported.Table l) = Byte 0x01 ⨾ IsTableType l
IsImportKind (imported.Memory l) = Byte 0x02 ⨾ IsLimits l
IsImportKind (imported.Global g) = Byte 0x03 ⨾ IsGlobalType g

abbrev pub IsImport : Import → List ℕ → Type 0
IsImport i = IsName i.«module» ⨾ IsName i.name ⨾ IsImportKind i.kind

-- 5.5.9, Global Section
abbrev pub IsGlobalDef : GlobalDef → List ℕ → Type 0
IsGlobalDef d = IsGlobalType d.kind ⨾ IsExpression d.init

-- 5.5.10, Export Section
abbrev pub IsExportKind : ExportKind → List ℕ → Type 0
IsExportKind Function = Byte 0x00
IsExportKind Table = Byte 0x01
IsExportKind Memory = Byte 0x02
IsExportKind Global = Byte 0x03

abbrev pub IsExport : Export → List ℕ → Type 0
IsExport e = IsName e.name ⨾ IsExportKind e.kind ⨾ IsU32 e.index

-- 5.5.12, Element Section
abbrev pub IsElement : Element → List ℕ → Type 0
IsElement e = IsU32 e.table ⨾ IsExpression e.offset ⨾ IsVec IsU32 e.functions

-- 5.5.13, Code Section: an entry is a size and so many bytes, which are a body; it has fewer than 2 ^ 32 locals in all
abbrev pub IsLocalGroup : LocalGroup → List ℕ → Type 0
IsLocalGroup g = IsU32 g.count ⨾ IsValType g.kind

abbrev pub IsBody : Body → List ℕ → Type 0
IsBody b bytes = (local_count b < 2 ^ 32) × (IsVec IsLocalGroup b.locals ⨾ IsExpression b.code) bytes

abbrev pub IsCodeEntry : Body → List ℕ → Type 0
IsCodeEntry = IsSized IsBody

-- 5.5.14, Data Section: its vector of bytes is a size and that many
abbrev pub IsSegment : Segment → List ℕ → Type 0
IsSegment s = IsU32 s.memory ⨾ IsExpression s.offset ⨾ IsBlob s.bytes

-- 5.5.2, Sections: an id, and the content behind its size
abbrev pub Section : Type 0
Section = ℕ × List ℕ

abbrev pub IsSection : Section → List ℕ → Type 0
IsSection s = Byte s.0 ⨾ IsBlob s.1

-- 5.5.3, Custom Section: a name, and any bytes
pub record IsCustom (content : List ℕ) : Type 0 where
  pub name : List ℕ
  pub rest : List ℕ
  pub spells : (IsName name ⨾ Exactly rest) content

-- custom sections stand anywhere, the others, 1 to 11, at most once and in rising order of their ids
abbrev pub IsRising : ℕ → List Section → Type 0
IsRising last [] = Unit {0}
IsRising last (s ∷ rest) = ((s.0 ≡ 0) × IsCustom s.1 × IsRising last rest) ⊎ ((last < s.0) × (s.0 ≤ 11) × IsRising s.0 rest)

-- the content of the section with this id, where there is one
abbrev pub content_of : ℕ → List Section → Option (List ℕ)
content_of id [] = None
content_of id (s ∷ rest) = if s.0 == id then Some s.1 else content_of id rest

-- an absent section is an empty one
abbrev pub IsPart : {A : Type 0} → (A → List ℕ → Type 0) → Option (List ℕ) → List A → Type 0
IsPart P None xs = xs ≡ []
IsPart P (Some content) xs = IsVec P xs content

-- 5.5.11, Start Section: one index, where the section is there
abbrev pub IsStart : Option (List ℕ) → Option ℕ → Type 0
IsStart None start = start ≡ None
IsStart (Some content) None = ⊥
IsStart (Some content) (Some f) = IsU32 f content

-- what each section spells; custom sections spell nothing of a module
pub record Holds (sections : List Section) (m : Module) : Type 0 where
  pub types : IsPart IsFuncType (content_of 1 sections) m.types
  pub imports : IsPart IsImport (content_of 2 sections) m.imports
  pub functions : IsPart IsU32 (content_of 3 sections) m.functions
  pub tables : IsPart IsTableType (content_of 4 sections) m.tables
  pub memories : IsPart IsLimits (content_of 5 sections) m.memories
  pub globals : IsPart IsGlobalDef (content_of 6 sections) m.globals
  pub exports : IsPart IsExport (content_of 7 sections) m.exports
  pub start : IsStart (content_of 8 sections) m.start
  pub elements : IsPart IsElement (content_of 9 sections) m.elements
  pub bodies : IsPart IsCodeEntry (content_of 10 sections) m.bodies
  pub segments : IsPart IsSegment (content_of 11 sections) m.segments

-- 5.5.15, Modules: the magic number and the version
abbrev pub header : List ℕ
header = 0x00 ∷ 0x61 ∷ 0x73 ∷ 0x6D ∷ 0x01 ∷ 0x00 ∷ 0x00 ∷ 0x00 ∷ []

-- the bytes spell this module
pub record IsModule (m : Module) (bytes : List ℕ) : Type 0 where
  pub sections : List Section
  pub spells : (Exactly header ⨾ IsMany IsSection sections) bytes
  pub rising : IsRising 0 sections
  pub holds : Holds sections m
  pub counts : length m.functions ≡ length m.bodies
