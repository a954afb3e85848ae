-- Rules over the index spaces that the validator builds are those of the module.
use Rattle.std.proofs.Common.{◌≡◌, ℕ, ◌<◌, All, List, Option, Some, None, length, sym, ap, ◌∙◌, subst}
use Rattle.faaslet_meaning.specs.declared.instr.ValType.TheVariants.{I32}
use Rattle.faaslet_meaning.specs.declared.module.Element.{Element}
use Rattle.faaslet_meaning.specs.declared.module.Export.{Export}
use Rattle.faaslet_meaning.specs.declared.module.ExportKind.{ExportKind}
use Rattle.faaslet_meaning.specs.declared.module.ExportKind.TheVariants as export
use Rattle.faaslet_meaning.specs.declared.module.FuncType.{FuncType}
use Rattle.faaslet_meaning.specs.declared.module.GlobalType.{GlobalType}
use Rattle.faaslet_meaning.specs.declared.module.GlobalDef.{GlobalDef}
use Rattle.faaslet_meaning.specs.declared.module.Module.{Module}
use Rattle.faaslet_meaning.specs.declared.module.Segment.{Segment}
use Rattle.faaslet_meaning.specs.Valid.{IsConstant, ElementOk, SegmentOk, StartOk, count_of}
use Rattle.wasm_validate.specs.declared.spaces.Spaces.{Spaces}
use Rattle.wasm_validate.specs.Admits.{Both}
use Rattle.wasm_validate.specs.Rules.{ElementIn, SegmentIn, StartsIn, count_in}
use Rattle.wasm_validate.specs.Spaces.{AreSpaces}

pub element_is : (m : Module) (s : Spaces) → AreSpaces m s → (e : Element) → Both (ElementIn s e) (ElementOk m e)
element_is m s h e = (
  λ i. record {
    table = subst (λ l. e.table < length l) h.tables_are i.table;
    offset = subst (λ l. IsConstant l I32 e.offset) h.globals_are i.offset;
    functions = subst (λ l. All (λ f. f < length l) e.functions) h.functions_are i.functions;
  },
  λ i. record {
    table = subst (λ l. e.table < length l) (sym h.tables_are) i.table;
    offset = subst (λ l. IsConstant l I32 e.offset) (sym h.globals_are) i.offset;
    functions = subst (λ l. All (λ f. f < length l) e.functions) (sym h.functions_are) i.functions;
  },
)

pub segment_is : (m : Module) (s : Spaces) → AreSpaces m s → (d : Segment) → Both (SegmentIn s d) (SegmentOk m d)
segment_is m s h d = (
  λ i. record { memory = subst (λ l. d.memory < length l) h.memories_are i.memory; offset = subst (λ l. IsConstant l I32 d.offset) h.globals_are i.offset },
  λ i. record { memory = subst (λ l. d.memory < length l) (sym h.memories_are) i.memory; offset = subst (λ l. IsConstant l I32 d.offset) (sym h.globals_are) i.offset },
)

pub all_of : {X : Type 0} (P Q : X → Type 0) (xs ys : List X) → xs ≡ ys → ((x : X) → P x → Q x) → All P xs → All Q ys
all_of P Q xs ys e f all = subst (λ l. All Q l) e (λ k d h. f _ (all k d h))

pub constant_by : (gs hs : List GlobalType) (xs ys : List GlobalDef) → gs ≡ hs → xs ≡ ys → All (λ (d : GlobalDef). IsConstant gs d.kind.value d.init) xs → All (λ (d : GlobalDef). IsConstant hs d.kind.value d.init) ys
constant_by gs hs xs ys e f all = subst (λ l. All (λ (d : GlobalDef). IsConstant l d.kind.value d.init) ys) e (subst (λ l. All (λ (d : GlobalDef). IsConstant gs d.kind.value d.init) l) f all)

pub start_is : (m : Module) (s : Spaces) → AreSpaces m s → (types : List FuncType) (fs : List ℕ) → types ≡ m.types → fs ≡ s.functions.items → (start : Option ℕ) → StartsIn types fs start → StartOk m start
start_is m s h types fs e f None i = tt
start_is m s h types fs e f (Some n) i = subst (λ l. StartsIn m.types l (Some n)) (f ∙ h.functions_are) (subst (λ l. StartsIn l fs (Some n)) e i)

pub count_is : (m : Module) (s : Spaces) → AreSpaces m s → (kind : ExportKind) → count_in s kind ≡ count_of m kind
count_is m s h export.Function = ap length h.functions_are
count_is m s h export.Table = ap length h.tables_are
count_is m s h export.Memory = ap length h.memories_are
count_is m s h export.Global = ap length h.globals_are

pub export_is : (m : Module) (s : Spaces) → AreSpaces m s → (e : Export) → e.index < count_in s e.kind → e.index < count_of m e.kind
export_is m s h e i = subst (λ n. e.index < n) (count_is m s h e.kind) i
