-- Bodies that are typed and bodies that are not, and the rules of modules, at worked examples.
use Rattle.std.proofs.Common.{◌≡◌, ℕ, zero, suc, ◌<◌, ◌≤◌, ◌^◌, List, [], ◌∷◌, None, Some, refl, sym, ap, subst, arith}
use Rattle.std.specs.Prelude.{pos, All, slice_get, length, codes}
use Rattle.std.specs.Int.{w32}
use Rattle.std.proofs.lemmas.Option.{same_Some}
use Rattle.faaslet_meaning.specs.declared.instr.ValType.TheVariants.{I32}
use Rattle.faaslet_meaning.specs.declared.instr.Instr.{Instr}
use Rattle.faaslet_meaning.specs.declared.instr.Instr.TheVariants.{Unreachable, Block, Loop, If, Else, End, Br, BrTable, I32Const, I64Const, Num}
use Rattle.faaslet_meaning.specs.declared.module.FuncType.{FuncType}
use Rattle.faaslet_meaning.specs.declared.module.Body.{Body}
use Rattle.faaslet_meaning.specs.declared.module.Export.{Export}
use Rattle.faaslet_meaning.specs.declared.module.ExportKind.TheVariants as export
use Rattle.faaslet_meaning.specs.declared.module.Module.{Module}
use Rattle.faaslet_meaning.specs.Integers.{binary, add}
use Rattle.faaslet_meaning.specs.Tree.{plain, stop, loop}
use Rattle.faaslet_meaning.specs.Parse.{tree_of}
use Rattle.faaslet_meaning.specs.Typing.{Context, Typed, IsTyped}
use Rattle.faaslet_meaning.specs.Valid.{context_of, HasBody, BodyTyped, Valid, count_of}
use Rattle.faaslet_meaning.specs.IndexSpaces.{local_count}
use Rattle.faaslet_meaning.proofs.ExampleRuns.{module_of, func_type, body}
use Rattle.faaslet_meaning.proofs.Written.{parts_written, typed_body}

-- a module whose `main` has this code and gives an i32
abbrev main : List Instr → Module
main code = module_of [] [] [] (body code)

abbrev inside : List Instr → Context
inside code = context_of (main code) (func_type [] (I32 ∷ [])) (body code)

abbrev result : FuncType
result = func_type [] (I32 ∷ [])

-- `main` is untyped where its tree is, and typed where it is so written
by_tree : (code : List Instr) → (Typed (tree_of (body code).code) (inside code) (I32 ∷ []) [] → ⊥) → BodyTyped (main code) 0 → ⊥
by_tree code none h = none (typed_body (inside code) (body code).code (h result (body code) (record { place = 0; behind_imports = refl; type = refl; body = refl })))

one_body : (code : List Instr) (k : ℕ) (t : FuncType) (b : Body) → HasBody (main code) k t b → (t ≡ result) × (b ≡ body code)
one_body code k t b h = by k h.place (omega (arith, h.behind_imports)) h.type h.body
  where
    by : (k i : ℕ) → k ≡ i → slice_get (result ∷ []) k ≡ Some t → slice_get (body code ∷ []) i ≡ Some b → (t ≡ result) × (b ≡ body code)
    by zero zero e f g = (cc, cc)
    by (suc k) i e f g = absurd (cc)
    by zero (suc i) e f g = absurd (cc)

bodies : (code : List Instr) → IsTyped (inside code) (body code).code → (k : ℕ) → BodyTyped (main code) k
bodies code h k t b is =
    let o = one_body code k t b is in
    subst (λ (c : Context). IsTyped c b.code) (ap (λ (u : FuncType). context_of (main code) u b) (sym o.0)) (subst (λ (a : Body). IsTyped (context_of (main code) result a) a.code) (sym o.1) h)

-- a branch out of a block that gives an i32 takes an i32
abbrev br_missing : List Instr
br_missing = Block (Some I32) ∷ Br 0 ∷ End ∷ []

br_lacks_its_operand : BodyTyped (main br_missing) 0 → ⊥
br_lacks_its_operand = by_tree br_missing λ h.
    let e = h.0.1 in
    let same = same_Some _ _ e.type.2 in
    cc

-- behind `unreachable` operands may be anything
abbrev anything : List Instr
anything = Unreachable ∷ Num 0x6A ∷ []

anything_typed : (k : ℕ) → BodyTyped (main anything) k
anything_typed = bodies anything (record {
  tree = plain Unreachable (plain (Num 0x6A) stop);
  is_written = record { plain = (tt, (tt, tt)); flat = refl };
  typed = (
    I32 ∷ I32 ∷ [],
    record { takes = []; leaves = I32 ∷ I32 ∷ []; under = []; type = tt; before = refl; after = refl },
    (I32 ∷ [], record { takes = I32 ∷ I32 ∷ []; leaves = I32 ∷ []; under = []; type = (binary add w32, refl, (refl, refl)); before = refl; after = refl }, refl),
  );
})

-- but what is pushed there has its type
abbrev wrong_operand : List Instr
wrong_operand = Unreachable ∷ I64Const (pos 0) ∷ Num 0x6A ∷ []

an_i64_is_no_i32 : BodyTyped (main wrong_operand) 0 → ⊥
an_i64_is_no_i32 = by_tree wrong_operand λ h.
    let push = h.2.1 in
    let sum = h.2.2.1 in
    let row = same_Some _ _ sum.type.1 in
    let pushed = push.type.1 in
    cc

-- a branch to a loop carries nothing
abbrev again : List Instr
again = Loop (Some I32) ∷ Br 0 ∷ End ∷ []

again_typed : (k : ℕ) → BodyTyped (main again) k
again_typed = bodies again (record {
  tree = loop (Some I32) (plain (Br 0) stop) stop;
  is_written = record { plain = ((tt, tt), tt); flat = refl };
  typed = ((I32 ∷ [], record { takes = []; leaves = I32 ∷ []; under = []; type = ([], [], refl, refl); before = refl; after = refl }, refl), refl);
})

-- the labels of a table carry the same
abbrev unequal_labels : List Instr
unequal_labels = Block (Some I32) ∷ Block None ∷ I32Const (pos 0) ∷ BrTable (0 ∷ []) 1 ∷ End ∷ I32Const (pos 0) ∷ End ∷ []

labels_of_a_table_are_equal : BodyTyped (main unequal_labels) 0 → ⊥
labels_of_a_table_are_equal = by_tree unequal_labels λ h.
    let table = h.0.0.2.1 in
    let inner = same_Some _ _ table.type.2.0 in
    let outer = same_Some _ _ table.type.3 in
    cc

-- an `if` without `else` has no result
abbrev no_else : List Instr
no_else = I32Const (pos 1) ∷ If (Some I32) ∷ I32Const (pos 2) ∷ End ∷ []

no_result_without_else : BodyTyped (main no_else) 0 → ⊥
no_result_without_else = by_tree no_else λ h. let none = h.2.2 in cc

-- `else` belongs to an `if`
abbrev stray_else : List Instr
stray_else = I32Const (pos 1) ∷ Else ∷ []

else_belongs_to_an_if : BodyTyped (main stray_else) 0 → ⊥
else_belongs_to_an_if h =
    let typed = h result (body stray_else) (record { place = 0; behind_imports = refl; type = refl; body = refl }) in
    let read = parts_written (body stray_else).code typed.tree typed.is_written in
    cc

-- the module that returns 42 is valid
abbrev answer : List Instr
answer = I32Const (pos 42) ∷ []

answer_typed : (k : ℕ) → BodyTyped (main answer) k
answer_typed = bodies answer (record {
  tree = plain (I32Const (pos 42)) stop;
  is_written = record { plain = (tt, tt); flat = refl };
  typed = (I32 ∷ [], record { takes = []; leaves = I32 ∷ []; under = []; type = (refl, refl); before = refl; after = refl }, refl);
})

no_items : {A : Type 0} (P : A → Type 0) → All P []
no_items P k d h = absurd (omega (arith, h))

one_item : {A : Type 0} (P : A → Type 0) (x : A) → P x → All P (x ∷ [])
one_item P x p zero d h = p
one_item P x p (suc k) d h = absurd (omega (arith, h))

answer_valid : Valid (main answer)
answer_valid = record {
  rules = record {
    one_result = one_item (λ (t : FuncType). length t.results ≤ 1) result (omega arith);
    types_exist = one_item (λ (t : ℕ). t < 1) 0 (omega arith);
    as_many_bodies = refl;
    few_imports_and_bodies = omega arith;
    few_locals = one_item (λ (b : Body). local_count b < 2 ^ 32) (body answer) (omega arith);
    one_table = omega arith;
    one_memory = omega arith;
    tables_rise = no_items _;
    memories_rise = no_items _;
    memories_within = no_items _;
    globals_constant = no_items _;
    elements_ok = no_items _;
    segments_ok = no_items _;
    start_ok = tt;
    exports_exist = one_item (λ (e : Export). e.index < count_of (main answer) e.kind) (record { name = codes "main"; kind = export.Function; index = 0 }) (omega arith);
    exports_differ = λ i j d h k. absurd (omega (arith, h, k));
    no_float = refl;
  };
  bodies_typed = answer_typed;
}

-- two exports of one name
abbrev twice : Module
twice = record (main answer) { exports = record { name = codes "main"; kind = export.Function; index = 0 } ∷ record { name = codes "main"; kind = export.Function; index = 0 } ∷ [] }

twice_invalid : Valid twice → ⊥
twice_invalid h = h.rules.exports_differ 0 1 [] (omega arith) (omega arith) refl
