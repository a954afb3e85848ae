-- The context in which the body of a function is typed.
use Rattle.std.proofs.Common.{◌≡◌, ℕ, zero, suc, ◌<◌, ◌≤◌, Bool, All, List, [], ◌∷◌, Option, Some, length, map, get_or, slice_get, refl, sym, ap, ◌∙◌, subst, arith}
use Rattle.std.specs.Prelude.{nat_lt, unwrap_or}
use Rattle.std.proofs.lemmas.Option.{slice_get-get_or}
use Rattle.faaslet_meaning.specs.declared.instr.ValType.{ValType}
use Rattle.faaslet_meaning.specs.declared.instr.Instr.{Instr}
use Rattle.faaslet_meaning.specs.declared.module.Body.{Body}
use Rattle.faaslet_meaning.specs.declared.module.FuncType.{FuncType}
use Rattle.faaslet_meaning.specs.declared.module.GlobalType.{GlobalType}
use Rattle.faaslet_meaning.specs.declared.module.Module.{Module}
use Rattle.faaslet_meaning.specs.Typing.{Context, IsTyped}
use Rattle.faaslet_meaning.specs.Tree.{types_of}
use Rattle.faaslet_meaning.specs.IndexSpaces.{tables, memories, globals, function_types}
use Rattle.faaslet_meaning.specs.Valid.{RulesHold, locals_of, context_of}
use Rattle.wasm_validate.specs.Admits.{of_body}
use Rattle.wasm_validate.specs.Scopes.{type_in}
use Rattle.wasm_validate.specs.Causes.{context_with}
use Rattle.wasm_validate.specs.Spaces.{AreSpaces}
use Rattle.wasm_validate.specs.declared.spaces.Spaces.{Spaces}

pub one_type : (ts : List ValType) → length ts ≤ 1 → types_of (slice_get ts 0) ≡ ts
one_type [] h = refl
one_type (t ∷ []) h = refl
one_type (t ∷ (u ∷ ts)) h = absurd (omega arith)

pub context_is : (m : Module) (s : Spaces) → AreSpaces m s → (t : FuncType) (types : List FuncType) (fs : List ℕ) (gs : List GlobalType) (table memory : Bool) (locals : List ValType) (leaves : Option ValType)
    → types ≡ m.types → fs ≡ s.functions.items → gs ≡ s.globals.items → table ≡ nat_lt 0 (length s.tables.items) → memory ≡ nat_lt 0 (length s.memories.items) → types_of leaves ≡ t.results
    → let made : Context = record { types = types; functions = map (type_in types) fs; globals = gs; has_table = table; has_memory = memory; locals = locals; labels = types_of leaves ∷ []; results = types_of leaves } in made ≡ context_with m t locals
context_is m s h t types fs gs table memory locals leaves a b c d e f =
    let numbered : map (type_in types) fs ≡ function_types m = ap (λ l. map (type_in l) fs) a ∙ ap (map (type_in m.types)) (b ∙ h.functions_are) in
    let all_globals : gs ≡ globals m = c ∙ h.globals_are in
    let some_table : table ≡ nat_lt 0 (length (tables m)) = d ∙ ap (λ l. nat_lt 0 (length l)) h.tables_are in
    let some_memory : memory ≡ nat_lt 0 (length (memories m)) = e ∙ ap (λ l. nat_lt 0 (length l)) h.memories_are in
    ap (λ (l : List FuncType). with_types l) a
    ∙ ap (λ (l : List FuncType). record (with_types m.types) { functions = l }) numbered
    ∙ ap (λ (l : List GlobalType). record (with_types m.types) { functions = function_types m; globals = l }) all_globals
    ∙ ap (λ (x : Bool). record (with_types m.types) { functions = function_types m; globals = globals m; has_table = x }) some_table
    ∙ ap (λ (x : Bool). record (context_with m t locals) { has_memory = x; labels = types_of leaves ∷ []; results = types_of leaves }) some_memory
    ∙ ap (λ (l : List ValType). record (context_with m t locals) { labels = l ∷ []; results = l }) f
  where
    with_types : List FuncType → Context
    with_types l = record { types = l; functions = map (type_in types) fs; globals = gs; has_table = table; has_memory = memory; locals = locals; labels = types_of leaves ∷ []; results = types_of leaves }

-- the type of function k is that with its number
pub type_found : (m : Module) (s : Spaces) → AreSpaces m s → (types : List FuncType) (fs : List ℕ) (k : ℕ) (g : FuncType) → types ≡ m.types → fs ≡ s.functions.items → k < length fs → g ≡ get_or types (get_or fs k 0) g → get_or fs k 0 < length types → slice_get (function_types m) k ≡ Some g
type_found m s h types fs k g e f within is low =
    let number = slice_get-get_or fs k 0 within in
    let there = slice_get-get_or types (get_or fs k 0) g low in
    let mine : type_in types (get_or fs k 0) ≡ g = ap (λ (o : Option FuncType). unwrap_or o (record { params = []; results = [] })) there ∙ sym is in
    ap (λ l. slice_get (map (type_in m.types) l) k) (sym (f ∙ h.functions_are))
    ∙ ap (λ l. slice_get (map (type_in l) fs) k) (sym e)
    ∙ mapped fs k (get_or fs k 0) number
    ∙ ap (λ (t : FuncType). Some t) mine
  where
    mapped : (ns : List ℕ) (j n : ℕ) → slice_get ns j ≡ Some n → slice_get (map (type_in types) ns) j ≡ Some (type_in types n)
    mapped [] j n q = absurd cc
    mapped (x ∷ xs) zero n q = let p : x ≡ n = cc in ap (λ (y : ℕ). Some (type_in types y)) p
    mapped (x ∷ xs) (suc j) n q = mapped xs j n q

-- a body that is typed in its own context is typed in an equal one
pub typed_there : (m : Module) (t : FuncType) (b : Body) (c : Context) (locals : List ValType) (code : List Instr) → c ≡ context_with m t locals → locals ≡ locals_of t b → code ≡ b.code → IsTyped (context_of m t b) b.code → IsTyped (of_body c) code
typed_there m t b c locals code e f g h =
    let same : of_body c ≡ context_of m t b = ap of_body (e ∙ ap (context_with m t) f) in
    subst (λ x. IsTyped x code) (sym same) (subst (λ l. IsTyped (context_of m t b) l) (sym g) h)

pub type_exists : (m : Module) (s : Spaces) → AreSpaces m s → RulesHold m → (types : List FuncType) (fs : List ℕ) (k : ℕ) → types ≡ m.types → fs ≡ s.functions.items → k < length fs → get_or fs k 0 < length types
type_exists m s h r types fs k e f within =
    let all : All (λ t. t < length m.types) fs = subst (λ l. All (λ t. t < length m.types) l) (sym (f ∙ h.functions_are)) r.types_exist in
    let low : get_or fs k 0 < length m.types = all k 0 within in
    subst (λ l. get_or fs k 0 < length l) (sym e) low
