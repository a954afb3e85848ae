-- The plan of `load` is well formed, its module included.
use Rattle.std.proofs.Common.{◌≡◌, ℕ, zero, suc, ◌+◌, ◌%◌, ◌<◌, ◌≤◌, ◌^◌, true, List, [], ◌∷◌, ◌++◌, length, map, get_or, All, Some, None, IsTrue, codes, decimal, refl, sym, ap, subst, ◌∙◌, arith, le-leb}
use Rattle.std.specs.Prelude.{slice_get}
use Rattle.std.specs.Int.{w32}
use Rattle.std.specs.List.{list_all}
use Rattle.std.specs.Str.Parse.{digits_value}
use Rattle.std.proofs.lemmas.Bool.{or_left, and_from}
use Rattle.std.proofs.lemmas.Fmt.{decimal_by_steps, decimal_is_IsNumeral, length-decimal-le}
use Rattle.std.proofs.lemmas.List.{length-map}
use Rattle.std.proofs.lemmas.List.Folds.{list_all-append}
use Rattle.std.proofs.lemmas.List.Elements.{All-nil, All-from_recursion}
use Rattle.faaslet_meaning.specs.declared.instr.ValType.{ValType}
use Rattle.faaslet_meaning.specs.declared.instr.ValType.TheVariants.{I32}
use Rattle.faaslet_meaning.specs.declared.instr.Instr.{Instr}
use Rattle.faaslet_meaning.specs.declared.instr.Instr.TheVariants.{Call, LocalGet, LocalTee, Load, Store, Num}
use Rattle.faaslet_meaning.specs.declared.module.FuncType.{FuncType}
use Rattle.faaslet_meaning.specs.declared.module.Body.{Body}
use Rattle.faaslet_meaning.specs.declared.module.Export.{Export}
use Rattle.faaslet_meaning.specs.declared.grant.Grant.{Grant}
use Rattle.faaslet_meaning.specs.declared.grant.Mode.TheVariants.{Write}
use Rattle.faaslet_meaning.specs.HostCalls.{host_rows, row, of_one, get_state, push_state, pull_state, lock_global_write, unlock_global, HostRow, type_of_row, number_of}
use Rattle.faaslet_meaning.specs.IndexSpaces.{local_count, functions, memories}
use Rattle.faaslet_meaning.specs.Integers.{binary, add}
use Rattle.faaslet_meaning.specs.LoadStore as bytes
use Rattle.faaslet_meaning.specs.Runnable.{IsHostCall, HostImports, Named}
use Rattle.faaslet_meaning.specs.Tree.{Tree, plain, stop}
use Rattle.faaslet_meaning.specs.Typing.{Context, HasType, Effect, Typed, IsTyped}
use Rattle.faaslet_meaning.specs.Valid.{context_of, HasBody, BodyTyped, RulesHold, Rising, WithinPages, count_of}
use Rattle.session_meaning.specs.Names.{is_name, is_name_byte}
use Rattle.session_meaning.specs.Plan.{Request}
use Rattle.session_meaning.specs.Draft.{drafted}
use Rattle.session_meaning.specs.LoadPlan.{c, bump, bump_types, bump_imports, bump_code, bumps, counter, imported, load_request, load_requests, load_plan}
use Rattle.session_meaning.specs.WellFormed.{Distinct, KeyFits, GrantFits, ModuleFits, FunctionFits, RequestFits, WellFormed}

-- ---- The module is valid.

abbrev main_type : FuncType
main_type = record { params = []; results = I32 ∷ [] }

abbrev main_body : Body
main_body = record { locals = record { count = 1; kind = I32 } ∷ []; code = bump_code }

abbrev inside : Context
inside = context_of bump main_type main_body

abbrev no_result : FuncType
no_result = record { params = I32 ∷ []; results = [] }

abbrev one_result : FuncType
one_result = record { params = I32 ∷ []; results = I32 ∷ [] }

-- an instruction over what stands below
by : (i : Instr) (takes leaves under : List ValType) → HasType inside i takes leaves → Effect inside i (takes ++ under) (leaves ++ under)
by i takes leaves under t = record { takes = takes; leaves = leaves; under = under; type = t; before = refl; after = refl }

abbrev tree : Tree
tree =
    plain (c 0) (plain (Call 0)
    (plain (c 0) (plain (Call 1)
    (plain (c 0) (plain (Call 2) (plain (LocalTee 0)
    (plain (LocalGet 0) (plain (Load 0x28 2 0) (plain (c 1) (plain (Num 0x6A) (plain (Store 0x36 2 0)
    (plain (c 0) (plain (Call 3)
    (plain (c 0) (plain (Call 4)
    (plain (c 0) stop))))))))))))))))

abbrev i : List ValType
i = I32 ∷ []

abbrev ii : List ValType
ii = I32 ∷ I32 ∷ []

abbrev iii : List ValType
iii = I32 ∷ I32 ∷ I32 ∷ []

tree_typed : Typed tree inside (I32 ∷ []) []
tree_typed = (
  i,
  by (c 0) [] i [] (refl, refl),
  (
    [],
    by (Call 0) i [] [] (no_result, refl, (refl, refl)),
    (
      i,
      by (c 0) [] i [] (refl, refl),
      (
        [],
        by (Call 1) i [] [] (no_result, refl, (refl, refl)),
        (
          i,
          by (c 0) [] i [] (refl, refl),
          (
            i,
            by (Call 2) i i [] (one_result, refl, (refl, refl)),
            (
              i,
              by (LocalTee 0) i i [] (I32, refl, (refl, refl)),
              (
                ii,
                by (LocalGet 0) [] i i (I32, refl, (refl, refl)),
                (
                  ii,
                  by (Load 0x28 2 0) i i i (bytes.whole w32, refl, refl, omega arith, (refl, refl)),
                  (
                    iii,
                    by (c 1) [] i ii (refl, refl),
                    (
                      ii,
                      by (Num 0x6A) ii i i (binary add w32, refl, (refl, refl)),
                      (
                        [],
                        by (Store 0x36 2 0) ii [] [] (4, refl, refl, omega arith, (refl, refl)),
                        (
                          i,
                          by (c 0) [] i [] (refl, refl),
                          (
                            [],
                            by (Call 3) i [] [] (no_result, refl, (refl, refl)),
                            (
                              i,
                              by (c 0) [] i [] (refl, refl),
                              (
                                [],
                                by (Call 4) i [] [] (no_result, refl, (refl, refl)),
                                (
                                  i,
                                  by (c 0) [] i [] (refl, refl),
                                  refl,
                                ),
                              ),
                            ),
                          ),
                        ),
                      ),
                    ),
                  ),
                ),
              ),
            ),
          ),
        ),
      ),
    ),
  ),
)

body_typed : IsTyped inside bump_code
body_typed = record { tree = tree; is_written = record { plain = (tt, (tt, (tt, (tt, (tt, (tt, (tt, (tt, (tt, (tt, (tt, (tt, (tt, (tt, (tt, (tt, (tt, tt))))))))))))))))); flat = refl }; typed = tree_typed }

one_body : (k : ℕ) (t : FuncType) (b : Body) → HasBody bump k t b → (t ≡ main_type) × (b ≡ main_body)
one_body k t b h = at h.place (h.behind_imports ∙ omega arith) h.body
  where
    at : (p : ℕ) → k ≡ p + 5 → slice_get (main_body ∷ []) p ≡ Some b → (t ≡ main_type) × (b ≡ main_body)
    at zero e f = let five : k ≡ 5 = omega arith in let typed = subst (λ n. slice_get (no_result ∷ no_result ∷ one_result ∷ no_result ∷ no_result ∷ main_type ∷ []) n ≡ Some t) five h.type in (cc, cc)
    at (suc p) e f = let no : ⊥ = cc in absurd no

bodies : (k : ℕ) → BodyTyped bump k
bodies k t b is =
    let o = one_body k t b is in
    subst (λ (x : Context). IsTyped x b.code) (ap (λ (u : FuncType). context_of bump u b) (sym o.0)) (subst (λ (a : Body). IsTyped (context_of bump main_type a) a.code) (sym o.1) body_typed)

rules : RulesHold bump
rules =
    record {
      one_result = All-from_recursion (λ (t : FuncType). length t.results ≤ 1) bump_types (omega arith, (omega arith, (omega arith, tt)));
      types_exist = All-from_recursion (λ (t : ℕ). t < 3) (functions bump) (omega arith, (omega arith, (omega arith, (omega arith, (omega arith, (omega arith, tt))))));
      as_many_bodies = refl;
      few_imports_and_bodies = omega arith;
      few_locals = All-from_recursion (λ (b : Body). local_count b < 2 ^ 32) (main_body ∷ []) (omega arith, tt);
      one_table = omega arith;
      one_memory = omega arith;
      tables_rise = All-nil Rising;
      memories_rise = All-from_recursion Rising (memories bump) ((λ n e. let no : ⊥ = cc in absurd no), tt);
      memories_within = All-from_recursion WithinPages (memories bump) ((omega arith, λ n e. let no : ⊥ = cc in absurd no), tt);
      globals_constant = All-nil _;
      elements_ok = All-nil _;
      segments_ok = All-nil _;
      start_ok = tt;
      exports_exist = All-from_recursion (λ (e : Export). e.index < count_of bump e.kind) bump.exports (omega arith, tt);
      exports_differ = λ a b d below within. absurd (omega arith);
      no_float = refl;
    }

-- ---- A function may have it.

host_call : (name : List ℕ) (t number : ℕ) (r : HostRow) → number_of name ≡ Some number → slice_get host_rows number ≡ Some r → slice_get bump_types t ≡ Some (type_of_row r) → IsHostCall bump (imported name t)
host_call name t number r named at typed = record { home = refl; number = number; named = named; row = r; row_is = at; type = t; kind = refl; type_is = typed }

imports : HostImports bump
imports =
    All-from_recursion (IsHostCall bump) bump_imports (
      host_call (codes "lock_global_write") 1 14 (row (codes "lock_global_write") (of_one lock_global_write) None) refl refl refl,
      (
        host_call (codes "pull_state") 1 6 (row (codes "pull_state") (of_one pull_state) None) refl refl refl,
        (
          host_call (codes "get_state") 2 2 (row (codes "get_state") (of_one get_state) (Some I32)) refl refl refl,
          (
            host_call (codes "push_state") 1 5 (row (codes "push_state") (of_one push_state) None) refl refl refl,
            (
              host_call (codes "unlock_global") 1 15 (row (codes "unlock_global") (of_one unlock_global) None) refl refl refl,
              tt,
            ),
          ),
        ),
      ),
    )

no_init : Named (codes "init") bump → ⊥
no_init h = at h.0 h.1.0 h.1.1 h.1.2 h.2
  where
    at : (e : Export) (k : ℕ) → k < 1 → get_or bump.exports k e ≡ e → e.name ≡ codes "init" → ⊥
    at e zero l is named = let first : 109 ≡ 105 = ap (λ x. get_or x.name 0 0) is ∙ ap (λ n. get_or n 0 0) named in omega (arith, first)
    at e (suc k) l is named = omega arith

pub bump_fits : ModuleFits bump
bump_fits =
    record {
      valid = record { rules = rules; bodies_typed = bodies };
      runnable = record { imports = imports; main = record { index = 5; exported = refl; own = omega arith; type = refl }; init = λ named. absurd (no_init named) };
      decodes = refl;
    }

-- ---- Labels are names, and no two are the same.

digit_is_name : (b : ℕ) → 48 ≤ b → b ≤ 57 → is_name_byte b ≡ true
digit_is_name b low high = or_left _ _ (or_left _ _ (or_left _ _ (or_left _ _ (and_from _ _ (le-leb 48 b low) (le-leb b 57 high)))))

decimal_is_name : (n : ℕ) → n < 2 ^ 64 → list_all is_name_byte (decimal n) ≡ true
decimal_is_name = decimal_by_steps (λ m ds. list_all is_name_byte ds ≡ true)
    (λ m l. and_from _ _ (digit_is_name (48 + m) (omega arith) (omega arith)) refl)
    (λ m ds l h. list_all-append is_name_byte ds ((48 + m % 10) ∷ []) ∙ and_from _ _ h (and_from _ _ (digit_is_name (48 + m % 10) (omega arith) (omega arith)) refl))

label_is_name : (n : ℕ) → n < 1024 → IsTrue (is_name (load_request n).label)
label_is_name n small =
    let short : length (decimal n) ≤ 4 = length-decimal-le 4 n (omega arith) (omega arith) (omega arith) in
    let len : length (load_request n).label ≡ length (decimal n) + 1 = omega arith in
    and_from _ _ (and_from _ _ (le-leb 1 (length (load_request n).label) (omega arith)) (le-leb (length (load_request n).label) 64 (omega arith))) (decimal_is_name n (omega arith))

value_of : (n : ℕ) → n < 1024 → digits_value 10 (decimal n) ≡ n
value_of n small = (decimal_is_IsNumeral n (omega arith)).1

labels_tell : (m n : ℕ) → m < 1024 → n < 1024 → (load_request m).label ≡ (load_request n).label → m ≡ n
labels_tell m n a b same = let digits : decimal m ≡ decimal n = cc in sym (value_of m a) ∙ ap (digits_value 10) digits ∙ value_of n b

-- ---- The requests.

length_requests : (i n : ℕ) → length (load_requests i n) ≡ n
length_requests i zero = refl
length_requests i (suc n) = ap suc (length_requests (i + 1) n)

request_at : (i n k : ℕ) (d : Request) → k < n → get_or (load_requests i n) k d ≡ load_request (i + k)
request_at i zero k d l = absurd (omega arith)
request_at i (suc n) zero d l = ap load_request (omega arith)
request_at i (suc n) (suc k) d l = request_at (i + 1) n k d (omega arith) ∙ ap load_request (omega arith)

label_at : (i n k : ℕ) (d : List ℕ) → k < n → get_or (map (λ r. r.label) (load_requests i n)) k d ≡ (load_request (i + k)).label
label_at i zero k d l = absurd (omega arith)
label_at i (suc n) zero d l = ap (λ m. (load_request m).label) (omega arith)
label_at i (suc n) (suc k) d l = label_at (i + 1) n k d (omega arith) ∙ ap (λ m. (load_request m).label) (omega arith)

requests_fit : (n : ℕ) → n ≤ 1024 → All (RequestFits 1 4) (load_requests 0 n)
requests_fit n few k d l =
    let len = length_requests 0 n in
    let small : k < n = omega arith in
    subst (RequestFits 1 4) (sym (request_at 0 n k d small))
    (record { label = label_is_name (0 + k) (omega arith); function = omega arith; host = omega arith; input = omega arith })

labels_differ : (n : ℕ) → n ≤ 1024 → Distinct (map (λ r. r.label) (load_requests 0 n))
labels_differ n few a b d below l same =
    let len : length (map (λ r. r.label) (load_requests 0 n)) ≡ n = length-map (load_requests 0 n) (λ r. r.label) ∙ length_requests 0 n in
    let small : b < n = omega arith in
    let one = labels_tell (0 + a) (0 + b) (omega arith) (omega arith) (sym (label_at 0 n a d (omega arith)) ∙ same ∙ label_at 0 n b d small) in
    omega arith

-- ---- The plan.

abbrev writes : Grant
writes = record { key = 0; size = 4; mode = Write }

bumps_fit : FunctionFits (counter ∷ []) 1 (drafted bumps)
bumps_fit =
    record {
      name = refl;
      quota = (omega arith, omega arith);
      fuel = (omega arith, omega arith);
      room = omega arith;
      few_grants = omega arith;
      grants = All-from_recursion (GrantFits (counter ∷ [])) (writes ∷ []) ((counter, refl, refl), tt);
      grants_differ = λ a b d below l. absurd (omega arith);
      few_callees = omega arith;
      callees = All-nil (λ g. g < 1);
      callees_differ = λ a b d below l. absurd (omega arith);
      code = λ m is. let same : bump ≡ m = cc in subst ModuleFits same bump_fits;
    }

pub load_fits : (n : ℕ) → n ≤ 1024 → WellFormed (load_plan n)
load_fits n few =
    record {
      limits =
          record {
            hosts = (omega arith, omega arith);
            workers = (omega arith, omega arith);
            few_keys = omega arith;
            keys = All-from_recursion KeyFits (counter ∷ []) (record { name = refl; size = (omega arith, omega arith); init = omega arith }, tt);
            keys_differ = λ a b d below l. absurd (omega arith);
            few_functions = omega arith;
            functions = All-from_recursion (FunctionFits (counter ∷ []) 1) (drafted bumps ∷ []) (bumps_fit, tt);
            functions_differ = λ a b d below l. absurd (omega arith);
            few_requests = let len = length_requests 0 n in omega arith;
            requests = requests_fit n few;
            labels_differ = labels_differ n few;
          };
      budgets = record { state = omega arith; own = omega arith };
    }
