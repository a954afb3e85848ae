-- A well-formed plan has what the laws on worlds, on cuts and on calls ask for.
use Rattle.std.proofs.Common.{◌≡◌, ◌⊎◌, inl, inr, ℕ, suc, ◌^◌, ◌<◌, ◌≤◌, Bool, true, false, cond, not, ◌==◌, ◌&&◌, List, [], ◌∷◌, Some, None, refl, sym, ap, ap₂, ◌∙◌, map, length, slice_get, slice_index_or, All, subst, arith, IsTrue}
use Rattle.std.specs.Prelude.{find}
use Rattle.std.specs.List.{list_all}
use Rattle.std.proofs.lemmas.Bool.{and_parts, cases_order, ne_eqb, eqb-true}
use Rattle.std.proofs.lemmas.List.{length-map, get_or-map}
use Rattle.std.proofs.lemmas.Option.{slice_get_within, get_or_from_slice_get}
use Rattle.faaslet_meaning.specs.declared.grant.Grant.{Grant}
use Rattle.faaslet_meaning.specs.Asked.{IsNumbered}
use Rattle.faaslet_meaning.specs.Formed.{AllDiffer, KeysDiffer}
use Rattle.faaslet_meaning.specs.Runnable.{Runnable}
use Rattle.faaslet_meaning.specs.Runs.{invocation}
use Rattle.faaslet_meaning.specs.Valid.{Valid}
use Rattle.session_meaning.specs.Plan.{NamedFunction, Plan}
use Rattle.session_meaning.specs.Draft.{drafted}
use Rattle.session_meaning.specs.Names.{is_within, is_name_byte, is_name}
use Rattle.session_meaning.specs.WellFormed.{Distinct, FunctionFits, WellFormed}
use Rattle.session_meaning.specs.CallNames.{NamedApart, DistinctLabels, DistinctNames, PlainLabels}
use Rattle.session_meaning.specs.WorldTold.{CallsFit}
use Rattle.session_meaning.proofs.NamedPlans.{map_map}

-- ---- What differs has places of its own.

apart : {A : Type 0} (name : A → List ℕ) (xs : List A) → Distinct (map name xs) → NamedApart name xs
apart name xs differ m n x y at_m at_n same = by (cases_order m n)
  where
    named : (k : ℕ) (z : _) → slice_get xs k ≡ Some z → slice_index_or (map name xs) k [] ≡ name z
    named k z at = get_or-map name xs k z [] (slice_get_within xs k z at) ∙ ap name (get_or_from_slice_get xs k z z at)

    inside : (k : ℕ) (z : _) → slice_get xs k ≡ Some z → k < length (map name xs)
    inside k z at = let l = slice_get_within xs k z at in let e = length-map xs name in omega (arith, l, e)

    by : (m ≡ n) ⊎ ((m < n) ⊎ (n < m)) → m ≡ n
    by (inl e) = e
    by (inr (inl l)) = absurd (differ m n [] l (inside n y at_n) (named m x at_m ∙ same ∙ sym (named n y at_n)))
    by (inr (inr l)) = absurd (differ n m [] l (inside m x at_m) (named n y at_n ∙ sym same ∙ sym (named m x at_m)))

pub labels_apart : (plan : Plan) → WellFormed plan → DistinctLabels plan
labels_apart plan fine = apart (λ r. r.label) plan.requests fine.limits.labels_differ

pub names_apart : (plan : Plan) → WellFormed plan → DistinctNames plan
names_apart plan fine =
    record {
      keys = apart (λ k. k.name) plan.keys fine.limits.keys_differ;
      functions = apart (λ f. f.name) plan.functions (subst Distinct (map_map drafted (λ f. f.name) plan.functions) fine.limits.functions_differ);
    }

-- ---- Labels are names, and have no point.

all_more : (test other : ℕ → Bool) (xs : List ℕ) → ((x : ℕ) → test x ≡ true → other x ≡ true) → list_all test xs ≡ true → list_all other xs ≡ true
all_more test other [] more h = refl
all_more test other (x ∷ xs) more h = let parts = and_parts (test x) (list_all test xs) h in ap₂ (λ a b. a && b) (more x parts.0) (all_more test other xs more parts.1)

no_point : (c : ℕ) → is_name_byte c ≡ true → not (c == 46) ≡ true
no_point c h = by (c == 46) refl
  where
    by : (b : Bool) → (c == 46) ≡ b → not b ≡ true
    by false e = refl
    by true e = let bad : is_name_byte 46 ≡ true = subst (λ n. is_name_byte n ≡ true) (eqb-true c 46 e) h in let no : ⊥ = cc in absurd no

pub labels_plain : (plan : Plan) → WellFormed plan → PlainLabels plan
labels_plain plan fine n r at =
    let fits = fine.limits.requests n r (slice_get_within plan.requests n r at) in
    let name : IsTrue (is_name r.label) = subst (λ q. IsTrue (is_name q.label)) (get_or_from_slice_get plan.requests n r r at) fits.label in
    all_more is_name_byte (λ c. not (c == 46)) r.label no_point (and_parts (is_within 1 64 (length r.label)) (list_all is_name_byte r.label) name).1

-- ---- Functions, one by one.

pub functions_fit : (plan : Plan) → WellFormed plan → All (λ f. FunctionFits plan.keys (length plan.functions) (drafted f)) plan.functions
functions_fit plan fine n f l =
    let few = length-map plan.functions drafted in
    let fits : FunctionFits plan.keys (length (map drafted plan.functions)) (slice_index_or (map drafted plan.functions) n (drafted f)) = fine.limits.functions n (drafted f) (omega (arith, l, few)) in
    subst (FunctionFits plan.keys (length plan.functions)) (get_or-map drafted plan.functions n f (drafted f) l) (subst (λ m. FunctionFits plan.keys m (slice_index_or (map drafted plan.functions) n (drafted f))) few fits)

pub calls_fit : (plan : Plan) → WellFormed plan → CallsFit plan
calls_fit plan fine =
    record {
      keys = λ n k l. (fine.limits.keys n k l).init;
      grants = λ n f l. (functions_fit plan fine n f l).grants;
      rooms = λ n f l. (functions_fit plan fine n f l).room;
    }

pub modules_fit : (plan : Plan) → WellFormed plan → All (λ f. Valid f.function.code × Runnable f.function.code) plan.functions
modules_fit plan fine n f l =
    let fits = (functions_fit plan fine n f l).code (slice_index_or plan.functions n f).function.code refl in
    (fits.valid, fits.runnable)

-- ---- Their invocations.

no_other : (test : Grant → Bool) (gs : List Grant) → ((k : ℕ) (d : Grant) → k < length gs → test (slice_index_or gs k d) ≡ false) → find test gs ≡ None
no_other test [] h = refl
no_other test (g ∷ gs) h = ap (λ b. cond b (Some g) (find test gs)) (h 0 g (omega arith)) ∙ no_other test gs (λ k d l. h (suc k) d (omega (arith, l)))

grants_differ : (gs : List Grant) → Distinct (map (λ g. g.key) gs) → AllDiffer (λ a b. a.key == b.key) gs
grants_differ [] h = tt
grants_differ (g ∷ gs) h =
    let len = length-map gs (λ g. g.key) in (
      no_other (λ b. g.key == b.key) gs (λ k d l. ne_eqb g.key (slice_index_or gs k d).key (λ e. h 0 (suc k) g.key (omega arith) (omega (arith, l, len)) (e ∙ sym (get_or-map (λ g. g.key) gs k d g.key l)))),
      grants_differ gs (λ i j d l m. h (suc i) (suc j) d (omega (arith, l)) (omega (arith, m))),
    )

below : (n m : ℕ) → n ≤ m → m ≤ 16777216 → n < 2 ^ 32
below n m l k = omega (arith, l, k)

numbered : (plan : Plan) (f : NamedFunction) (input : List ℕ) → WellFormed plan → FunctionFits plan.keys (length plan.functions) (drafted f) → IsNumbered (invocation f.function input)
numbered plan f input fine fits =
    record {
      keys = λ n g l.
          let grant = fits.grants n g l in
          let there = slice_get_within plan.keys (slice_index_or f.function.grants n g).key grant.0 grant.1 in
          let few = fine.limits.few_keys in
          below (slice_index_or f.function.grants n g).key (length plan.keys) (omega (arith, there)) (omega (arith, few));
      sizes = λ n g l.
          let grant = fits.grants n g l in
          let key = slice_index_or f.function.grants n g in
          let there = slice_get_within plan.keys key.key grant.0 grant.1 in
          let size = subst (λ k. k.size ≤ 16777216) (get_or_from_slice_get plan.keys key.key grant.0 grant.0 grant.1) (fine.limits.keys key.key grant.0 there).size.1 in
          let same = grant.2 in
          below key.size grant.0.size (omega (arith, same)) size;
      callees = λ n g l.
          let there = fits.callees n g l in
          let len = length-map plan.functions drafted in
          let few = fine.limits.few_functions in
          below (slice_index_or f.function.callees n g) (length plan.functions) (omega (arith, there)) (omega (arith, few, len));
    }

pub invocations_fit : (plan : Plan) → WellFormed plan → All (λ f. (input : List ℕ) → KeysDiffer (invocation f.function input) × IsNumbered (invocation f.function input)) plan.functions
invocations_fit plan fine n d l input =
    let fits = functions_fit plan fine n d l in
    let f = slice_index_or plan.functions n d in
    (grants_differ f.function.grants fits.grants_differ, numbered plan f input fine fits)
