-- A draft of which each function has its module is a plan, and what is kept of each function is that of the plan's.
use Rattle.std.proofs.Common.{◌≡◌, ℕ, zero, suc, ◌+◌, ◌<◌, List, [], ◌∷◌, ◌++◌, Option, Some, None, IsSome, All, length, map, option_map, slice_get, slice_index_or, unwrap_or, refl, sym, ap, ap₂, ◌∙◌, subst, arith}
use Rattle.std.specs.Prelude.{IfSome, option_and_then}
use Rattle.std.proofs.lemmas.List.Elements.{All-head, All-tail}
use Rattle.std.proofs.lemmas.List.{length-append, length-map}
use Rattle.std.proofs.lemmas.Option.{slice_get-get_or}
use Rattle.faaslet_meaning.specs.declared.module.Module.{Module}
use Rattle.faaslet_meaning.specs.Fresh.{all_of, cons_both}
use Rattle.session_meaning.specs.Draft.{Draft, DraftFunction, draft_of, drafted, function_of, plan_of}
use Rattle.session_meaning.specs.Plan.{NamedFunction, Plan}
use Rattle.session_meaning.specs.WellFormed.{WellFormed, WellFormedDraft}
use Rattle.session_meaning.proofs.FilePlans as plans
use Rattle.protos.specs.declared.kept.Kept.{Kept}
use Rattle.protos.specs.Keeps.{HasModules, Keeps, KeepsAll, KeepsAt, plan_in}

-- ---- Functions with their modules.

with_code : DraftFunction → Module → NamedFunction
with_code f m = record { name = f.name; function = record { code = m; quota = f.quota; fuel = f.fuel; room = f.room; grants = f.grants; callees = f.callees } }

pub has_function : (f : DraftFunction) → IsSome f.code → (g : NamedFunction) × (function_of f ≡ Some g)
has_function f h = by f.code refl h
  where
    by : (o : Option Module) → f.code ≡ o → IsSome o → (g : NamedFunction) × (option_map (λ m. record { name = f.name; function = record { code = m; quota = f.quota; fuel = f.fuel; room = f.room; grants = f.grants; callees = f.callees } }) f.code ≡ Some g)
    by None e h = let no : ⊥ = cc in absurd no
    by (Some m) e h = (
      record { name = f.name; function = record { code = m; quota = f.quota; fuel = f.fuel; room = f.room; grants = f.grants; callees = f.callees } },
      ap (option_map (λ m. record { name = f.name; function = record { code = m; quota = f.quota; fuel = f.fuel; room = f.room; grants = f.grants; callees = f.callees } })) e,
    )

all_there : (fs : List DraftFunction) → All (λ f. IsSome f.code) fs → (gs : List NamedFunction) × (all_of function_of fs ≡ Some gs)
all_there [] h = ([], refl)
all_there (f ∷ fs) h =
    let one = has_function f (All-head (λ f. IsSome f.code) f fs h) in
    let rest = all_there fs (All-tail (λ f. IsSome f.code) f fs h) in
    (one.0 ∷ rest.0, ap₂ cons_both one.1 rest.1)

-- the plan with these functions
abbrev planned : Draft → List NamedFunction → Plan
planned d fs = record { hosts = d.hosts; workers = d.workers; keys = d.keys; functions = fs; requests = d.requests }

-- a draft of which each function has its module is a plan
pub is_plan : (d : Draft) → HasModules d → plan_of d ≡ Some (plan_in d)
is_plan d h = by (all_of function_of d.functions) (all_there d.functions h).1
  where
    by : (o : Option (List NamedFunction)) → o ≡ Some (all_there d.functions h).0 → option_map (planned d) o ≡ Some (unwrap_or (option_map (planned d) o) (planned d []))
    by None e = let no : ⊥ = cc in absurd no
    by (Some fs) e = refl

both_some : {A : Type 0} (o : Option A) (p : Option (List A)) (l : List A) → cons_both o p ≡ Some l → (x : A) × (xs : List A) × (o ≡ Some x) × (p ≡ Some xs) × (x ∷ xs ≡ l)
both_some (Some x) (Some xs) l e = (x, xs, refl, refl, cc)
both_some (Some x) None l e = let no : ⊥ = cc in absurd no
both_some None p l e = let no : ⊥ = cc in absurd no

all_get : (fs : List DraftFunction) (gs : List NamedFunction) (n : ℕ) → all_of function_of fs ≡ Some gs → slice_get gs n ≡ option_and_then function_of (slice_get fs n)
all_get [] gs n e = let same : [] ≡ gs = cc in ap (λ l. slice_get l n) (sym same)
all_get (f ∷ fs) gs zero e = let b = both_some (function_of f) (all_of function_of fs) gs e in ap (λ l. slice_get l 0) (sym b.4) ∙ sym b.2
all_get (f ∷ fs) gs (suc n) e = let b = both_some (function_of f) (all_of function_of fs) gs e in ap (λ l. slice_get l (suc n)) (sym b.4) ∙ all_get fs b.1 n b.3

functions_are : (d : Draft) (plan : Plan) → plan_of d ≡ Some plan → all_of function_of d.functions ≡ Some plan.functions
functions_are d plan e = by (all_of function_of d.functions) e
  where
    by : (o : Option (List NamedFunction)) → option_map (planned d) o ≡ Some plan → o ≡ Some plan.functions
    by None g = let no : ⊥ = cc in absurd no
    by (Some fs) g = let same : planned d fs ≡ plan = cc in ap (λ p. Some p.functions) same

-- the functions of the plan are those of the draft
pub function_there : (d : Draft) (n : ℕ) → HasModules d → slice_get (plan_in d).functions n ≡ option_and_then function_of (slice_get d.functions n)
function_there d n h = all_get d.functions (plan_in d).functions n (functions_are d (plan_in d) (is_plan d h))

one_drafted : (f : DraftFunction) (g : NamedFunction) → function_of f ≡ Some g → drafted g ≡ f
one_drafted f g e = by f.code refl e
  where
    by : (o : Option Module) → f.code ≡ o → option_map (λ m. record { name = f.name; function = record { code = m; quota = f.quota; fuel = f.fuel; room = f.room; grants = f.grants; callees = f.callees } }) o ≡ Some g → drafted g ≡ f
    by None c h = let no : ⊥ = cc in absurd no
    by (Some m) c h =
        let same : record { name = f.name; function = record { code = m; quota = f.quota; fuel = f.fuel; room = f.room; grants = f.grants; callees = f.callees } } ≡ g = cc in
        ap drafted (sym same) ∙ ap (λ o. record f { code = o }) (sym c)

all_drafted : (fs : List DraftFunction) (gs : List NamedFunction) → all_of function_of fs ≡ Some gs → map drafted gs ≡ fs
all_drafted [] gs e = let same : [] ≡ gs = cc in ap (map drafted) (sym same)
all_drafted (f ∷ fs) gs e =
    let b = both_some (function_of f) (all_of function_of fs) gs e in
    ap (map drafted) (sym b.4) ∙ ap (λ x. x ∷ map drafted b.1) (one_drafted f b.0 b.2) ∙ ap (λ xs. f ∷ xs) (all_drafted fs b.1 b.3)

pub draft_again : (d : Draft) → HasModules d → d ≡ draft_of (plan_in d)
draft_again d h = ap (λ x. record d { functions = x }) (sym (all_drafted d.functions (plan_in d).functions (functions_are d (plan_in d) (is_plan d h)))) ∙ same (all_of function_of d.functions)
  where
    same : (o : Option (List NamedFunction)) → record d { functions = map drafted (unwrap_or (option_map (planned d) o) (planned d [])).functions } ≡ draft_of (unwrap_or (option_map (planned d) o) (planned d []))
    same None = refl
    same (Some fs) = refl

pub well_formed : (d : Draft) → WellFormedDraft d → HasModules d → WellFormed (plan_in d)
well_formed d fits h = plans.finished d (plan_in d) fits (is_plan d h)

pub as_many : (d : Draft) → HasModules d → length d.functions ≡ length (plan_in d).functions
as_many d h = ap (λ x. length x.functions) (draft_again d h) ∙ length-map (plan_in d).functions drafted

-- ---- All functions.

-- what is kept of the first functions
pub record KeepsFirst (d : Draft) (n : ℕ) (all : List Kept) : Type 0 where
  pub long : length all ≡ n
  pub each : (i : ℕ) (k : Kept) → slice_get all i ≡ Some k → KeepsAt d i k

pub keeps_none : (d : Draft) → KeepsFirst d 0 []
keeps_none d = record { long = refl; each = λ i k e. let no : ⊥ = cc in absurd no }

get_push : (all : List Kept) (k x : Kept) (i : ℕ) → slice_get (all ++ k ∷ []) i ≡ Some x → (P : ℕ → Kept → Type 0) → ((j : ℕ) (y : Kept) → slice_get all j ≡ Some y → P j y) → P (length all) k → P i x
get_push [] k x zero e P each last = let same : k ≡ x = cc in subst (P 0) same last
get_push [] k x (suc i) e P each last = let no : ⊥ = cc in absurd no
get_push (y ∷ all) k x zero e P each last = each 0 x e
get_push (y ∷ all) k x (suc i) e P each last = get_push all k x i e (λ j z. P (suc j) z) (λ j z g. each (suc j) z g) last

pub keeps_more : (d : Draft) (n : ℕ) (all : List Kept) (k : Kept) → KeepsFirst d n all → KeepsAt d n k → KeepsFirst d (n + 1) (all ++ k ∷ [])
keeps_more d n all k first last =
    record {
      long = let one = length-append all (k ∷ []) in let long = first.long in omega (arith, one, long);
      each = λ i x e. get_push all k x i e (KeepsAt d) first.each (subst (λ m. KeepsAt d m k) (sym first.long) last);
    }

pub keeps_all : (d : Draft) (n : ℕ) (all : List Kept) → WellFormedDraft d → HasModules d → n ≡ length d.functions → KeepsFirst d n all → KeepsAll d all
keeps_all d n all fits has e first = record { formed = fits; modules = has; long = first.long ∙ e; each = first.each }

-- what is kept of a function, by its number in the plan
pub keeps_at : (d : Draft) (all : List Kept) (n : ℕ) (k : Kept) (g : NamedFunction) → KeepsAll d all → slice_get all n ≡ Some k → slice_get (plan_in d).functions n ≡ Some g → Keeps g.function k
keeps_at d all n k g keeps at is = keeps.each n k at g (sym (function_there d n keeps.modules) ∙ is)

-- what is kept at a place is that of the function with this number, if there is one
pub kept_at : (d : Draft) (plan : Plan) (all : List Kept) (n : ℕ) (k : Kept) → KeepsAll d all → plan_in d ≡ plan → n < length plan.functions → slice_index_or all n k ≡ k → IfSome (slice_get plan.functions n) (λ g. Keeps g.function k)
kept_at d plan all n k keeps is l at = by (slice_get plan.functions n) refl
  where
    long : n < length all
    long =
        let a = keeps.long in
        let b = as_many d keeps.modules in
        let e = ap (λ p. length p.functions) is in
        omega (arith, a, b, e, l)

    there : slice_get all n ≡ Some k
    there = slice_get-get_or all n k long ∙ ap (λ x. Some x) at

    by : (o : Option NamedFunction) → slice_get plan.functions n ≡ o → IfSome o (λ g. Keeps g.function k)
    by None e = tt
    by (Some g) e = keeps_at d all n k g keeps there (ap (λ p. slice_get p.functions n) is ∙ e)
