-- One body after another.
use Rattle.std.proofs.Common.{◌≡◌, ℕ, suc, ◌+◌, ◌<◌, ◌≤◌, List, [], ◌∷◌, Option, Some, None, length, get_or, slice_get, sym, ap, ◌∙◌, subst, arith, below_more}
use Rattle.std.specs.List.{filter_map, cons_option}
use Rattle.std.proofs.lemmas.Option.{slice_get-get_or, slice_get_within}
use Rattle.faaslet_meaning.specs.declared.module.Body.{Body}
use Rattle.faaslet_meaning.specs.declared.module.Import.{Import}
use Rattle.faaslet_meaning.specs.declared.module.Module.{Module}
use Rattle.faaslet_meaning.specs.Typing.{IsTyped}
use Rattle.faaslet_meaning.specs.IndexSpaces.{imported_function, imported_functions}
use Rattle.faaslet_meaning.specs.Valid.{BodyTyped, context_of}
use Rattle.wasm_validate.specs.Causes.{TypedAt}
use Rattle.wasm_validate.specs.Spaces.{AreSpaces}
use Rattle.wasm_validate.specs.declared.spaces.Spaces.{Spaces}

-- the bodies of the first functions are typed
pub record TypedBefore (m : Module) (n : ℕ) : Type 0 where
  pub before : (j : ℕ) → j < n → BodyTyped m j

pub passed_none : (m : Module) (s : Spaces) → AreSpaces m s → TypedBefore m (s.imported_functions + 0)
passed_none m s h = record {
  before = λ j low t b i.
      let place : j ≡ length (imported_functions m) + i.place = i.behind_imports in
      absurd (omega (arith, h.imported_functions_are));
}

-- the body in a place is that of one function
pub one_body : (m : Module) (s : Spaces) → AreSpaces m s → (i : ℕ) (b : Body) → i < length m.bodies → b ≡ get_or m.bodies i b → TypedAt m (s.imported_functions + i) b → BodyTyped m (s.imported_functions + i)
one_body m s h i b within is typed t d body =
    let behind : s.imported_functions + i ≡ length (imported_functions m) + body.place = body.behind_imports in
    let place : body.place ≡ i = omega (arith, h.imported_functions_are) in
    let found : Some d ≡ Some b = sym body.body ∙ ap (slice_get m.bodies) place ∙ slice_get-get_or m.bodies i b within ∙ ap (λ (x : Body). Some x) (sym is) in
    let same : b ≡ d = cc in
    subst (λ (x : Body). IsTyped (context_of m t x) x.code) same (typed t body.type)

pub passed_more : (m : Module) (s : Spaces) → AreSpaces m s → (i : ℕ) (b : Body) → i < length m.bodies → b ≡ get_or m.bodies i b → TypedAt m (s.imported_functions + i) b → TypedBefore m (s.imported_functions + i) → TypedBefore m (s.imported_functions + (i + 1))
passed_more m s h i b within is typed p =
    record { before = λ j low. below_more (BodyTyped m) (s.imported_functions + i) p.before (one_body m s h i b within is typed) j (omega arith) }

pub all_passed : (m : Module) (s : Spaces) → AreSpaces m s → (i : ℕ) → length m.bodies ≤ i → TypedBefore m (s.imported_functions + i) → (k : ℕ) → BodyTyped m k
all_passed m s h i le p k t b body =
    let behind : k ≡ length (imported_functions m) + body.place = body.behind_imports in
    let within : body.place < length m.bodies = slice_get_within m.bodies body.place b body.body in
    p.before k (omega (arith, h.imported_functions_are)) t b body

-- there are no more imported functions than imports
pub few_imported : (m : Module) → length (imported_functions m) ≤ length m.imports
few_imported m = fewer m.imports
  where
    fewer : (is : List Import) → length (filter_map (λ (i : Import). imported_function i.kind) is) ≤ length is
    fewer [] = omega arith
    fewer (i ∷ is) = by (imported_function i.kind) (fewer is)
      where
        by : (o : Option ℕ) → length (filter_map (λ (i : Import). imported_function i.kind) is) ≤ length is → length (cons_option o (filter_map (λ (i : Import). imported_function i.kind) is)) ≤ suc (length is)
        by None less = omega (arith, less)
        by (Some n) less = omega (arith, less)
