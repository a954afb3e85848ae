-- Lists that grow with what is gone over.
use Rattle.std.proofs.Common.{◌≡◌, ℕ, zero, suc, ◌+◌, ◌*◌, ◌<◌, List, [], ◌∷◌, ◌++◌, Option, Some, None, IfSome, length, map, take, slice_get, refl, sym, ap, ap₂, ◌∙◌, subst, arith}
use Rattle.std.specs.Option.{option_map_or}
use Rattle.std.proofs.lemmas.List.{map-append}
use Rattle.faaslet_meaning.specs.declared.call.Callable.{Callable}
use Rattle.faaslet_meaning.specs.declared.grant.Grant.{Grant}
use Rattle.faaslet_meaning.specs.Channels.{channels}
use Rattle.grant_registry.specs.declared.shown.FunctionPlan.{FunctionPlan}
use Rattle.grant_registry.specs.Shows.{ShowsFunction}
use Rattle.session_meaning.specs.Draft.{Draft}
use Rattle.session_meaning.specs.Registry as registry
use Rattle.session_objects.specs.Shape.{callable_in}

take_more : {A : Type 0} (xs : List A) (n : ℕ) (x : A) → slice_get xs n ≡ Some x → take (n + 1) xs ≡ take n xs ++ x ∷ []
take_more [] n x e = let no : ⊥ = cc in absurd no
take_more (y ∷ xs) zero x e = let same : y ≡ x = cc in ap (λ z. z ∷ []) same
take_more {A} (y ∷ xs) (suc n) x e = let same : suc n + 1 ≡ suc (n + 1) = omega arith in ap (λ m. take m (y ∷ xs)) same ∙ ap (λ l. y ∷ l) (take_more xs n x e)

there : {A : Type 0} (xs : List A) (n : ℕ) → n < length xs → (x : A) × (slice_get xs n ≡ Some x)
there [] n h = let bad : ⊥ = omega (arith, h) in absurd bad
there (x ∷ xs) zero h = (x, refl)
there (x ∷ xs) (suc n) h = there xs n (omega (arith, h))

pub some_so : {A : Type 0} (o : Option A) (P Q : A → Type 0) → IfSome o P → ((x : A) → P x → Q x) → IfSome o Q
some_so (Some x) P Q p h = h x p
some_so None P Q p h = p

-- one element more, seen through a function
pub one_here : {A B : Type 0} (f : A → B) (xs : List A) (n : ℕ) (ys : List B) (y : B) → n < length xs → IfSome (slice_get xs n) (λ x. y ≡ f x) → ys ≡ map f (take n xs) → ys ++ y ∷ [] ≡ map f (take (n + 1) xs)
one_here f xs n ys y l so h =
    let x = there xs n l in
    let same : y ≡ f x.0 = subst (λ o. IfSome o (λ x. y ≡ f x)) x.1 so in
    ap₂ (λ a b. a ++ b ∷ []) h same ∙ (sym (map-append f (take n xs) (x.0 ∷ [])) ∙ ap (map f) (sym (take_more xs n x.0 x.1)))

pub channels_long : (gs : List Grant) → length (channels gs) ≡ 2 * length gs + 1
channels_long [] = refl
channels_long (g ∷ gs) = let h = channels_long gs in let e : suc (suc (length (channels gs))) ≡ 2 * suc (length gs) + 1 = omega (arith, h) in e

-- what is told of a function, with the number of its channels
pub callable_so : (d : Draft) (f : ℕ) (p : FunctionPlan) (grants : List Grant) (n : ℕ) → f < length d.functions → IfSome (slice_get d.functions f) (λ g. ShowsFunction g p) → grants ≡ registry.grants_of d f → n ≡ 2 * length grants + 1 → IfSome (slice_get d.functions f) (λ g. ◌≡◌ {A = Callable} (record { fuel = p.fuel; room = p.room; channels = n }) (callable_in g))
callable_so d f p grants n l shown is e =
    let x = there d.functions f l in
    let g = x.0 in
    let shows : ShowsFunction g p = subst (λ o. IfSome o (λ g. ShowsFunction g p)) x.1 shown in
    let same : grants ≡ g.grants = is ∙ ap (λ o. option_map_or (λ g. g.grants) o []) x.1 in
    let long : n ≡ length (channels g.grants) = e ∙ ap (λ gs. 2 * length gs + 1) same ∙ sym (channels_long g.grants) in
    subst (λ o. IfSome o (λ g. ◌≡◌ {A = Callable} (record { fuel = p.fuel; room = p.room; channels = n }) (callable_in g))) (sym x.1)
    (ap (λ k. record { fuel = p.fuel; room = p.room; channels = k }) long ∙ ap₂ (λ a b. record { fuel = a; room = b; channels = length (channels g.grants) }) shows.fuel shows.room)
