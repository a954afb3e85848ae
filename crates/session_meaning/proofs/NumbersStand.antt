-- In a cut by names each number stands for the name of what it is the number of.
use Rattle.std.proofs.Common.{◌≡◌, ℕ, zero, suc, Bool, true, false, List, [], ◌∷◌, Some, None, refl, ap, ◌∙◌, map, filter, option_map, slice_get}
use Rattle.faaslet_meaning.specs.Lists.{passes_at}
use Rattle.session_meaning.specs.Plan.{Plan, Names}
use Rattle.session_meaning.specs.World.{World}
use Rattle.session_meaning.specs.Cut.{kept, rank, calls_of}
use Rattle.session_meaning.specs.CallNames.{call_name}
use Rattle.session_meaning.specs.NamedCut.{each, NumbersStand}
use Rattle.session_meaning.proofs.Kept.{get_kept, get_map}
use Rattle.session_meaning.proofs.NamedPlans.{filter_kept}

get_each : {A B : Type 0} (f : ℕ → B) (xs : List A) (n : ℕ) (x : A) → slice_get xs n ≡ Some x → slice_get (each f xs) n ≡ Some (f n)
get_each f [] n x e = let no : ⊥ = cc in absurd no
get_each f (y ∷ xs) zero x e = refl
get_each f (y ∷ xs) (suc n) x e = get_each (λ m. f (suc m)) xs n x e

name_stands : {A : Type 0} (test : A → Bool) (name : A → List ℕ) (xs : List A) (n : ℕ) (x : A) → slice_get xs n ≡ Some x → test x ≡ true → slice_get (map name (filter test xs)) (rank (passes_at test xs) n) ≡ Some (name x)
name_stands test name xs n x e h =
    let here : passes_at test xs n ≡ true = ap (λ o. elim o as (λ o. Bool) [ None ↦ false | Some x ↦ test x ]) e ∙ h in
    ap (λ ys. slice_get (map name ys) (rank (passes_at test xs) n)) (filter_kept test xs)
    ∙ get_map name (kept (passes_at test xs) xs) (rank (passes_at test xs) n)
    ∙ ap (option_map name) (get_kept (passes_at test xs) xs n here ∙ e)

pub numbers_stand : (plan : Plan) (functions keys : Names) (w : World) → NumbersStand plan functions keys w
numbers_stand plan functions keys w =
    record {
      calls = λ c r e i. get_kept (calls_of plan functions w) (each (call_name plan w.table.records) w.table.records) c i ∙ get_each (call_name plan w.table.records) w.table.records c r e;
      functions = λ n f e h. name_stands (λ g. functions g.name) (λ g. g.name) plan.functions n f e h;
      keys = λ n k e h. name_stands (λ g. keys g.name) (λ g. g.name) plan.keys n k e h;
    }
