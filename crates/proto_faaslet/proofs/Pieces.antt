-- Pieces that are written one after the other.
use Rattle.std.proofs.Common.{◌≡◌, ℕ, ◌+◌, ◌<◌, List, [], ◌∷◌, ◌++◌, length, map, get_or, take, refl, sym, ap, ◌∙◌}
use Rattle.std.proofs.lemmas.List.{take_more, map-append}
use Rattle.faaslet_meaning.specs.Memory.{over}
use Rattle.faaslet_meaning.specs.Fresh.{all_over}

over_append : {A : Type 0} (to : List A) (xs ys : List (ℕ × List A)) → all_over to (xs ++ ys) ≡ all_over (all_over to xs) ys
over_append to [] ys = refl
over_append to (x ∷ xs) ys = over_append (over to x.0 x.1) xs ys

pub over_more : {A X : Type 0} (f : X → ℕ × List A) (to : List A) (xs : List X) (i : ℕ) (x : X) → x ≡ get_or xs i x → i < length xs → all_over to (map f (take (i + 1) xs)) ≡ over (all_over to (map f (take i xs))) (f x).0 (f x).1
over_more f to xs i x is within =
    ap (λ l. all_over to (map f l)) (take_more xs i x within ∙ ap (λ y. take i xs ++ y ∷ []) (sym is))
    ∙ ap (all_over to) (map-append f (take i xs) (x ∷ []))
    ∙ over_append to (map f (take i xs)) (f x ∷ [])
