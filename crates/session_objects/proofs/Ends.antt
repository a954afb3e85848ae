-- The tiers end, the last host first.
use Rattle.std.proofs.Common.{◌≡◌, ℕ, zero, suc, ◌+◌, ◌*◌, List, [], ◌∷◌, ◌++◌, length, map, reverse, refl, sym, ap, ◌∙◌, subst, arith, length-append}
use Rattle.std.proofs.lemmas.List.{map-append, reverse-append}
use mathlib.Core.List.{IsPrefix}
use mathlib.Core.Option.{some, some-injective}
use lib.ListN.{get_elem?}
use Rattle.shared_region.specs.Shared.{Shared}
use Rattle.turn_cell.specs.declared.cell.Seen.{Seen}
use Rattle.turn_cell.specs.History.{Each}
use Rattle.region_tier.specs.declared.cells.Passes.{Passes}
use Rattle.region_tier.specs.declared.cells.Tier.{Tier}
use Rattle.session_objects.specs.Rests.{EndsOf, HasEnded}
use Rattle.session_objects.proofs.Moving.{last_first}
use Rattle.session_objects.proofs.Rows.{at_behind, at_front}

abbrev pub EndedFrom : List Tier → ℕ → List Passes → List (List (Shared × Seen Shared)) → ℕ → Type 0
EndedFrom tiers many locals ends from = Each tiers (λ h tier. (j : ℕ) → h ≡ from + j → (e : List (Shared × Seen Shared)) × (get_elem? (reverse ends) j ≡ some e) × HasEnded many locals h tier e)

pub in_prefix : {A : Type 0} (xs ys : List A) (k : ℕ) (a : A) → IsPrefix xs ys → get_elem? xs k ≡ some a → get_elem? ys k ≡ some a
in_prefix xs ys k a p e = ap (λ l. get_elem? l k) (sym p.1) ∙ at_front xs p.0 k a e

pub has_ended : (many from : ℕ) (locals now left : List Passes) (host : ℕ) (tier : Tier) (ends : List (Shared × Seen Shared)) → IsPrefix now locals → from ≡ host * many → length now ≡ host * many + many
    → (o : (own : List Passes) × (now ≡ left ++ own) × (length left ≡ from) × EndsOf tier from own ends) → HasEnded many locals host tier ends
has_ended many from locals now left host tier ends pre is long o =
    let kept = o.2 in
    record {
      own = o.0;
      count = let a = ap length o.1 ∙ length-append left o.0 in omega (arith, a, kept, is, long);
      stand = λ j row e. in_prefix now locals (host * many + j) row pre (ap (λ l. get_elem? l (host * many + j)) o.1 ∙ (ap (λ n. get_elem? (left ++ o.0) (n + j)) (sym (kept ∙ is)) ∙ at_behind left o.0 j row e));
      ended = subst (λ n. EndsOf tier n o.0 ends) is o.3;
    }

pub ends_one : (tiers : List Tier) (many : ℕ) (locals : List Passes) (ends more : List (List (Shared × Seen Shared))) (x : List (Shared × Seen Shared)) (n : ℕ) (tier : Tier) → get_elem? tiers n ≡ some tier → HasEnded many locals n tier x
    → more ≡ ends ++ x ∷ [] → EndedFrom tiers many locals ends (n + 1) → EndedFrom tiers many locals more n
ends_one tiers many locals ends more x n tier at ended is old h t e zero here =
    let same_h : h ≡ n = omega (arith, here) in
    let same : tier ≡ t = some-injective tier t (sym at ∙ (ap (get_elem? tiers) (sym same_h) ∙ e)) in
    (x, ap (λ l. get_elem? (reverse l) 0) is ∙ ap (λ l. get_elem? l 0) (reverse-append ends (x ∷ [])), subst (λ m. HasEnded many locals m t x) (sym same_h) (subst (λ (z : Tier). HasEnded many locals n z x) same ended))
ends_one tiers many locals ends more x n tier at ended is old h t e (suc j) here =
    let o = old h t e j (omega (arith, here)) in
    (o.0, ap (λ l. get_elem? (reverse l) (suc j)) is ∙ (ap (λ l. get_elem? l (suc j)) (reverse-append ends (x ∷ [])) ∙ o.1), o.2)

pub map_reverse : {A B : Type 0} (f : A → B) (xs : List A) → map f (reverse xs) ≡ reverse (map f xs)
map_reverse f [] = refl
map_reverse f (x ∷ xs) = ap (map f) (last_first x xs) ∙ (map-append f (reverse xs) (x ∷ []) ∙ (ap (λ l. l ++ f x ∷ []) (map_reverse f xs) ∙ sym (last_first (f x) (map f xs))))
