-- The last two of a list, and what holds of each.
use Rattle.std.proofs.Common.{◌≡◌, ℕ, List, [], ◌∷◌, ◌++◌, length, length-append, ◌+◌, refl, arith, ap, sym, subst}
use Rattle.std.proofs.lemmas.List.{append-nil}
use Rattle.turn_cell.specs.History.{Each}
use Rattle.turn_cell.proofs.Places.{each_push, each_front, each_last}

pub record Two {A : Type 0} (front : List A) (x y : A) (P : ℕ → A → Type 0) : Type 0 where
  pub front_so : Each front P
  pub first : P (length front) x
  pub second : P (length (front ++ x ∷ [])) y

pub of_two : {A : Type 0} (items front : List A) (x y : A) (P : ℕ → A → Type 0) → items ≡ (front ++ x ∷ []) ++ y ∷ [] → Each items P → Two front x y P
of_two {A} items front x y P is all =
    let whole : Each ((front ++ x ∷ []) ++ y ∷ []) P = subst (λ (l : List A). Each l P) is all in
    let most : Each (front ++ x ∷ []) P = each_front (front ++ x ∷ []) ((front ++ x ∷ []) ++ y ∷ []) P (y ∷ [], refl) whole in
    record {
      front_so = each_front front (front ++ x ∷ []) P (x ∷ [], refl) most;
      first = each_last front (front ++ x ∷ []) x P ([], append-nil (front ++ x ∷ [])) most;
      second = each_last (front ++ x ∷ []) ((front ++ x ∷ []) ++ y ∷ []) y P ([], append-nil ((front ++ x ∷ []) ++ y ∷ [])) whole;
    }

pub with_two : {A : Type 0} (items front : List A) (x y : A) (P : ℕ → A → Type 0) → items ≡ (front ++ x ∷ []) ++ y ∷ [] → Two front x y P → Each items P
with_two {A} items front x y P is t = subst (λ (l : List A). Each l P) (sym is) (each_push (front ++ x ∷ []) y P (each_push front x P t.front_so t.first) t.second)

pub lengths_two : {A : Type 0} (items front : List A) (x y : A) → items ≡ (front ++ x ∷ []) ++ y ∷ [] → (length items ≡ length front + 2) × (length items ≡ length (front ++ x ∷ []) + 1)
lengths_two items front x y is =
    let many = length-append (front ++ x ∷ []) (y ∷ []) in
    let most = length-append front (x ∷ []) in
    let all = ap length is in
    (omega (arith, many, most, all), omega (arith, many, all))
