-- Facts about each element of a list and its place.
use Rattle.std.proofs.Common.{◌≡◌, ◌≢◌, ℕ, ◌+◌, zero, suc, ◌<◌, ◌≤◌, ◌⊎◌, List, [], ◌∷◌, ◌++◌, length, refl, sym, ap, ◌∙◌, subst, append_assoc, length-append, inl, inr, ⊎_elim, arith}
use mathlib.Core.List.{IsPrefix}
use mathlib.Core.Option.{some, some-injective, some-ne-none}
use mathlib.Core.Logic.{dite}
use native.Mathlib.Decide.{ℕ_discrete}
use lib.ListN.{get_elem?}
use Rattle.atomic_table.proofs.Lists.{at_longer, at_last}
use Rattle.turn_cell.specs.declared.view.Entry.{Entry}
use Rattle.turn_cell.specs.History.{Each, Lists}

-- where an element stands in a list with one more at its end
pub at_snoc_where : {A : Type 0} (l : List A) (a b : A) (j : ℕ) → get_elem? (l ++ a ∷ []) j ≡ some b → (get_elem? l j ≡ some b) ⊎ ((j ≡ length l) × (a ≡ b))
at_snoc_where [] a b zero e = inr (refl, some-injective a b e)
at_snoc_where [] a b (suc j) e = absurd (some-ne-none b (sym e))
at_snoc_where (x ∷ xs) a b zero e = inl e
at_snoc_where (x ∷ xs) a b (suc j) e = ⊎_elim (λ (t : get_elem? xs j ≡ some b). inl t) (λ (t : (j ≡ length xs) × (a ≡ b)). inr (omega (arith, t.0), t.1)) (at_snoc_where xs a b j e)

pub each_push : {A : Type 0} (xs : List A) (x : A) (P : ℕ → A → Type 0) → Each xs P → P (length xs) x → Each (xs ++ x ∷ []) P
each_push {A = A} xs x P all last k y e = ⊎_elim (λ (t : get_elem? xs k ≡ some y). all k y t) (λ (t : (k ≡ length xs) × (x ≡ y)). subst {A = ℕ × A} (λ z. P z.0 z.1) (λ i. (sym t.0 i, t.1 i)) last) (at_snoc_where xs x y k e)

pub each_front : {A : Type 0} (xs ys : List A) (P : ℕ → A → Type 0) → IsPrefix xs ys → Each ys P → Each xs P
each_front xs ys P p all k x e = all k x (subst (λ l. get_elem? l k ≡ some x) p.1 (at_longer xs p.0 k x e))

pub each_last : {A : Type 0} (xs ys : List A) (x : A) (P : ℕ → A → Type 0) → IsPrefix (xs ++ x ∷ []) ys → Each ys P → P (length xs) x
each_last xs ys x P p all = all (length xs) x (subst (λ l. get_elem? l (length xs) ≡ some x) p.1 (at_longer (xs ++ x ∷ []) p.0 (length xs) x (at_last xs x (length xs) refl)))

pub prefix_pop : {A : Type 0} (xs ys : List A) (x : A) → IsPrefix (xs ++ x ∷ []) ys → IsPrefix xs ys
prefix_pop xs ys x p = (x ∷ p.0, sym (append_assoc xs (x ∷ []) p.0) ∙ p.1)

pub at_end : {A : Type 0} (xs ys : List A) (x : A) → IsPrefix (xs ++ x ∷ []) ys → get_elem? ys (length xs) ≡ some x
at_end xs ys x p = subst (λ l. get_elem? l (length xs) ≡ some x) p.1 (at_longer (xs ++ x ∷ []) p.0 (length xs) x (at_last xs x (length xs) refl))

-- one more pair stands in the list of those that were taken back
pub lists_more : {A : Type 0} (number : A → ℕ) (list : A → List Entry) (xs ys : List A) (x : A) (ret : List (ℕ × List Entry)) → IsPrefix (xs ++ x ∷ []) ys → number x ≡ length xs
    → Each ys (λ k p. length (xs ++ x ∷ []) ≤ k → Lists ret k (list p)) → Each ys (λ k p. length xs ≤ k → Lists (ret ++ (number x, list x) ∷ []) k (list p))
lists_more number list xs ys x ret p is all k y e le = dite (ℕ_discrete k (length xs))
    (λ here. let same : x ≡ y = some-injective x y (sym (at_end xs ys x p) ∙ (ap (get_elem? ys) (sym here) ∙ e)) in
    (length ret, at_last ret (number x, list x) (length ret) refl ∙ ap some (λ i. (let n : number x ≡ k = is ∙ sym here in n i, list (same i)))))
    (λ other. let more = length-append xs (x ∷ []) in let l = all k y e (omega (arith, more, le, other)) in (l.0, at_longer ret ((number x, list x) ∷ []) l.0 (k, list y) l.1))

pub get_there : {A : Type 0} (l : List A) (i : ℕ) → i < length l → (a : A) × (get_elem? l i ≡ some a)
get_there [] i h = absurd (omega arith)
get_there (x ∷ xs) zero h = (x, refl)
get_there (x ∷ xs) (suc i) h = get_there xs i (omega arith)

pub split_front : (q : List ℕ) (id : ℕ) → get_elem? q 0 ≡ some id → (tl : List ℕ) × (q ≡ id ∷ tl)
split_front [] id e = absurd (some-ne-none id (sym e))
split_front (y ∷ q) id e = (q, ap (λ (z : ℕ). z ∷ q) (some-injective y id e))

pub behind : (served id j k : ℕ) (tl : List ℕ) → j ≢ id → get_elem? (id ∷ tl) k ≡ some j → (k' : ℕ) × (served + k ≡ served + 1 + k') × (get_elem? tl k' ≡ some j)
behind served id j zero tl ne e = absurd (ne (sym (some-injective id j e)))
behind served id j (suc k) tl ne e = (k, omega arith, e)
