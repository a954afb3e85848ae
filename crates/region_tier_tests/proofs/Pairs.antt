-- Lists of two makers' entries.
use Rattle.std.proofs.Common.{◌≡◌, ◌≢◌, ℕ, zero, suc, ◌+◌, ◌<◌, ◌⊎◌, inl, inr, Bool, true, false, cond, eqb, eq-eqb, ne_eqb, List, [], ◌∷◌, ◌++◌, refl, sym, ap, ◌∙◌, subst, arith}
use Rattle.std.proofs.lemmas.List.{append-nil}
use Rattle.std.proofs.lemmas.List.Elements.{All-nil, All-cons, All-head, All-tail}
use Rattle.std.specs.List.{All}
use mathlib.Core.Logic.{dite}
use native.Mathlib.Decide.{ℕ_discrete}
use Rattle.turn_cell.specs.declared.view.Entry.{Entry}
use Rattle.turn_cell.specs.History.{own, entry, Extends, MakersBelow}

pub below_front : (k : ℕ) (a b : List Entry) → MakersBelow k (a ++ b) → MakersBelow k a
below_front k [] b h = All-nil (λ (e : Entry). e.maker < k)
below_front k (e ∷ es) b h = All-cons (λ (d : Entry). d.maker < k) e es (All-head (λ (d : Entry). d.maker < k) e (es ++ b) h) (below_front k es b (All-tail (λ (d : Entry). d.maker < k) e (es ++ b) h))

pub below_back : (k : ℕ) (a b : List Entry) → MakersBelow k (a ++ b) → MakersBelow k b
below_back k [] b h = h
below_back k (e ∷ es) b h = below_back k es b (All-tail (λ (d : Entry). d.maker < k) e (es ++ b) h)

pub apart_front : (k : ℕ) (a b : List Entry) → All (λ e. e.maker ≢ k) (a ++ b) → All (λ e. e.maker ≢ k) a
apart_front k [] b h = All-nil (λ (e : Entry). e.maker ≢ k)
apart_front k (e ∷ es) b h = All-cons (λ (d : Entry). d.maker ≢ k) e es (All-head (λ (d : Entry). d.maker ≢ k) e (es ++ b) h) (apart_front k es b (All-tail (λ (d : Entry). d.maker ≢ k) e (es ++ b) h))

own_head : (n : ℕ) (e : Entry) (es : List Entry) → e.maker ≡ n → own n (e ∷ es) ≡ e ∷ own n es
own_head n e es same = ap (λ (b : Bool). cond b (e ∷ own n es) (own n es)) (eq-eqb e.maker n same)

own_skip : (n : ℕ) (e : Entry) (es : List Entry) → e.maker ≢ n → own n (e ∷ es) ≡ own n es
own_skip n e es apart = ap (λ (b : Bool). cond b (e ∷ own n es) (own n es)) (ne_eqb e.maker n apart)

-- of two makers, what is not of the one is of the other
pub all_first : (l : List Entry) → MakersBelow 2 l → All (λ e. e.maker ≢ 1) l → own 0 l ≡ l
all_first [] low ne = refl
all_first (e ∷ es) low ne =
    let a = All-head (λ (d : Entry). d.maker < 2) e es low in
    let b = All-head (λ (d : Entry). d.maker ≢ 1) e es ne in
    let same : e.maker ≡ 0 = omega (arith, a, b) in
    own_head 0 e es same ∙ ap (λ l. e ∷ l) (all_first es (All-tail (λ (d : Entry). d.maker < 2) e es low) (All-tail (λ (d : Entry). d.maker ≢ 1) e es ne))

-- the same, by what each maker made
pub firsts : (l : List Entry) → MakersBelow 2 l → own 1 l ≡ [] → own 0 l ≡ l
firsts [] low none = refl
firsts (e ∷ es) low none =
    let a = All-head (λ (d : Entry). d.maker < 2) e es low in
    let rest = All-tail (λ (d : Entry). d.maker < 2) e es low in
    dite (ℕ_discrete e.maker 0)
    (λ same. own_head 0 e es same ∙ ap (λ l. e ∷ l) (firsts es rest (sym (own_skip 1 e es (λ one. omega (arith, one, same))) ∙ none)))
    (λ apart. let one : e.maker ≡ 1 = omega (arith, a, apart) in let no = sym (own_head 1 e es one) ∙ none in cc)

pub seconds : (l : List Entry) → MakersBelow 2 l → own 0 l ≡ [] → own 1 l ≡ l
seconds [] low none = refl
seconds (e ∷ es) low none =
    let a = All-head (λ (d : Entry). d.maker < 2) e es low in
    let rest = All-tail (λ (d : Entry). d.maker < 2) e es low in
    dite (ℕ_discrete e.maker 0)
    (λ same. let no = sym (own_head 0 e es same) ∙ none in cc)
    (λ apart. let one : e.maker ≡ 1 = omega (arith, a, apart) in own_head 1 e es one ∙ ap (λ l. e ∷ l) (seconds es rest (sym (own_skip 0 e es apart) ∙ none)))

pub none_left : (l : List Entry) → MakersBelow 2 l → own 0 l ≡ [] → own 1 l ≡ [] → l ≡ []
none_left l low a b = sym (firsts l low b) ∙ a

-- one entry of each maker stands in one of two orders
pub two_orders : (l : List Entry) (x y : Entry) → MakersBelow 2 l → own 0 l ≡ x ∷ [] → own 1 l ≡ y ∷ [] → (l ≡ x ∷ y ∷ []) ⊎ (l ≡ y ∷ x ∷ [])
two_orders [] x y low a b = cc
two_orders (e ∷ es) x y low a b =
    let m = All-head (λ (d : Entry). d.maker < 2) e es low in
    let rest = All-tail (λ (d : Entry). d.maker < 2) e es low in
    dite (ℕ_discrete e.maker 0)
    (λ same.
    let p = sym (own_head 0 e es same) ∙ a in
    let q = sym (own_skip 1 e es (λ one. omega (arith, one, same))) ∙ b in
    let first : e ≡ x = cc in
    let none : own 0 es ≡ [] = cc in
    let back : es ≡ y ∷ [] = sym (seconds es rest none) ∙ q in
    inl (ap (λ (z : Entry). z ∷ es) first ∙ ap (λ l. x ∷ l) back))
    (λ apart.
    let one : e.maker ≡ 1 = omega (arith, m, apart) in
    let p = sym (own_head 1 e es one) ∙ b in
    let q = sym (own_skip 0 e es apart) ∙ a in
    let first : e ≡ y = cc in
    let none : own 1 es ≡ [] = cc in
    let back : es ≡ x ∷ [] = sym (firsts es rest none) ∙ q in
    inr (ap (λ (z : Entry). z ∷ es) first ∙ ap (λ l. y ∷ l) back))
