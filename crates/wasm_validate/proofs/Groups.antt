-- Which group a local is of.
use Rattle.std.proofs.Common.{◌≡◌, ℕ, zero, suc, ◌+◌, ◌-◌, ◌<◌, ◌≤◌, List, [], ◌∷◌, ◌++◌, Some, length, take, get_or, slice_get, option_map, replicate, sum_by, refl, sym, ap, ◌∙◌, subst, arith, true, false, leb, leb-true, leb-false}
use Rattle.std.proofs.lemmas.List.{take_more}
use Rattle.std.proofs.lemmas.List.Sums.{sum_by-cons, sum_by-append}
use Rattle.std.specs.List.Sorted.{IsNonDecreasingBy, IsPartitionPoint}
use Rattle.faaslet_meaning.specs.declared.instr.ValType.{ValType}
use Rattle.faaslet_meaning.specs.declared.module.LocalGroup.{LocalGroup}
use Rattle.wasm_validate.specs.Groups.{in_groups, ends_from}

past_start : (n : ℕ) (gs : List LocalGroup) (j d : ℕ) → j < length (ends_from n gs) → n ≤ get_or (ends_from n gs) j d
past_start n [] j d h = absurd (omega arith)
past_start n (g ∷ gs) zero d h = omega arith
past_start n (g ∷ gs) (suc j) d h = omega (arith, past_start (n + g.count) gs j d (omega arith))

pub ends_rise : (n : ℕ) (gs : List LocalGroup) → IsNonDecreasingBy (λ x. x) (ends_from n gs)
ends_rise n [] i j d le h = absurd (omega arith)
ends_rise n (g ∷ gs) zero zero d le h = omega arith
ends_rise n (g ∷ gs) (suc i) zero d le h = absurd (omega arith)
ends_rise n (g ∷ gs) zero (suc j) d le h = past_start (n + g.count) gs j d (omega arith)
ends_rise n (g ∷ gs) (suc i) (suc j) d le h = ends_rise (n + g.count) gs i j d (omega arith) (omega arith)

pub sum_more : (gs : List LocalGroup) (i : ℕ) (d : LocalGroup) (end : ℕ) → i < length gs → end ≡ sum_by (λ g. g.count) (take i gs) → end + (get_or gs i d).count ≡ sum_by (λ g. g.count) (take (i + 1) gs)
sum_more gs i d end within e =
    let all = ap (sum_by (λ (g : LocalGroup). g.count)) (take_more gs i d within) ∙ sum_by-append (λ (g : LocalGroup). g.count) (take i gs) (get_or gs i d ∷ []) in
    omega (arith, all, e)

-- one group more
pub one_end_more : (gs : List LocalGroup) (i : ℕ) (d : LocalGroup) (new old : List ℕ) (end : ℕ) → i < length gs → end ≡ sum_by (λ g. g.count) (take i gs) → old ≡ ends_from 0 (take i gs) → new ≡ old ++ (end + (get_or gs i d).count) ∷ [] → new ≡ ends_from 0 (take (i + 1) gs)
one_end_more gs i d new old end within e f h =
    h
    ∙ ap (λ n. old ++ (n + (get_or gs i d).count) ∷ []) e
    ∙ ap (λ l. l ++ (sum_by (λ g. g.count) (take i gs) + (get_or gs i d).count) ∷ []) f
    ∙ ap (λ n. ends_from 0 (take i gs) ++ n ∷ []) from_nothing
    ∙ sym (more 0 (take i gs) (get_or gs i d))
    ∙ ap (ends_from 0) (sym (take_more gs i d within))
  where
    from_nothing : sum_by (λ g. g.count) (take i gs) + (get_or gs i d).count ≡ 0 + sum_by (λ g. g.count) (take i gs) + (get_or gs i d).count
    from_nothing = omega arith

    more : (n : ℕ) (gs : List LocalGroup) (g : LocalGroup) → ends_from n (gs ++ g ∷ []) ≡ ends_from n gs ++ (n + sum_by (λ g. g.count) gs + g.count) ∷ []
    more n [] g = let z : n + g.count ≡ n + 0 + g.count = omega arith in ap (λ x. x ∷ []) z
    more n (x ∷ gs) g =
        let all = sum_by-cons (λ (g : LocalGroup). g.count) x gs in
        let z : n + x.count + sum_by (λ g. g.count) gs + g.count ≡ n + sum_by (λ g. g.count) (x ∷ gs) + g.count = omega (arith, all) in
        ap (λ l. (n + x.count) ∷ l) (more (n + x.count) gs g ∙ ap (λ y. ends_from (n + x.count) gs ++ y ∷ []) z)

below_copies : {A : Type 0} (c : ℕ) (a : A) (l : List A) (r : ℕ) → r < c → slice_get (replicate c a ++ l) r ≡ Some a
below_copies zero a l r h = absurd (omega arith)
below_copies (suc c) a l zero h = refl
below_copies (suc c) a l (suc r) h = below_copies c a l r (omega arith)

past_copies : {A : Type 0} (c : ℕ) (a : A) (l : List A) (r : ℕ) → c ≤ r → slice_get (replicate c a ++ l) r ≡ slice_get l (r - c)
past_copies zero a l r h = let z : r ≡ r - 0 = omega arith in ap (slice_get l) z
past_copies (suc c) a l zero h = absurd (omega arith)
past_copies (suc c) a l (suc r) h = let z : r - c ≡ suc r - suc c = omega arith in past_copies c a l r (omega arith) ∙ ap (slice_get l) z

-- the first group that ends behind a place holds it
pub in_group : (n : ℕ) (gs : List LocalGroup) (r p : ℕ) → p ≤ length (ends_from n gs) → ((k : ℕ) → k < p → get_or (ends_from n gs) k 0 ≤ n + r) → ((k : ℕ) → p ≤ k → k < length (ends_from n gs) → n + r < get_or (ends_from n gs) k 0) → slice_get (in_groups gs) r ≡ option_map (λ g. g.kind) (slice_get gs p)
in_group n [] r zero bound low high = refl
in_group n [] r (suc p) bound low high = absurd (omega arith)
in_group n (g ∷ gs) r zero bound low high =
    let first : n + r < n + g.count = high 0 (omega arith) (omega arith) in
    below_copies g.count g.kind (in_groups gs) r (omega arith)
in_group n (g ∷ gs) r (suc p) bound low high =
    let first : n + g.count ≤ n + r = low 0 (omega arith) in
    let same : n + g.count + (r - g.count) ≡ n + r = omega arith in
    past_copies g.count g.kind (in_groups gs) r (omega arith)
    ∙ in_group (n + g.count) gs (r - g.count) p (omega arith)
    (λ k h. subst (λ x. get_or (ends_from (n + g.count) gs) k 0 ≤ x) (sym same) (low (suc k) (omega arith)))
    (λ k h i. subst (λ x. x < get_or (ends_from (n + g.count) gs) k 0) (sym same) (high (suc k) (omega arith) (omega arith)))

behind : {A : Type 0} (xs ys : List A) (k : ℕ) → length xs ≤ k → slice_get (xs ++ ys) k ≡ slice_get ys (k - length xs)
behind [] ys k h = let z : k ≡ k - 0 = omega arith in ap (slice_get ys) z
behind (x ∷ xs) ys zero h = absurd (omega arith)
behind (x ∷ xs) ys (suc k) h = let z : k - length xs ≡ suc k - suc (length xs) = omega arith in behind xs ys k (omega arith) ∙ ap (slice_get ys) z

pub local_found : (params : List ValType) (gs : List LocalGroup) (ends : List ℕ) (k p : ℕ) → ends ≡ ends_from 0 gs → length params ≤ k → p ≤ length ends → IsPartitionPoint (λ y. leb y (k - length params) ≡ true) (λ y. leb y (k - length params) ≡ false) ends p → slice_get (params ++ in_groups gs) k ≡ option_map (λ g. g.kind) (slice_get gs p)
local_found params gs ends k p e past bound point =
    behind params (in_groups gs) k past
    ∙ in_group 0 gs (k - length params) p (subst (λ l. p ≤ length l) e bound)
    (λ j h. let low = leb-true _ _ (subst (λ l. leb (get_or l j 0) (k - length params) ≡ true) e (point.0 j 0 (omega arith) h)) in omega (arith, low))
    (λ j h i. let high = leb-false _ _ (subst (λ l. leb (get_or l j 0) (k - length params) ≡ false) e (point.1 j 0 h (subst (λ l. j < length l) (sym e) i))) in omega (arith, high))
