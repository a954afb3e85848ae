-- In which order two makers' operations stand, where each was told in between what the other had seen.
use Rattle.std.proofs.Common.{◌≡◌, ◌≢◌, ℕ, List, [], ◌∷◌, ◌++◌, length, refl, sym, ap, ◌∙◌, subst, arith, length-append, append_assoc}
use Rattle.std.specs.List.{All}
use mathlib.Core.List.{IsPrefix}
use Rattle.faaslet_meaning.specs.Channels.{RegionOperation, Reply, fill, write, send, put}
use Rattle.faaslet_meaning.specs.Spelling.{spelled}
use Rattle.shared_region.specs.Shared.{Shared}
use Rattle.turn_cell.specs.declared.view.Entry.{Entry}
use Rattle.turn_cell.specs.History.{own, entry, Extends, MakersBelow}
use Rattle.turn_cell.proofs.Own.{own_adds, own_extends}
use Rattle.region_tier.specs.Answered.{Answered}
use Rattle.region_tier.proofs.Lists.{extends_more}
use Rattle.region_tier_tests.proofs.Orders.{both_seen}
use Rattle.region_tier_tests.proofs.Pairs.{below_front, below_back, all_first, firsts}

-- a maker's own entries, once it made one more
own_more : (s : Shared) (n : ℕ) (o : RegionOperation) (r : Reply) (a b : List Entry) → Answered s n o a b r → own n b ≡ own n a ++ entry n (spelled o) ∷ []
own_more s n o r a b x = ap (own n) x.entered ∙ (own_adds n (spelled o) x.before ∙ ap (λ l. l ++ entry n (spelled o) ∷ []) (own_extends n a x.before x.others))

-- nothing stands beside the one element of a list
none_before : (q z : List Entry) (x y : Entry) → q ++ x ∷ z ≡ y ∷ [] → q ≡ []
none_before [] z x y e = refl
none_before (w ∷ q) z x y e = absurd (let n = ap length e in let m = length-append q (x ∷ z) in omega (arith, n, m))

no_entries : (l : List Entry) → length l ≡ 0 → l ≡ []
no_entries [] e = refl
no_entries (x ∷ xs) e = absurd (omega (arith, e))

rest_so : (a x : Entry) (xs ys : List Entry) → (a ∷ xs) ≡ (x ∷ ys) → xs ≡ ys
rest_so a x xs ys e = cc

-- The list of the replica. The first maker filled it and made `l1`; the second was told so before it wrote, and made `m2`;
-- the first was told that before it sent, and made `n2`.
pub on_replica : (s : Shared) (r : Reply) (bs cs : List ℕ) (l1 m1 m2 n1 n2 w : List Entry) → Answered s 0 (fill bs) [] l1 Reply.done → Extends 1 [] m1 → IsPrefix l1 m1 → Answered s 1 (write 0 (9 ∷ [])) m1 m2 r
    → Extends 0 l1 n1 → IsPrefix m2 n1 → (a : Answered s 0 (send 0 2) n1 n2 (Reply.bytes cs)) → Extends 0 n2 w → Extends 1 m2 w → MakersBelow 2 w
    → (w ≡ entry 0 (spelled (fill bs)) ∷ entry 1 (spelled (write 0 (9 ∷ []))) ∷ entry 0 (spelled (send 0 2)) ∷ []) × (a.before ≡ entry 0 (spelled (fill bs)) ∷ entry 1 (spelled (write 0 (9 ∷ []))) ∷ [])
on_replica s r bs cs l1 m1 m2 n1 n2 w a1 xm lm a2 xn mn a3 x0 x1 low =
    let F = entry 0 (spelled (fill bs)) in
    let W = entry 1 (spelled (write 0 (9 ∷ []))) in
    let S = entry 0 (spelled (send 0 2)) in
    let own_l1 : own 0 l1 ≡ F ∷ [] = own_more s 0 (fill bs) Reply.done [] l1 a1 in
    let x2 : Extends 1 [] a2.before = extends_more 1 [] m1 a2.before xm a2.others in
    let apart : All (λ e. e.maker ≢ 1) a2.before = subst (All (λ e. e.maker ≢ 1)) x2.1 x2.2 in
    let low_m : MakersBelow 2 m2 = below_front 2 m2 x1.0 (subst (MakersBelow 2) (sym x1.1) low) in
    let low_before : MakersBelow 2 a2.before = below_front 2 a2.before (W ∷ []) (subst (MakersBelow 2) a2.entered low_m) in
    let own_before : own 0 a2.before ≡ a2.before = all_first a2.before low_before apart in
    let some_before : a2.before ≡ [] → ⊥ = λ e.
    let n1_so = ap length a1.entered in
    let n2_so = length-append a1.before (F ∷ []) in
    let n3_so = ap length lm.1 in
    let n4_so = length-append l1 lm.0 in
    let n5_so = ap length a2.others.1 in
    let n6_so = length-append m1 a2.others.0 in
    let n7_so = ap length e in
    omega (arith, n1_so, n2_so, n3_so, n4_so, n5_so, n6_so, n7_so) in
    let pre : IsPrefix (F ∷ W ∷ []) n1 = both_seen F W a2.before l1 m2 n1 refl own_l1 xn a2.entered own_before some_before mn in
    let q = pre.0 ++ a3.others.0 in
    let front : (F ∷ W ∷ q) ≡ a3.before = sym (append_assoc (F ∷ W ∷ []) pre.0 a3.others.0) ∙ (ap (λ l. l ++ a3.others.0) pre.1 ∙ a3.others.1) in
    let t = q ++ S ∷ x0.0 in
    let whole : (F ∷ W ∷ t) ≡ w = ap (λ l. l ++ S ∷ x0.0) front ∙ (sym (append_assoc a3.before (S ∷ []) x0.0) ∙ (ap (λ l. l ++ x0.0) (sym a3.entered) ∙ x0.1)) in
    let own_w : own 0 (F ∷ W ∷ t) ≡ F ∷ S ∷ [] =
    ap (own 0) whole ∙ (own_extends 0 n2 w x0 ∙ (own_more s 0 (send 0 2) (Reply.bytes cs) n1 n2 a3 ∙ ap (λ l. l ++ S ∷ []) (own_extends 0 l1 n1 xn ∙ own_l1))) in
    let other_w : own 1 (F ∷ W ∷ t) ≡ W ∷ [] =
    ap (own 1) whole ∙ (own_extends 1 m2 w x1 ∙ (own_more s 1 (write 0 (9 ∷ [])) r m1 m2 a2 ∙ ap (λ l. l ++ W ∷ []) (own_extends 1 [] m1 xm))) in
    let own_t : own 0 t ≡ S ∷ [] = rest_so F F (own 0 t) (S ∷ []) own_w in
    let other_t : own 1 t ≡ [] = rest_so W W (own 1 t) [] other_w in
    let low_t : MakersBelow 2 t = below_back 2 (F ∷ W ∷ []) t (subst (MakersBelow 2) (sym whole) low) in
    let t_so : t ≡ S ∷ [] = sym (firsts t low_t other_t) ∙ own_t in
    let q_so : q ≡ [] = none_before q x0.0 S S t_so in
    (sym whole ∙ ap (λ l. F ∷ W ∷ l) t_so, sym front ∙ ap (λ l. F ∷ W ∷ l) q_so)

-- The list of the global value, on which the second maker made nothing.
pub on_global : (u : Shared) (bs cs : List ℕ) (g1 g2 v : List Entry) → (a : Answered u 0 (send 0 2) [] g1 (Reply.bytes bs)) → Answered u 0 (put 0 cs) g1 g2 Reply.done → Extends 0 g2 v → Extends 1 [] v → MakersBelow 2 v
    → (v ≡ entry 0 (spelled (send 0 2)) ∷ entry 0 (spelled (put 0 cs)) ∷ []) × (a.before ≡ [])
on_global u bs cs g1 g2 v a b x0 x1 low =
    let S = entry 0 (spelled (send 0 2)) in
    let P = entry 0 (spelled (put 0 cs)) in
    let apart : All (λ e. e.maker ≢ 1) v = subst (All (λ e. e.maker ≢ 1)) x1.1 x1.2 in
    let own_v : own 0 v ≡ S ∷ P ∷ [] = own_extends 0 g2 v x0 ∙ (own_more u 0 (put 0 cs) Reply.done g1 g2 b ∙ ap (λ l. l ++ P ∷ []) (own_more u 0 (send 0 2) (Reply.bytes bs) [] g1 a)) in
    let whole : v ≡ S ∷ P ∷ [] = sym (all_first v low apart) ∙ own_v in
    let none : length a.before ≡ 0 =
    let n0 = ap length whole in
    let n1 = ap length x0.1 in
    let n2 = length-append g2 x0.0 in
    let n3 = ap length b.entered in
    let n4 = length-append b.before (P ∷ []) in
    let n5 = ap length b.others.1 in
    let n6 = length-append g1 b.others.0 in
    let n7 = ap length a.entered in
    let n8 = length-append a.before (S ∷ []) in
    omega (arith, n0, n1, n2, n3, n4, n5, n6, n7, n8) in
    (whole, no_entries a.before none)
