-- A tally is the sum of its entries.
use Rattle.std.proofs.Common.{◌≡◌, ℕ, zero, suc, replicate, ◌*◌, ◌+◌, ◌%◌, ◌^◌, ◌<◌, eq-eqb, ne_eqb, List, [], ◌∷◌, ◌++◌, refl, sym, ap, ◌∙◌, subst, arith}
use Rattle.std.proofs.lemmas.List.Elements.{All-head, All-tail}
use Rattle.std.specs.List.{sum}
use Rattle.std.proofs.lemmas.List.{nil_from_length}
use Rattle.std.proofs.Common.{length, length-append}
use mathlib.Core.Option.{some-ne-none}
use lib.ListN.{get_elem?}
use Rattle.turn_cell.specs.History.{Each}
use Rattle.turn_cell.proofs.Places.{each_push}
use mathlib.Core.Logic.{dite}
use Rattle.std.proofs.Math.Nat.{suc-mul}
use native.Mathlib.Decide.{ℕ_discrete}
use Rattle.turn_cell.specs.declared.view.Entry.{Entry}
use Rattle.turn_cell.specs.History.{entry, own, Stands, MakersBelow}
use Rattle.turn_counter.specs.declared.tally.Tally.{Tally}
use Rattle.turn_counter.specs.Tallies.{Adds}

abbrev pub total : List Entry → ℕ
total [] = 0
total (e ∷ es) = sum e.numbers + total es

pub counts : (log : List Entry) (start value : Tally) → start.count < 2 ^ 64 → Stands Adds start log value → value.count ≡ (start.count + total log) % 2 ^ 64
counts [] start value fits is = let e = ap (λ (t : Tally). t.count) is in omega (arith, e, fits)
counts (e ∷ es) start value fits s = let a = s.1 in let small : s.0.count < 2 ^ 64 = omega (arith, a) in
    let rest = counts es s.0 value small s.2 in let t : ℕ = total es in let n : ℕ = sum e.numbers in
    let a' : s.0.count ≡ (start.count + n) % 2 ^ 64 = a in let r' : value.count ≡ (s.0.count + t) % 2 ^ 64 = rest in
    let g : value.count ≡ (start.count + (n + t)) % 2 ^ 64 = omega (arith, a', r') in g

pub by_two : (log : List Entry) → MakersBelow 2 log → total log ≡ total (own 0 log) + total (own 1 log)
by_two [] all = refl
by_two (e ∷ es) all =
    let rest = by_two es (All-tail (λ (d : Entry). d.maker < 2) e es all) in let low = All-head (λ (d : Entry). d.maker < 2) e es all in
    dite (ℕ_discrete e.maker 0)
    (λ z. rw (eq-eqb e.maker 0 z, ne_eqb e.maker 1 (λ o. omega (arith, z, o))) (let n : ℕ = sum e.numbers in let a : ℕ = total (own 0 es) in let b : ℕ = total (own 1 es) in let r : total es ≡ a + b = rest in let g : n + total es ≡ n + a + b = omega (arith, r) in g))
    (λ z. let o : e.maker ≡ 1 = omega (arith, z, low) in rw (eq-eqb e.maker 1 o, ne_eqb e.maker 0 z) (let n : ℕ = sum e.numbers in let a : ℕ = total (own 0 es) in let b : ℕ = total (own 1 es) in let r : total es ≡ a + b = rest in let g : n + total es ≡ a + (n + b) = omega (arith, r) in g))

pub one_two : (x y : ℕ) → total (entry 0 (x ∷ []) ∷ entry 0 (y ∷ []) ∷ []) ≡ x + y
one_two x y = omega arith

-- a list of two
pub each_two : {A : Type 0} (rest all : List A) (a b : A) (P : ℕ → A → Type 0) → rest ≡ [] → all ≡ (rest ++ a ∷ []) ++ b ∷ [] → P 0 a → P 1 b → Each all P
each_two rest all a b P none is p q = subst (λ l. Each l P) (sym (is ∙ ap (λ r. (r ++ a ∷ []) ++ b ∷ []) none)) (each_push (a ∷ []) b P (each_push [] a P (λ k x e. absurd (some-ne-none x (sym e))) p) q)

pub of_each : {A : Type 0} (rest all : List A) (a b : A) (P : ℕ → A → Type 0) → rest ≡ [] → all ≡ (rest ++ a ∷ []) ++ b ∷ [] → Each all P → P 0 a × P 1 b
of_each rest all a b P none is h = let e = is ∙ ap (λ r. (r ++ a ∷ []) ++ b ∷ []) none in (h 0 a (ap (λ l. get_elem? l 0) e), h 1 b (ap (λ l. get_elem? l 1) e))

pub only_two : {A : Type 0} (rest all : List A) (a b : A) → length all ≡ 2 → all ≡ (rest ++ a ∷ []) ++ b ∷ [] → rest ≡ []
only_two rest all a b n is = let l = length-append rest (a ∷ []) in let m = length-append (rest ++ a ∷ []) (b ∷ []) in nil_from_length rest (omega (arith, ap length is, l, m, n))

pub by_four : (log : List Entry) → MakersBelow 4 log → total log ≡ total (own 0 log) + total (own 1 log) + total (own 2 log) + total (own 3 log)
by_four [] all = refl
by_four (e ∷ es) all =
    let low = All-head (λ (d : Entry). d.maker < 4) e es all in
    let n : ℕ = sum e.numbers in
    let a : ℕ = total (own 0 es) in let b : ℕ = total (own 1 es) in let c : ℕ = total (own 2 es) in let d : ℕ = total (own 3 es) in
    let r : total es ≡ a + b + c + d = by_four es (All-tail (λ (d : Entry). d.maker < 4) e es all) in
    dite (ℕ_discrete e.maker 0)
    (λ z. rw (eq-eqb e.maker 0 z, ne_eqb e.maker 1 (λ o. omega (arith, z, o)), ne_eqb e.maker 2 (λ o. omega (arith, z, o)), ne_eqb e.maker 3 (λ o. omega (arith, z, o)))
    (let g : n + total es ≡ n + a + b + c + d = omega (arith, r) in g))
    (λ not0. dite (ℕ_discrete e.maker 1)
    (λ z. rw (eq-eqb e.maker 1 z, ne_eqb e.maker 0 (λ o. omega (arith, z, o)), ne_eqb e.maker 2 (λ o. omega (arith, z, o)), ne_eqb e.maker 3 (λ o. omega (arith, z, o)))
    (let g : n + total es ≡ a + (n + b) + c + d = omega (arith, r) in g))
    (λ not1. dite (ℕ_discrete e.maker 2)
    (λ z. rw (eq-eqb e.maker 2 z, ne_eqb e.maker 0 (λ o. omega (arith, z, o)), ne_eqb e.maker 1 (λ o. omega (arith, z, o)), ne_eqb e.maker 3 (λ o. omega (arith, z, o)))
    (let g : n + total es ≡ a + b + (n + c) + d = omega (arith, r) in g))
    (λ not2. let z : e.maker ≡ 3 = omega (arith, low, not0, not1, not2) in
    rw (eq-eqb e.maker 3 z, ne_eqb e.maker 0 (λ o. omega (arith, z, o)), ne_eqb e.maker 1 (λ o. omega (arith, z, o)), ne_eqb e.maker 2 (λ o. omega (arith, z, o)))
    (let g : n + total es ≡ a + b + c + (n + d) = omega (arith, r) in g))))

total_replicate : (n k x : ℕ) → total (replicate n (entry k (x ∷ []))) ≡ n * x
total_replicate zero k x = let g : 0 ≡ 0 * x = omega arith in g
total_replicate (suc n) k x = let t : ℕ = total (replicate n (entry k (x ∷ []))) in let q : t ≡ n * x = total_replicate n k x in
    let g : 0 + x + t ≡ n * x + x = omega (arith, q) in g ∙ sym (suc-mul n x)

pub of_two : (n x y : ℕ) (log : List Entry) → MakersBelow 2 log → own 0 log ≡ replicate n (entry 0 (x ∷ [])) → own 1 log ≡ replicate n (entry 1 (y ∷ [])) → total log ≡ n * x + n * y
of_two n x y log all a b = by_two log all ∙ (λ i. (let p = ap total a ∙ total_replicate n 0 x in p i) + (let q = ap total b ∙ total_replicate n 1 y in q i))

pub of_four : (n x : ℕ) (log : List Entry) → MakersBelow 4 log → own 0 log ≡ replicate n (entry 0 (x ∷ [])) → own 1 log ≡ replicate n (entry 1 (x ∷ [])) → own 2 log ≡ replicate n (entry 2 (x ∷ [])) → own 3 log ≡ replicate n (entry 3 (x ∷ []))
    → total log ≡ 4 * (n * x)
of_four n x log all a b c d =
    let ta : total (own 0 log) ≡ n * x = ap total a ∙ total_replicate n 0 x in let tb : total (own 1 log) ≡ n * x = ap total b ∙ total_replicate n 1 x in
    let tc : total (own 2 log) ≡ n * x = ap total c ∙ total_replicate n 2 x in let td : total (own 3 log) ≡ n * x = ap total d ∙ total_replicate n 3 x in
    by_four log all ∙ ((λ i. ta i + tb i + tc i + td i) ∙ (let p : ℕ = n * x in let g : p + p + p + p ≡ 4 * p = omega arith in g))

-- a list of four
abbrev pub four : {A : Type 0} → List A → A → A → A → A → List A
four rest a b c d = (((rest ++ a ∷ []) ++ b ∷ []) ++ c ∷ []) ++ d ∷ []

pub only_four : {A : Type 0} (rest all : List A) (a b c d : A) → length all ≡ 4 → all ≡ four rest a b c d → rest ≡ []
only_four rest all a b c d n is = let k = length-append rest (a ∷ []) in let l = length-append (rest ++ a ∷ []) (b ∷ []) in let m = length-append ((rest ++ a ∷ []) ++ b ∷ []) (c ∷ []) in let o = length-append (((rest ++ a ∷ []) ++ b ∷ []) ++ c ∷ []) (d ∷ []) in
    nil_from_length rest (omega (arith, ap length is, k, l, m, o, n))

pub of_each_four : {A : Type 0} (rest all : List A) (a b c d : A) (P : ℕ → A → Type 0) → rest ≡ [] → all ≡ four rest a b c d → Each all P → P 0 a × P 1 b × P 2 c × P 3 d
of_each_four rest all a b c d P none is h = let e = is ∙ ap (λ r. four r a b c d) none in (h 0 a (ap (λ l. get_elem? l 0) e), h 1 b (ap (λ l. get_elem? l 1) e), h 2 c (ap (λ l. get_elem? l 2) e), h 3 d (ap (λ l. get_elem? l 3) e))

pub each_four : {A : Type 0} (rest all : List A) (a b c d : A) (P : ℕ → A → Type 0) → rest ≡ [] → all ≡ four rest a b c d → P 0 a → P 1 b → P 2 c → P 3 d → Each all P
each_four rest all a b c d P none is p q r s = subst (λ l. Each l P) (sym (is ∙ ap (λ r. four r a b c d) none))
    (each_push (a ∷ b ∷ c ∷ []) d P (each_push (a ∷ b ∷ []) c P (each_push (a ∷ []) b P (each_push [] a P (λ k x e. absurd (some-ne-none x (sym e))) p) q) r) s)
