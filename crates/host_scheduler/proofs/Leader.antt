-- Going through the warm pairs once finds the first of the warm hosts at which the fewest calls are queued.
use Rattle.std.proofs.Common.{◌≡◌, ℕ, zero, suc, ◌+◌, ◌<◌, ◌≤◌, List, [], ◌∷◌, length, Option, Some, None, Bool, true, false, cond, ◌&&◌, ◌||◌, ◌==◌, ◌⊎◌, inl, inr, refl, sym, ◌∙◌, arith, All, filter, find}
use Rattle.std.specs.Prelude.{nat_lt, nat_le}
use Rattle.std.specs.List.{list_all, range_with_len}
use Rattle.std.proofs.lemmas.Bool.{eqb-true, eqb-false, eq-eqb, le-leb, lt-leb, or_cases, or_left, or_right, and_parts, and_from, and_left, and_right, both_ways}
use Rattle.std.proofs.lemmas.List.Elements.{All-head, All-tail}
use Rattle.std.proofs.lemmas.Bool.Decides.{nat_tests}
use Rattle.faaslet_meaning.specs.Placement.{queued, is_warm, warm_hosts, fewest}
use Rattle.host_scheduler.specs.Before.{is_before, leads}

-- the best so far, after a pair
abbrev pub step : List ℕ → ℕ → Option ℕ → ℕ × ℕ → Option ℕ
step lengths function best w = cond ((w.0 == function) && leads lengths w.1 best) (Some w.1) best

abbrev pub leader : List ℕ → ℕ → Option ℕ → List (ℕ × ℕ) → Option ℕ
leader lengths function best [] = best
leader lengths function best (w ∷ ws) = leader lengths function (step lengths function best w) ws

-- none of these hosts comes before the best
abbrev Best : List ℕ → (ℕ → Bool) → Option ℕ → Type 0
Best lengths has None = (h : ℕ) → has h ≡ false
Best lengths has (Some b) = (has b ≡ true) × ((h : ℕ) → has h ≡ true → is_before lengths h b ≡ false)

abbrev before : ℕ → ℕ → ℕ → ℕ → Bool
before a h b o = nat_lt a b || ((a == b) && nat_lt h o)

after_it : (a h b o : ℕ) → before a h b o ≡ false → (b < a) ⊎ ((a ≡ b) × (o ≤ h))
after_it a h b o e = grind (arith, nat_tests)

not_before : (a h b o : ℕ) → (b < a) ⊎ ((a ≡ b) × (o ≤ h)) → before a h b o ≡ false
not_before a h b o (inl x) = grind (arith, nat_tests)
not_before a h b o (inr x) = grind (arith, nat_tests)

is_first : (a h b o : ℕ) → before a h b o ≡ true → (a < b) ⊎ ((a ≡ b) × (h < o))
is_first a h b o e = grind (arith, nat_tests)

not_self : (a h : ℕ) → before a h a h ≡ false
not_self a h = not_before a h a h (inr (refl, omega arith))

passes_on : (a h b o c p : ℕ) → before a h c p ≡ false → before b o c p ≡ true → before a h b o ≡ false
passes_on a h b o c p e t = by (after_it a h c p e) (is_first b o c p t)
  where
    by : (c < a) ⊎ ((a ≡ c) × (p ≤ h)) → (b < c) ⊎ ((b ≡ c) × (o < p)) → before a h b o ≡ false
    by (inl x) (inl y) = not_before a h b o (inl (omega arith))
    by (inl x) (inr y) = not_before a h b o (inl (omega arith))
    by (inr x) (inl y) = not_before a h b o (inl (omega arith))
    by (inr x) (inr y) = not_before a h b o (inr (omega arith, omega arith))

same_best : (lengths : List ℕ) (has other : ℕ → Bool) (b : Option ℕ) → ((h : ℕ) → has h ≡ other h) → Best lengths has b → Best lengths other b
same_best lengths has other None e p = λ h. sym (e h) ∙ p h
same_best lengths has other (Some b) e p = (sym (e b) ∙ p.0, λ h t. p.1 h (e h ∙ t))

pub or_none : (b : Bool) → b ≡ (b || false)
or_none true = refl
or_none false = refl

or_assoc : (a b c : Bool) → ((a || b) || c) ≡ (a || (b || c))
or_assoc true b c = refl
or_assoc false b c = refl

-- one pair more
more : (lengths : List ℕ) (has : ℕ → Bool) (best : Option ℕ) (named function host : ℕ) → Best lengths has best
    → Best lengths (λ h. has h || ((named == function) && (host == h))) (step lengths function best (named, host))
more lengths has best named function host p = by (named == function)
  where
    q : ℕ → ℕ
    q = queued lengths

    self : has host || (host == host) ≡ true
    self = or_right (has host) (host == host) (eq-eqb host host refl)

    new : (o : Option ℕ) (t : Bool) → leads lengths host o ≡ t → Best lengths has o → Best lengths (λ h. has h || (host == h)) (cond t (Some host) o)
    new None true e p = (self, λ h t. by_case h (or_cases (has h) (host == h) t))
      where
        by_case : (h : ℕ) → (has h ≡ true) ⊎ ((host == h) ≡ true) → is_before lengths h host ≡ false
        by_case h (inl x) = absurd (both_ways (has h) (p h) x)
        by_case h (inr x) = rw (sym (eqb-true host h x)) (not_self (q host) host)
    new None false e p = cc
    new (Some o) true e p = (self, λ h t. by_case h (or_cases (has h) (host == h) t))
      where
        by_case : (h : ℕ) → (has h ≡ true) ⊎ ((host == h) ≡ true) → is_before lengths h host ≡ false
        by_case h (inl x) = passes_on (q h) h (q host) host (q o) o (p.1 h x) e
        by_case h (inr x) = rw (sym (eqb-true host h x)) (not_self (q host) host)
    new (Some o) false e p = (or_left (has o) (host == o) p.0, λ h t. by_case h (or_cases (has h) (host == h) t))
      where
        by_case : (h : ℕ) → (has h ≡ true) ⊎ ((host == h) ≡ true) → is_before lengths h o ≡ false
        by_case h (inl x) = p.1 h x
        by_case h (inr x) = rw (sym (eqb-true host h x)) e

    by : (t : Bool) → Best lengths (λ h. has h || (t && (host == h))) (cond (t && leads lengths host best) (Some host) best)
    by true = new best (leads lengths host best) refl p
    by false = same_best lengths has (λ h. has h || false) best (λ h. or_none (has h)) p

leads_all : (lengths : List ℕ) (function : ℕ) (ws : List (ℕ × ℕ)) (has : ℕ → Bool) (best : Option ℕ) → Best lengths has best
    → Best lengths (λ h. has h || is_warm ws function h) (leader lengths function best ws)
leads_all lengths function [] has best p = same_best lengths has (λ h. has h || false) best (λ h. or_none (has h)) p
leads_all lengths function (w ∷ ws) has best p =
    let test : ℕ → Bool = λ h. (w.0 == function) && (w.1 == h) in
    let one = more lengths has best w.0 function w.1 p in
    same_best lengths (λ h. (has h || test h) || is_warm ws function h) (λ h. has h || (test h || is_warm ws function h)) (leader lengths function best (w ∷ ws))
    (λ h. or_assoc (has h) (test h) (is_warm ws function h))
    (leads_all lengths function ws (λ h. has h || test h) (step lengths function best w) one)

-- ---- The first of a range that passes.

filter_none : (has : ℕ → Bool) (xs : List ℕ) → ((h : ℕ) → has h ≡ false) → filter has xs ≡ []
filter_none has [] e = refl
filter_none has (x ∷ xs) e = rw (e x) (filter_none has xs e)

all_pass : (has test : ℕ → Bool) (xs : List ℕ) → ((h : ℕ) → has h ≡ true → test h ≡ true) → list_all test (filter has xs) ≡ true
all_pass has test [] e = refl
all_pass has test (x ∷ xs) e = by (all_pass has test xs e) (has x) refl
  where
    by : list_all test (filter has xs) ≡ true → (t : Bool) → has x ≡ t → list_all test (cond t (x ∷ filter has xs) (filter has xs)) ≡ true
    by rest true h = and_from (test x) (list_all test (filter has xs)) (e x h) rest
    by rest false h = rest

one_fails : (has test : ℕ → Bool) (s n b : ℕ) → s ≤ b → b < s + n → has b ≡ true → test b ≡ false → list_all test (filter has (range_with_len s n)) ≡ false
one_fails has test s zero b l u h f = absurd (omega arith)
one_fails has test s (suc n) b l u h f =
    by (λ (e : (s == b) ≡ false). let apart = eqb-false s b e in one_fails has test (s + 1) n b (omega arith) (omega arith) h f) (has s) refl (s == b) refl
  where
    by : ((s == b) ≡ false → list_all test (filter has (range_with_len (s + 1) n)) ≡ false) → (t : Bool) → has s ≡ t → (c : Bool) → (s == b) ≡ c
        → list_all test (cond t (s ∷ filter has (range_with_len (s + 1) n)) (filter has (range_with_len (s + 1) n))) ≡ false
    by rest true x true e = let same = eqb-true s b e in and_left (test s) (list_all test (filter has (range_with_len (s + 1) n))) (rw same f)
    by rest true x false e = and_right (test s) (list_all test (filter has (range_with_len (s + 1) n))) (rest e)
    by rest false x true e = let same = eqb-true s b e in let z : has s ≡ true = rw same h in absurd (both_ways (has s) x z)
    by rest false x false e = rest e

found : (has test : ℕ → Bool) (s n b : ℕ) → s ≤ b → b < s + n → has b ≡ true → test b ≡ true → ((h : ℕ) → h < b → has h ≡ true → test h ≡ false)
    → find test (filter has (range_with_len s n)) ≡ Some b
found has test s zero b l u h t f = absurd (omega arith)
found has test s (suc n) b l u h t f =
    by (λ (e : (s == b) ≡ false). let apart = eqb-false s b e in found has test (s + 1) n b (omega arith) (omega arith) h t f) (has s) refl (s == b) refl
  where
    by : ((s == b) ≡ false → find test (filter has (range_with_len (s + 1) n)) ≡ Some b) → (c : Bool) → has s ≡ c → (d : Bool) → (s == b) ≡ d → find test (cond c (s ∷ filter has (range_with_len (s + 1) n)) (filter has (range_with_len (s + 1) n))) ≡ Some b
    by rest true x true e = let same = eqb-true s b e in rw same (rw t refl)
    by rest true x false e = let apart = eqb-false s b e in rw (f s (omega arith) x) (rest e)
    by rest false x true e = let same = eqb-true s b e in let z : has s ≡ true = rw same h in absurd (both_ways (has s) x z)
    by rest false x false e = rest e

warm_within : (n : ℕ) (ws : List (ℕ × ℕ)) (function h : ℕ) → All (λ w. w.1 < n) ws → is_warm ws function h ≡ true → h < n
warm_within n [] function h a e = absurd (both_ways false refl e)
warm_within n (w ∷ ws) function h a e =
    let P : ℕ × ℕ → Type 0 = λ x. x.1 < n in
    by (λ t. warm_within n ws function h (All-tail P w ws a) t) (or_cases ((w.0 == function) && (w.1 == h)) (is_warm ws function h) e)
  where
    P : ℕ × ℕ → Type 0
    P x = x.1 < n

    by : (is_warm ws function h ≡ true → h < n) → (((w.0 == function) && (w.1 == h)) ≡ true) ⊎ (is_warm ws function h ≡ true) → h < n
    by rest (inl x) = let same = eqb-true w.1 h (and_parts (w.0 == function) (w.1 == h) x).1 in let low = All-head P w ws a in omega arith
    by rest (inr x) = rest x

-- the test that the first of the fewest passes
abbrev least : List ℕ → (ℕ → Bool) → ℕ → Bool
least lengths has host = list_all (λ other. nat_le (queued lengths host) (queued lengths other)) (filter has (range_with_len 0 (length lengths)))

best_is : (lengths : List ℕ) (has : ℕ → Bool) → ((h : ℕ) → has h ≡ true → h < length lengths) → (o : Option ℕ) → Best lengths has o
    → o ≡ find (least lengths has) (filter has (range_with_len 0 (length lengths)))
best_is lengths has within None p = rw (filter_none has (range_with_len 0 (length lengths)) p) refl
best_is lengths has within (Some b) p = sym (found has (least lengths has) 0 (length lengths) b (omega arith) (omega (arith, within b p.0)) p.0 passes others)
  where
    q : ℕ → ℕ
    q = queued lengths

    passes : least lengths has b ≡ true
    passes = all_pass has (λ o. nat_le (q b) (q o)) (range_with_len 0 (length lengths)) (λ h t. at_most h (after_it (q h) h (q b) b (p.1 h t)))
      where
        at_most : (h : ℕ) → (q b < q h) ⊎ ((q h ≡ q b) × (b ≤ h)) → nat_le (q b) (q h) ≡ true
        at_most h (inl x) = le-leb (q b) (q h) (omega arith)
        at_most h (inr x) = le-leb (q b) (q h) (omega arith)

    others : (h : ℕ) → h < b → has h ≡ true → least lengths has h ≡ false
    others h l t = one_fails has (λ o. nat_le (q h) (q o)) 0 (length lengths) b (omega arith) (omega (arith, within b p.0)) p.0 (more_there (after_it (q h) h (q b) b (p.1 h t)))
      where
        more_there : (q b < q h) ⊎ ((q h ≡ q b) × (b ≤ h)) → nat_le (q h) (q b) ≡ false
        more_there (inl x) = lt-leb (q h) (q b) x
        more_there (inr x) = absurd (omega arith)

pub leader_is : (lengths : List ℕ) (ws : List (ℕ × ℕ)) (function : ℕ) → All (λ w. w.1 < length lengths) ws
    → leader lengths function None ws ≡ fewest lengths (warm_hosts lengths ws function)
leader_is lengths ws function within =
    best_is lengths (is_warm ws function) (λ h t. warm_within (length lengths) ws function h within t) (leader lengths function None ws)
    (leads_all lengths function ws (λ h. false) None (λ h. refl))
