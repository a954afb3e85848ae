-- What a maker's own entries left it, it holds in the region to which a legal history leads.
use Rattle.std.proofs.Common.{◌≡◌, ℕ, List, [], ◌∷◌, ◌++◌, length, refl, sym, ap, ◌∙◌, subst, Option, Some, None, Bool, true, false, cond, not, eqb-true, eq-eqb, ne_eqb, map}
use Rattle.std.specs.Prelude.{IsTrue, filter, option_to_list, ◌==◌, ◌||◌, ◌+◌}
use Rattle.faaslet_meaning.specs.Lists.{is_empty}
use Rattle.faaslet_meaning.specs.Channels.{RegionOperation, on_region, Reply}
use Rattle.faaslet_meaning.specs.Region as region
use Rattle.faaslet_meaning.specs.Region.{Region, may, holds, unless_held_by}
use Rattle.faaslet_meaning.specs.History.{History, Legal, left, told_to, region_rules}
use Rattle.session_meaning.specs.Answered.{Answered, of_region}
use Rattle.session_meaning.proofs.CallLocks.{sets, keeps}
use Rattle.session_meaning.proofs.OwnHistory.{told_on}

-- a maker is among those that hold
abbrev among : ℕ → List ℕ → Bool
among m xs = not (is_empty (filter (λ holder. holder == m) xs))

among_both : (m : ℕ) (xs ys : List ℕ) → among m (xs ++ ys) ≡ (among m xs || among m ys)
among_both m [] ys = refl
among_both m (x ∷ xs) ys = by (x == m) (among_both m xs ys)
  where
    by : (b : Bool) → among m (xs ++ ys) ≡ (among m xs || among m ys) → not (is_empty (cond b (x ∷ filter (λ holder. holder == m) (xs ++ ys)) (filter (λ holder. holder == m) (xs ++ ys)))) ≡ (not (is_empty (cond b (x ∷ filter (λ holder. holder == m) xs) (filter (λ holder. holder == m) xs))) || among m ys)
    by true h = refl
    by false h = h

among_one : (m : ℕ) (xs : List ℕ) → among m (m ∷ xs) ≡ true
among_one m xs = ap (λ b. not (is_empty (cond b (m ∷ filter (λ holder. holder == m) xs) (filter (λ holder. holder == m) xs)))) (eq-eqb m m refl)

or_end : (a b : Bool) → b ≡ true → (a || b) ≡ true
or_end true b h = refl
or_end false b h = h

or_more : (a b c : Bool) → (a || b) ≡ true → (a || (b || c)) ≡ true
or_more true b c h = refl
or_more false true c h = refl
or_more false false c h = let no : ⊥ = cc in absurd no

or_with : (a b c d : Bool) → (a ≡ true → c ≡ true) → (b ≡ true → d ≡ true) → (a || b) ≡ true → (c || d) ≡ true
or_with true b c d f g h = ap (λ x. x || d) (f refl)
or_with false b c d f g h = or_end c d (g h)

among_without : (m other : ℕ) (xs : List ℕ) → (m == other) ≡ false → among m xs ≡ true → among m (filter (λ holder. not (holder == other)) xs) ≡ true
among_without m other [] apart h = h
among_without m other (x ∷ xs) apart h = by (x == m) (x == other) refl refl h (among_without m other xs apart)
  where
    rest : List ℕ
    rest = filter (λ holder. not (holder == other)) xs

    by : (b c : Bool) → (x == m) ≡ b → (x == other) ≡ c → not (is_empty (cond b (x ∷ filter (λ holder. holder == m) xs) (filter (λ holder. holder == m) xs))) ≡ true → (among m xs ≡ true → among m (filter (λ holder. not (holder == other)) xs) ≡ true) → among m (cond (not c) (x ∷ filter (λ holder. not (holder == other)) xs) (filter (λ holder. not (holder == other)) xs)) ≡ true
    by true true e f k go =
        let same = eqb-true x m e in
        let here : (m == other) ≡ true = subst (λ n. (n == other) ≡ true) same f in
        let no : ⊥ = cc in absurd no
    by true false e f k go = ap (λ b. not (is_empty (cond b (x ∷ filter (λ holder. holder == m) rest) (filter (λ holder. holder == m) rest)))) e
    by false true e f k go = go k
    by false false e f k go = ap (λ b. not (is_empty (cond b (x ∷ filter (λ holder. holder == m) rest) (filter (λ holder. holder == m) rest)))) e ∙ go k

-- where another holds, a write may not stand
none_beside : (m other : ℕ) (xs : List ℕ) → (m == other) ≡ false → among m xs ≡ true → is_empty (filter (λ holder. not (holder == other)) xs) ≡ true → ⊥
none_beside m other xs apart h empty = by (filter (λ holder. not (holder == other)) xs) (among_without m other xs apart h) empty
  where
    by : (ys : List ℕ) → among m ys ≡ true → is_empty ys ≡ true → ⊥
    by [] h e = cc
    by (y ∷ ys) h e = cc

-- ---- What an operation of its own leaves a maker, and what one of another maker does.

own_after : (m : ℕ) (s : Region) (op : RegionOperation) (b : Bool) → (b ≡ true → holds s m ≡ true) → sets (on_region op) b ≡ true → holds (region.after s m op) m ≡ true
own_after m s RegionOperation.lock_read b held h =
    among_both m (option_to_list s.writer) (s.readers ++ m ∷ []) ∙ or_end (among m (option_to_list s.writer)) (among m (s.readers ++ m ∷ [])) (among_both m s.readers (m ∷ []) ∙ or_end (among m s.readers) (among m (m ∷ [])) (among_one m []))
own_after m s RegionOperation.lock_write b held h = among_one m s.readers
own_after m s RegionOperation.unlock b held h = let no : ⊥ = cc in absurd no
own_after m s (RegionOperation.fill bytes) b held h = by s.present
  where
    by : (c : Bool) → holds (cond c s (record (region.with_bytes s 0 bytes) { present = true })) m ≡ true
    by true = held h
    by false = held h
own_after m s (RegionOperation.append bytes) b held h = by (region.has_room s bytes)
  where
    by : (c : Bool) → holds (cond c (record (region.with_bytes s s.used bytes) { used = s.used + length bytes }) s) m ≡ true
    by true = held h
    by false = held h
own_after m s op b held h = held h

other_after : (m other : ℕ) (s : Region) (op : RegionOperation) → (m == other) ≡ false → IsTrue (may s other op) → holds s m ≡ true → holds (region.after s other op) m ≡ true
other_after m other s RegionOperation.lock_read apart free h =
    among_both m (option_to_list s.writer) (s.readers ++ other ∷ [])
    ∙ ap (λ b. among m (option_to_list s.writer) || b) (among_both m s.readers (other ∷ []))
    ∙ or_more (among m (option_to_list s.writer)) (among m s.readers) (among m (other ∷ [])) (sym (among_both m (option_to_list s.writer) s.readers) ∙ h)
other_after m other s RegionOperation.lock_write apart free h = absurd (none_beside m other (option_to_list s.writer ++ s.readers) apart h free)
other_after m other s RegionOperation.unlock apart free h =
    among_both m (option_to_list (unless_held_by other s.writer)) (filter (λ holder. not (holder == other)) s.readers)
    ∙ or_with (among m (option_to_list s.writer)) (among m s.readers) (among m (option_to_list (unless_held_by other s.writer))) (among m (filter (λ holder. not (holder == other)) s.readers)) (writer s.writer) (among_without m other s.readers apart) (sym (among_both m (option_to_list s.writer) s.readers) ∙ h)
  where
    by : (x : ℕ) (c : Bool) → (x == other) ≡ c → among m (x ∷ []) ≡ true → among m (option_to_list (cond c None (Some x))) ≡ true
    by x true e k = absurd (none_beside m other (x ∷ []) apart k (ap (λ c. is_empty (cond (not c) (x ∷ []) [])) e))
    by x false e k = k

    writer : (w : Option ℕ) → among m (option_to_list w) ≡ true → among m (option_to_list (unless_held_by other w)) ≡ true
    writer None k = k
    writer (Some x) k = by x (x == other) refl k
other_after m other s (RegionOperation.fill bytes) apart free h = by s.present
  where
    by : (c : Bool) → holds (cond c s (record (region.with_bytes s 0 bytes) { present = true })) m ≡ true
    by true = h
    by false = h
other_after m other s (RegionOperation.append bytes) apart free h = by (region.has_room s bytes)
  where
    by : (c : Bool) → holds (cond c (record (region.with_bytes s s.used bytes) { used = s.used + length bytes }) s) m ≡ true
    by true = h
    by false = h
other_after m other s op apart free h = h

pub kept_held : (m : ℕ) (s : Region) (h : History RegionOperation) (b : Bool) → Legal region_rules s h → (b ≡ true → holds s m ≡ true) → keeps b (told_on m s h) ≡ true → holds (left region_rules s h) m ≡ true
kept_held m s [] b legal held k = held k
kept_held m s (e ∷ es) b legal held k = by (e.0 == m) refl k (λ c f t. kept_held m (region.after s e.0 e.1) es c legal.1 f t)
  where
    rest : List (RegionOperation × Reply)
    rest = told_to region_rules m (region.after s e.0 e.1) es

    no_same : m ≡ e.0 → (e.0 == m) ≡ false → ⊥
    no_same n i = let t = eq-eqb e.0 m (sym n) in cc

    by : (c : Bool) → (e.0 == m) ≡ c → keeps b (map (λ (x : Answered). (x.operation, x.reply)) (map of_region (cond c ((e.1, region.reply s e.0 e.1) ∷ rest) rest))) ≡ true → ((c : Bool) → (c ≡ true → holds (region.after s e.0 e.1) m ≡ true) → keeps c (told_on m (region.after s e.0 e.1) es) ≡ true → holds (left region_rules (region.after s e.0 e.1) es) m ≡ true) → holds (left region_rules (region.after s e.0 e.1) es) m ≡ true
    by true i k go = go (sets (on_region e.1) b) (λ x. subst (λ n. holds (region.after s n e.1) m ≡ true) (sym (eqb-true e.0 m i)) (own_after m s e.1 b held x)) k
    by false i k go = go b (λ x. other_after m e.0 s e.1 (ne_eqb m e.0 (λ n. no_same n i)) legal.0 (held x)) k
