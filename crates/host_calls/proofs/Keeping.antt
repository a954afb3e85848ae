-- What a call keeps of its keys and locks stays what the definition's state has, whatever it comes to know.
use Rattle.std.proofs.Common.{◌≡◌, ℕ, zero, suc, ◌+◌, ◌-◌, ◌*◌, ◌<◌, ◌≤◌, Bool, true, false, cond, not, List, [], ◌∷◌, ◌++◌, Option, Some, None, length, get_or, set, drop, refl, ap, arith, ◌∙◌, sym, subst}
use Rattle.std.specs.Prelude.{All, filter, find, is_some, option_map, ◌==◌, ◌&&◌}
use Rattle.std.proofs.lemmas.Bool.{eqb-true, eqb-false, eq-eqb, ne_eqb, and_parts}
use Rattle.std.proofs.lemmas.List.{get_or-set_same, get_or-set_other, get_or-replicate, length-set, length-reverse}
use Rattle.faaslet_meaning.specs.Memory.{grant_limit, page_size, Memory, Home, private, Segment, is_private, mappings}
use Rattle.faaslet_meaning.specs.Memory as home
use Rattle.faaslet_meaning.specs.CallState as definition
use Rattle.faaslet_meaning.specs.CallState.{Lock, State, local, global, is_lock, same_tier, without_lock}
use Rattle.faaslet_meaning.specs.Call.{lock_at, locks_from}
use Rattle.faaslet_meaning.specs.Formed.{AllDiffer, same_lock, IsTied, places_mapped}
use Rattle.faaslet_meaning.proofs.CallParts.{differ_filter}
use Rattle.host_calls.specs.declared.state_known.Known.{Known}
use Rattle.host_calls.specs.declared.state_known.PlaceKnown.{PlaceKnown}
use Rattle.host_calls.specs.declared.state_known.Tier.{Tier}
use Rattle.host_calls.specs.declared.state_known.Tier.TheVariants as tier
use Rattle.host_calls.specs.Known.{unknown, kept, is_held, with_lock, nothing_known, seen_at, mapped_at, locked_at, unlocked_at, lock_kept, locks_kept, first_lock, tier_of, lock_of, place_of, Keeps, KeepsOf}

pub keeps_nothing : Keeps nothing_known [] [] []
keeps_nothing = record {
  long = refl;
  places = λ k h. get_or-replicate grant_limit k unknown unknown h;
  mappings = refl;
  locks = refl;
  once = tt;
}

-- ---- another value at one place

-- known of one place, and as before of all others
pub record Changes (present : List ℕ) (mapped : List (ℕ × ℕ)) (held : List Lock) (new_present : List ℕ) (new_mapped : List (ℕ × ℕ)) (new_held : List Lock) (k : ℕ) (p : PlaceKnown) : Type 0 where
  pub here : p ≡ place_of new_present new_mapped new_held k
  pub others : (i : ℕ) → (i ≡ k → ⊥) → place_of present mapped held i ≡ place_of new_present new_mapped new_held i

changed_places : (known : Known) (ps : List ℕ) (ms : List (ℕ × ℕ)) (ls : List Lock) (qs : List ℕ) (ns : List (ℕ × ℕ)) (rs : List Lock) (k : ℕ) (p : PlaceKnown) → Keeps known ps ms ls → Changes ps ms ls qs ns rs k p → (i : ℕ) → i < grant_limit → get_or (set known.places k p) i unknown ≡ place_of qs ns rs i
changed_places known ps ms ls qs ns rs k p h c i l = by (k == i) refl
  where
    by : (b : Bool) → (k == i) ≡ b → get_or (set known.places k p) i unknown ≡ place_of qs ns rs i
    by true e =
        let same : k ≡ i = eqb-true k i e in
        subst (λ x. get_or (set known.places k p) x unknown ≡ place_of qs ns rs x) same (get_or-set_same known.places k p unknown (omega (arith, l, h.long, same)) ∙ c.here)
    by false e = get_or-set_other known.places k i p unknown (λ f. eqb-false k i e (sym f)) ∙ h.places i l ∙ c.others i (λ f. eqb-false k i e (sym f))

pub changed : (known : Known) (ps : List ℕ) (ms : List (ℕ × ℕ)) (ls : List Lock) (qs : List ℕ) (ns : List (ℕ × ℕ)) (rs : List Lock) (k mappings locks : ℕ) (p : PlaceKnown) → Keeps known ps ms ls → Changes ps ms ls qs ns rs k p → mappings ≡ length ns → locks ≡ length rs → AllDiffer same_lock rs → Keeps (record { places = set known.places k p; mappings = mappings; locks = locks }) qs ns rs
changed known ps ms ls qs ns rs k mappings locks p h c m l o =
    record {
      long = length-set known.places k p ∙ h.long;
      places = changed_places known ps ms ls qs ns rs k p h c;
      mappings = m;
      locks = l;
      once = o;
    }

-- ---- a key seen present, a key mapped

found_here : (k : ℕ) (ps : List ℕ) → is_some (find (λ p. p == k) (k ∷ ps)) ≡ true
found_here k ps = rw (eq-eqb k k refl) refl

found_other : (k i : ℕ) (ps : List ℕ) → (i ≡ k → ⊥) → find (λ p. p == i) (k ∷ ps) ≡ find (λ p. p == i) ps
found_other k i ps n = rw (ne_eqb k i (λ e. n (sym e))) refl

pub keeps_seen : (known : Known) (ps : List ℕ) (ms : List (ℕ × ℕ)) (ls : List Lock) (k : ℕ) → k < grant_limit → Keeps known ps ms ls → Keeps (seen_at known k) (k ∷ ps) ms ls
keeps_seen known ps ms ls k few h =
    changed known ps ms ls (k ∷ ps) ms ls k known.mappings known.locks (record (kept known k) { present = true }) h (record {
      here = ap (λ (p : PlaceKnown). record p { present = true }) (h.places k few) ∙ ap (λ b. record (place_of ps ms ls k) { present = b }) (sym (found_here k ps));
      others = λ i n. ap (λ (o : Option ℕ). record (place_of ps ms ls i) { present = is_some o }) (sym (found_other k i ps n));
    }) h.mappings h.locks h.once

map_here : (k a : ℕ) (ms : List (ℕ × ℕ)) → option_map (λ (m : ℕ × ℕ). m.1) (find (λ m. m.0 == k) ((k, a) ∷ ms)) ≡ Some a
map_here k a ms = rw (eq-eqb k k refl) refl

map_other : (k i a : ℕ) (ms : List (ℕ × ℕ)) → (i ≡ k → ⊥) → find (λ (m : ℕ × ℕ). m.0 == i) ((k, a) ∷ ms) ≡ find (λ m. m.0 == i) ms
map_other k i a ms n = rw (ne_eqb k i (λ e. n (sym e))) refl

pub keeps_mapped : (known : Known) (ps : List ℕ) (ms : List (ℕ × ℕ)) (ls : List Lock) (k a : ℕ) → k < grant_limit → Keeps known ps ms ls → Keeps (mapped_at known k a) ps ((k, a) ∷ ms) ls
keeps_mapped known ps ms ls k a few h =
    changed known ps ms ls ps ((k, a) ∷ ms) ls k (known.mappings + 1) known.locks (record (kept known k) { address = Some a }) h (record {
      here = ap (λ (p : PlaceKnown). record p { address = Some a }) (h.places k few) ∙ ap (λ o. record (place_of ps ms ls k) { address = o }) (sym (map_here k a ms));
      others = λ i n. ap (λ (o : Option (ℕ × ℕ)). record (place_of ps ms ls i) { address = option_map (λ m. m.1) o }) (sym (map_other k i a ms n));
    }) (omega (arith, h.mappings)) h.locks h.once

-- ---- locks

tier_alike : (t : definition.Tier) → same_tier t t ≡ true
tier_alike local = refl
tier_alike global = refl

-- a lock of this tier and place is there or not
abbrev found : definition.Tier → ℕ → List Lock → Bool
found t k ls = is_some (find (is_lock t k) ls)

lock_found : (t : definition.Tier) (k : ℕ) (ls : List Lock) → found t k (record { tier = t; place = k } ∷ ls) ≡ true
lock_found local k ls = rw (eq-eqb k k refl) refl
lock_found global k ls = rw (eq-eqb k k refl) refl

-- another lock
lock_passed : (t u : definition.Tier) (k i : ℕ) (ls : List Lock) → (same_tier t u && (i == k)) ≡ false → found t i (record { tier = u; place = k } ∷ ls) ≡ found t i ls
lock_passed t u k i ls e = ap (λ b. is_some (cond b (Some (record { tier = u; place = k })) (find (is_lock t i) ls))) e

at_another : (t u : definition.Tier) (k i : ℕ) → (i ≡ k → ⊥) → (same_tier t u && (i == k)) ≡ false
at_another t u k i n = by (same_tier t u) (ne_eqb i k n)
  where
    by : (b : Bool) → (i == k) ≡ false → (b && (i == k)) ≡ false
    by true e = e
    by false e = refl

none_of : {A : Type 0} (o : Option A) → is_some o ≡ false → o ≡ None
none_of None e = refl
none_of (Some x) e = absurd (cc)

locked_here : (ps : List ℕ) (ms : List (ℕ × ℕ)) (ls : List Lock) (t : Tier) (k : ℕ) → with_lock t true (place_of ps ms ls k) ≡ place_of ps ms (lock_of t k ∷ ls) k
locked_here ps ms ls tier.Local k =
    ap (λ b. record (place_of ps ms ls k) { local = b }) (sym (lock_found local k ls))
    ∙ ap (λ b. record (place_of ps ms ls k) { local = found local k (lock_of tier.Local k ∷ ls); global = b }) (sym (lock_passed global local k k ls refl))
locked_here ps ms ls tier.Global k =
    ap (λ b. record (place_of ps ms ls k) { global = b }) (sym (lock_found global k ls))
    ∙ ap (λ b. record (place_of ps ms ls k) { local = b; global = found global k (lock_of tier.Global k ∷ ls) }) (sym (lock_passed local global k k ls refl))

locked_other : (ps : List ℕ) (ms : List (ℕ × ℕ)) (ls : List Lock) (t : Tier) (k i : ℕ) → (i ≡ k → ⊥) → place_of ps ms ls i ≡ place_of ps ms (lock_of t k ∷ ls) i
locked_other ps ms ls t k i n =
    ap (λ b. record (place_of ps ms ls i) { local = b }) (sym (lock_passed local (tier_of t) k i ls (at_another local (tier_of t) k i n)))
    ∙ ap (λ b. record (place_of ps ms ls i) { local = found local i (lock_of t k ∷ ls); global = b }) (sym (lock_passed global (tier_of t) k i ls (at_another global (tier_of t) k i n)))

pub held_is : (ps : List ℕ) (ms : List (ℕ × ℕ)) (ls : List Lock) (t : Tier) (k : ℕ) → is_held (place_of ps ms ls k) t ≡ found (tier_of t) k ls
held_is ps ms ls tier.Local k = refl
held_is ps ms ls tier.Global k = refl

pub keeps_locked : (known : Known) (ps : List ℕ) (ms : List (ℕ × ℕ)) (ls : List Lock) (t : Tier) (k : ℕ) → k < grant_limit → is_held (kept known k) t ≡ false → Keeps known ps ms ls → Keeps (locked_at known k t) ps ms (lock_of t k ∷ ls)
keeps_locked known ps ms ls t k few free h =
    let none : found (tier_of t) k ls ≡ false = sym (ap (λ p. is_held p t) (h.places k few) ∙ held_is ps ms ls t k) ∙ free in
    changed known ps ms ls ps ms (lock_of t k ∷ ls) k known.mappings (known.locks + 1) (with_lock t true (kept known k)) h (record {
      here = ap (with_lock t true) (h.places k few) ∙ locked_here ps ms ls t k;
      others = locked_other ps ms ls t k;
    }) h.mappings (omega (arith, h.locks)) (none_of (find (is_lock (tier_of t) k) ls) none, h.once)

-- ---- a lock that was released

-- the others
abbrev without : definition.Tier → ℕ → List Lock → List Lock
without t k ls = filter (λ l. not (is_lock t k l)) ls

gone : (t : definition.Tier) (k : ℕ) (ls : List Lock) → found t k (without t k ls) ≡ false
gone t k [] = refl
gone t k (l ∷ ls) = by (is_lock t k l) refl (gone t k ls)
  where
    by : (b : Bool) → is_lock t k l ≡ b → found t k (without t k ls) ≡ false → found t k (cond (not b) (l ∷ without t k ls) (without t k ls)) ≡ false
    by true e r = r
    by false e r = rw e r

tier_same : (t u : definition.Tier) → same_tier t u ≡ true → t ≡ u
tier_same local local e = refl
tier_same global global e = refl
tier_same local global e = absurd (cc)
tier_same global local e = absurd (cc)

flipped : (t u : definition.Tier) → same_tier t u ≡ same_tier u t
flipped local local = refl
flipped local global = refl
flipped global local = refl
flipped global global = refl

turned : (i k : ℕ) → (i == k) ≡ (k == i)
turned i k = by (i == k) refl
  where
    by : (b : Bool) → (i == k) ≡ b → b ≡ (k == i)
    by true e = sym (eq-eqb k i (sym (eqb-true i k e)))
    by false e = sym (ne_eqb k i (λ f. eqb-false i k e (sym f)))

-- what these two look for differs
apart : (t u : definition.Tier) (i k : ℕ) → (same_tier t u && (i == k)) ≡ false → (l : Lock) → is_lock t i l ≡ true → is_lock u k l ≡ false
apart t u i k e l f =
    let p = and_parts _ _ f in
    let a : t ≡ l.tier = tier_same t l.tier p.0 in
    let b : i ≡ l.place = eqb-true i l.place p.1 in
    sym (ap (λ x. x && (k == i)) (flipped t u) ∙ ap (λ x. same_tier u x && (k == i)) a ∙ ap (λ n. same_tier u l.tier && (k == n)) b)
    ∙ ap (λ x. same_tier t u && x) (sym (turned i k)) ∙ e

left_found : (t u : definition.Tier) (i k : ℕ) (ls : List Lock) → (same_tier t u && (i == k)) ≡ false → found t i (without u k ls) ≡ found t i ls
left_found t u i k [] e = refl
left_found t u i k (l ∷ ls) e = by (is_lock t i l) (is_lock u k l) refl refl (left_found t u i k ls e)
  where
    by : (a b : Bool) → is_lock t i l ≡ a → is_lock u k l ≡ b → found t i (without u k ls) ≡ found t i ls → found t i (cond (not b) (l ∷ without u k ls) (without u k ls)) ≡ is_some (cond a (Some l) (find (is_lock t i) ls))
    by true true f g r = absurd (let h = apart t u i k e l f in cc)
    by true false f g r = rw f refl
    by false true f g r = r
    by false false f g r = rw f r

unlocked_here : (ps : List ℕ) (ms : List (ℕ × ℕ)) (ls : List Lock) (t : Tier) (k : ℕ) → with_lock t false (place_of ps ms ls k) ≡ place_of ps ms (without (tier_of t) k ls) k
unlocked_here ps ms ls tier.Local k =
    ap (λ b. record (place_of ps ms ls k) { local = b }) (sym (gone local k ls))
    ∙ ap (λ b. record (place_of ps ms ls k) { local = found local k (without local k ls); global = b }) (sym (left_found global local k k ls refl))
unlocked_here ps ms ls tier.Global k =
    ap (λ b. record (place_of ps ms ls k) { global = b }) (sym (gone global k ls))
    ∙ ap (λ b. record (place_of ps ms ls k) { local = b; global = found global k (without global k ls) }) (sym (left_found local global k k ls refl))

unlocked_other : (ps : List ℕ) (ms : List (ℕ × ℕ)) (ls : List Lock) (t : Tier) (k i : ℕ) → (i ≡ k → ⊥) → place_of ps ms ls i ≡ place_of ps ms (without (tier_of t) k ls) i
unlocked_other ps ms ls t k i n =
    ap (λ b. record (place_of ps ms ls i) { local = b }) (sym (left_found local (tier_of t) i k ls (at_another local (tier_of t) k i n)))
    ∙ ap (λ b. record (place_of ps ms ls i) { local = found local i (without (tier_of t) k ls); global = b }) (sym (left_found global (tier_of t) i k ls (at_another global (tier_of t) k i n)))

-- of locks that differ one is taken out
all_left : (t : definition.Tier) (k : ℕ) (ls : List Lock) → find (is_lock t k) ls ≡ None → length (without t k ls) ≡ length ls
all_left t k [] e = refl
all_left t k (l ∷ ls) e = by (is_lock t k l) e (λ f. all_left t k ls f)
  where
    by : (b : Bool) → cond b (Some l) (find (is_lock t k) ls) ≡ None → (find (is_lock t k) ls ≡ None → length (without t k ls) ≡ length ls) → length (cond (not b) (l ∷ without t k ls) (without t k ls)) ≡ suc (length ls)
    by true f r = absurd (cc)
    by false f r = ap suc (r f)

one_less : (t : definition.Tier) (k : ℕ) (ls : List Lock) → AllDiffer same_lock ls → found t k ls ≡ true → suc (length (without t k ls)) ≡ length ls
one_less t k [] h e = absurd (cc)
one_less t k (l ∷ ls) h e = by (is_lock t k l) refl e (λ f. one_less t k ls h.1 f)
  where
    by : (b : Bool) → is_lock t k l ≡ b → is_some (cond b (Some l) (find (is_lock t k) ls)) ≡ true → (found t k ls ≡ true → suc (length (without t k ls)) ≡ length ls) → suc (length (cond (not b) (l ∷ without t k ls) (without t k ls))) ≡ suc (length ls)
    by true g f r =
        let p = and_parts _ _ g in
        ap suc (all_left t k ls (subst (λ (n : ℕ). find (is_lock t n) ls ≡ None) (sym (eqb-true k l.place p.1)) (subst (λ (u : definition.Tier). find (is_lock u l.place) ls ≡ None) (sym (tier_same t l.tier p.0)) h.0)))
    by false g f r = ap suc (r f)

pub keeps_unlocked : (known : Known) (ps : List ℕ) (ms : List (ℕ × ℕ)) (ls : List Lock) (t : Tier) (k : ℕ) → k < grant_limit → found (tier_of t) k ls ≡ true → Keeps known ps ms ls → Keeps (unlocked_at known k t) ps ms (without (tier_of t) k ls)
keeps_unlocked known ps ms ls t k few held h =
    let less = one_less (tier_of t) k ls h.once held in
    changed known ps ms ls ps ms (without (tier_of t) k ls) k known.mappings (known.locks - 1) (with_lock t false (kept known k)) h (record {
      here = ap (with_lock t false) (h.places k few) ∙ unlocked_here ps ms ls t k;
      others = unlocked_other ps ms ls t k;
    }) h.mappings (omega (arith, h.locks, less)) (differ_filter same_lock (λ l. not (is_lock (tier_of t) k l)) ls h.once)

-- ---- the order in which locks are released

kept_from : (ps : List ℕ) (ms : List (ℕ × ℕ)) (s : State) (places : List PlaceKnown) (k : ℕ) → ((i : ℕ) → i < length places → get_or places i unknown ≡ place_of ps ms s.locks (k + i)) → locks_kept places k ≡ locks_from s (length places) k
kept_from ps ms s [] k h = refl
kept_from ps ms s (p ∷ places) k h =
    let z : k + 0 ≡ k = omega arith in
    let first : p ≡ place_of ps ms s.locks k = h 0 (omega arith) ∙ ap (place_of ps ms s.locks) z in
    let rest : locks_kept places (k + 1) ≡ locks_from s (length places) (k + 1) = kept_from ps ms s places (k + 1) (λ i l. let e : k + suc i ≡ k + 1 + i = omega arith in h (suc i) (omega (arith, l)) ∙ ap (place_of ps ms s.locks) e) in
    ap (λ (q : PlaceKnown). lock_kept q.local local k ++ (lock_kept q.global global k ++ locks_kept places (k + 1))) first
    ∙ ap (λ ls. lock_at s local k ++ (lock_at s global k ++ ls)) rest

not_held : (s : State) (t : definition.Tier) (k : ℕ) (ls : List Lock) (n : ℕ) → All (λ l. l.place < n) ls → n ≤ k → found t k ls ≡ false
not_held s t k [] n h few = refl
not_held s t k (l ∷ ls) n h few =
    let below : l.place < n = h 0 l (omega arith) in
    lock_passed t l.tier l.place k ls (at_another t l.tier l.place k (λ e. omega (arith, e, below, few))) ∙ not_held s t k ls n (λ i d m. h (suc i) d (omega (arith, m))) few

none_at : (s : State) (t : definition.Tier) (k n : ℕ) → All (λ l. l.place < n) s.locks → n ≤ k → lock_at s t k ≡ []
none_at s t k n h few = ap (λ (b : Bool). cond b (record { tier = t; place = k } ∷ []) []) (not_held s t k s.locks n h few)

none_from : (s : State) (m k n : ℕ) → All (λ l. l.place < n) s.locks → n ≤ k → locks_from s m k ≡ []
none_from s zero k n h few = refl
none_from s (suc m) k n h few =
    ap (λ ls. ls ++ (lock_at s global k ++ locks_from s m (k + 1))) (none_at s local k n h few)
    ∙ ap (λ ls. ls ++ locks_from s m (k + 1)) (none_at s global k n h few) ∙ none_from s m (k + 1) n h (omega (arith, few))

all_from : (s : State) (m d k n : ℕ) → All (λ l. l.place < n) s.locks → n ≤ m + k → locks_from s (m + d) k ≡ locks_from s m k
all_from s zero d k n h few = let z : 0 + d ≡ d = omega arith in ap (λ i. locks_from s i k) z ∙ none_from s d k n h (omega (arith, few))
all_from s (suc m) d k n h few =
    let e : suc m + d ≡ suc (m + d) = omega arith in
    ap (λ i. locks_from s i k) e ∙ ap (λ ls. lock_at s local k ++ (lock_at s global k ++ ls)) (all_from s m d (k + 1) n h (omega (arith, few)))

pub kept_locks : (known : Known) (s : State) (n : ℕ) → KeepsOf known s → n ≤ grant_limit → All (λ l. l.place < n) s.locks → locks_kept known.places 0 ≡ locks_from s n 0
kept_locks known s n h few below =
    let e : n + (grant_limit - n) ≡ grant_limit = omega arith in
    kept_from s.present s.mapped s known.places 0 (λ i l. let z : i ≡ 0 + i = omega arith in h.places i (omega (arith, l, h.long)) ∙ ap (place_of s.present s.mapped s.locks) z)
    ∙ ap (λ i. locks_from s i 0) (h.long ∙ sym e) ∙ all_from s n (grant_limit - n) 0 n below (omega arith)

-- ---- from one place to the next

at_drop : (places : List PlaceKnown) (k : ℕ) (p : PlaceKnown) → k < length places → p ≡ get_or places k p → locks_kept (drop k places) k ≡ locks_kept (p ∷ drop (suc k) places) k
at_drop places k p l e = ap (λ ps. locks_kept ps k) (drop_at places k p l e)
  where
    drop_at : (places : List PlaceKnown) (k : ℕ) (p : PlaceKnown) → k < length places → p ≡ get_or places k p → drop k places ≡ p ∷ drop (suc k) places
    drop_at [] k p l e = absurd (omega (arith, l))
    drop_at (q ∷ qs) zero p l e = ap (λ x. x ∷ qs) (sym e)
    drop_at (q ∷ qs) (suc k) p l e = drop_at qs k p (omega (arith, l)) e

pub local_first : (places : List PlaceKnown) (k : ℕ) (p : PlaceKnown) → k < length places → p ≡ get_or places k p → p.local ≡ true → first_lock (locks_kept (drop k places) k) ≡ Some (k, true)
local_first places k p l e f =
    ap first_lock (at_drop places k p l e) ∙ ap (λ (b : Bool). first_lock (lock_kept b local k ++ (lock_kept p.global global k ++ locks_kept (drop (suc k) places) (k + 1)))) f

pub global_first : (places : List PlaceKnown) (k : ℕ) (p : PlaceKnown) → k < length places → p ≡ get_or places k p → p.local ≡ false → p.global ≡ true → first_lock (locks_kept (drop k places) k) ≡ Some (k, false)
global_first places k p l e f h =
    ap first_lock (at_drop places k p l e) ∙ ap (λ (b : Bool). first_lock (lock_kept b local k ++ (lock_kept p.global global k ++ locks_kept (drop (suc k) places) (k + 1)))) f
    ∙ ap (λ (b : Bool). first_lock (lock_kept b global k ++ locks_kept (drop (suc k) places) (k + 1))) h

pub none_first : (places : List PlaceKnown) (k : ℕ) (p : PlaceKnown) → k < length places → p ≡ get_or places k p → p.local ≡ false → p.global ≡ false → first_lock (locks_kept (drop k places) k) ≡ first_lock (locks_kept (drop (k + 1) places) (k + 1))
none_first places k p l e f h =
    let next : suc k ≡ k + 1 = omega arith in
    ap first_lock (at_drop places k p l e) ∙ ap (λ (b : Bool). first_lock (lock_kept b local k ++ (lock_kept p.global global k ++ locks_kept (drop (suc k) places) (k + 1)))) f
    ∙ ap (λ (b : Bool). first_lock (lock_kept b global k ++ locks_kept (drop (suc k) places) (k + 1))) h
    ∙ ap (λ i. first_lock (locks_kept (drop i places) (k + 1))) next

pub past_last : (places : List PlaceKnown) (k : ℕ) → length places ≤ k → first_lock (locks_kept (drop k places) k) ≡ None
past_last places k l = ap (λ ps. first_lock (locks_kept ps k)) (none places k l)
  where
    none : (places : List PlaceKnown) (k : ℕ) → length places ≤ k → drop k places ≡ []
    none [] zero l = refl
    none [] (suc k) l = refl
    none (p ∷ ps) zero l = absurd (omega (arith, l))
    none (p ∷ ps) (suc k) l = none ps k (omega (arith, l))

-- ---- mappings

-- as many replicas are mapped in the memory as a call keeps, where the two are tied
pub tied_mappings : (m : Memory) (ms : List (ℕ × ℕ)) → IsTied m.segments ms → length ms ≡ mappings m
tied_mappings m ms t = ap length t.same ∙ length-reverse (places_mapped m.segments 0) ∙ counted m.segments 0
  where
    counted : (ss : List Segment) (n : ℕ) → length (places_mapped ss n) ≡ length (filter (λ (s : Segment). not (is_private s.home)) ss)
    counted [] n = refl
    counted (s ∷ ss) n = by s.home (counted ss (n + s.pages))
      where
        by : (h : Home) → length (places_mapped ss (n + s.pages)) ≡ length (filter (λ (s : Segment). not (is_private s.home)) ss) → length (elim h as (λ _. List (ℕ × ℕ)) [ private ↦ places_mapped ss (n + s.pages) | home.mapped k ↦ (k, n * page_size) ∷ places_mapped ss (n + s.pages) ]) ≡ length (cond (not (is_private h)) (s ∷ filter (λ (s : Segment). not (is_private s.home)) ss) (filter (λ (s : Segment). not (is_private s.home)) ss))
        by private e = e
        by (home.mapped k) e = ap suc e
