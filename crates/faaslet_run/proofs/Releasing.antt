-- The locks that are held at the end of a call, in the order in which they are released: the first of them, and those behind it.
use Rattle.std.proofs.Common.{◌≡◌, ℕ, zero, suc, ◌+◌, ◌<◌, ◌≤◌, Bool, true, false, cond, not, List, [], ◌∷◌, ◌++◌, Some, None, length, refl, sym, ap, ◌∙◌, subst, arith, eqb-true, ne_eqb}
use Rattle.std.specs.Prelude.{All, filter, find, is_some, ◌==◌, ◌&&◌}
use Rattle.std.proofs.lemmas.Bool.{and_parts}
use Rattle.std.proofs.lemmas.Option.{same_Some}
use Rattle.faaslet_meaning.specs.declared.outcome.Outcome.{Outcome}
use Rattle.faaslet_meaning.specs.Call.{lock_at, locks_from, release}
use Rattle.faaslet_meaning.specs.CallState.{Invocation, Lock, State, Tier, global, is_lock, local, same_tier, without_lock}
use Rattle.faaslet_meaning.specs.Checks.{holds}
use Rattle.faaslet_meaning.specs.Formed.{FormedAt}
use Rattle.host_calls.specs.Known.{first_lock, is_local, lock_of, tier_named, tier_of}

abbrev the : Tier → ℕ → Lock
the t k = record { tier = t; place = k }

abbrev found : Tier → ℕ → List Lock → Bool
found t k ls = is_some (find (is_lock t k) ls)

-- the others
abbrev without : Tier → ℕ → List Lock → List Lock
without u m ls = filter (λ h. not (is_lock u m h)) ls

-- ---- What is taken out is not found, and all else is as before.

gone : (t : Tier) (k : ℕ) (ls : List Lock) → found t k (without t k ls) ≡ false
gone t k [] = refl
gone t k (l ∷ ls) = by (is_lock t k l) refl (gone t k ls)
  where
    by : (b : Bool) → is_lock t k l ≡ b → found t k (without t k ls) ≡ false → found t k (cond (not b) (l ∷ without t k ls) (without t k ls)) ≡ false
    by true e r = r
    by false e r = rw e r

abbrev Apart : Tier → ℕ → Tier → ℕ → Type 0
Apart t k u m = (h : Lock) → is_lock t k h ≡ true → is_lock u m h ≡ false

left_found : (t u : Tier) (k m : ℕ) → Apart t k u m → (ls : List Lock) → found t k (without u m ls) ≡ found t k ls
left_found t u k m d [] = refl
left_found t u k m d (l ∷ ls) = by (is_lock t k l) (is_lock u m l) refl refl (left_found t u k m d ls)
  where
    by : (a b : Bool) → is_lock t k l ≡ a → is_lock u m l ≡ b → found t k (without u m ls) ≡ found t k ls → found t k (cond (not b) (l ∷ without u m ls) (without u m ls)) ≡ is_some (cond a (Some l) (find (is_lock t k) ls))
    by true true f g r = absurd (let h = d l f in cc)
    by true false f g r = rw f refl
    by false true f g r = r
    by false false f g r = rw f r

and_false : (b c : Bool) → c ≡ false → (b && c) ≡ false
and_false true c e = e
and_false false c e = refl

places_apart : (t u : Tier) (k m : ℕ) → (k ≡ m → ⊥) → Apart t k u m
places_apart t u k m n h e =
    let p = and_parts _ _ e in
    let same : k ≡ h.place = eqb-true k h.place p.1 in
    and_false (same_tier u h.tier) (m == h.place) (ne_eqb m h.place (λ f. n (same ∙ sym f)))

tiers_apart : (x : Tier) (b c : Bool) → (same_tier local x && b) ≡ true → (same_tier global x && c) ≡ false
tiers_apart local b c e = refl
tiers_apart global b c e = absurd (cc)

tiers_apart_so : (x : Tier) (b c : Bool) → (same_tier global x && b) ≡ true → (same_tier local x && c) ≡ false
tiers_apart_so global b c e = refl
tiers_apart_so local b c e = absurd (cc)

-- ---- From place to place.

at_is : (s : State) (t : Tier) (k : ℕ) (b : Bool) → holds s t k ≡ b → lock_at s t k ≡ cond b (the t k ∷ []) []
at_is s t k b e = ap (λ (x : Bool). cond x (the t k ∷ []) []) e

at_same : (s r : State) (t : Tier) (k : ℕ) → holds s t k ≡ holds r t k → lock_at s t k ≡ lock_at r t k
at_same s r t k e = ap (λ (x : Bool). cond x (the t k ∷ []) []) e

joins : (a b c x y z : List Lock) → a ≡ x → b ≡ y → c ≡ z → (a ++ (b ++ c)) ≡ (x ++ (y ++ z))
joins a b c x y z e f g = ap (λ ls. ls ++ (b ++ c)) e ∙ ap (λ ls. x ++ (ls ++ c)) f ∙ ap (λ ls. x ++ (y ++ ls)) g

-- locks at places behind one that is released
beyond : (s : State) (l : Lock) (n k : ℕ) → l.place < k → locks_from (without_lock s l) n k ≡ locks_from s n k
beyond s l zero k h = refl
beyond s l (suc n) k h =
    let differ : k ≡ l.place → ⊥ = λ e. omega (arith, h, e) in
    joins _ _ _ _ _ _ (at_same (without_lock s l) s local k (left_found local l.tier k l.place (places_apart local l.tier k l.place differ) s.locks))
    (at_same (without_lock s l) s global k (left_found global l.tier k l.place (places_apart global l.tier k l.place differ) s.locks)) (beyond s l n (k + 1) (omega (arith, h)))

heads : (a b : Lock) (xs ys : List Lock) → a ∷ xs ≡ b ∷ ys → (a ≡ b) × (xs ≡ ys)
heads a b xs ys e = (cc, cc)

-- the first is held, at one of these places
pub record IsFirst (s : State) (n k : ℕ) (l : Lock) : Type 0 where
  pub from : k ≤ l.place
  pub below : l.place < k + n
  pub held : holds s l.tier l.place ≡ true

pub first_held : (s : State) (n k : ℕ) (l : Lock) (ls : List Lock) → locks_from s n k ≡ l ∷ ls → IsFirst s n k l
first_held s zero k l ls e = absurd (cc)
first_held s (suc n) k l ls e = by (holds s local k) (holds s global k) refl refl e (λ f. first_held s n (k + 1) l ls f)
  where
    by : (a b : Bool) → holds s local k ≡ a → holds s global k ≡ b → (cond a (the local k ∷ []) [] ++ (cond b (the global k ∷ []) [] ++ locks_from s n (k + 1))) ≡ l ∷ ls → (locks_from s n (k + 1) ≡ l ∷ ls → IsFirst s n (k + 1) l) → IsFirst s (suc n) k l
    by true b f g h r = subst (λ (x : Lock). IsFirst s (suc n) k x) (heads _ _ _ _ h).0 (record { from = omega arith; below = omega arith; held = f })
    by false true f g h r = subst (λ (x : Lock). IsFirst s (suc n) k x) (heads _ _ _ _ h).0 (record { from = omega arith; below = omega arith; held = g })
    by false false f g h r = let i = r h in let a = i.from in let b = i.below in record { from = omega (arith, a); below = omega (arith, b); held = i.held }

-- those behind the first are those that are held once it is released
pub after_first : (s : State) (n k : ℕ) (l : Lock) (ls : List Lock) → locks_from s n k ≡ l ∷ ls → locks_from (without_lock s l) n k ≡ ls
after_first s zero k l ls e = absurd (cc)
after_first s (suc n) k l ls e = by (holds s local k) (holds s global k) refl refl e (λ f. after_first s n (k + 1) l ls f) (λ f. first_held s n (k + 1) l ls f)
  where
    less : Lock → State
    less x = without_lock s x

    by : (a b : Bool) → holds s local k ≡ a → holds s global k ≡ b → (cond a (the local k ∷ []) [] ++ (cond b (the global k ∷ []) [] ++ locks_from s n (k + 1))) ≡ l ∷ ls → (locks_from s n (k + 1) ≡ l ∷ ls → locks_from (less l) n (k + 1) ≡ ls) → (locks_from s n (k + 1) ≡ l ∷ ls → IsFirst s n (k + 1) l) → locks_from (less l) (suc n) k ≡ ls
    by true b f g h r i =
        let p = heads _ _ _ _ h in
        let x = the local k in
        let own : holds (less x) local k ≡ false = gone local k s.locks in
        let other : holds (less x) global k ≡ b = left_found global local k k (λ m e. tiers_apart_so m.tier (k == m.place) (k == m.place) e) s.locks ∙ g in
        subst (λ (y : Lock). locks_from (less y) (suc n) k ≡ ls) p.0 (joins _ _ _ _ _ _ (at_is (less x) local k false own) (at_is (less x) global k b other) (beyond s x n (k + 1) (omega arith)) ∙ p.1)
    by false true f g h r i =
        let p = heads _ _ _ _ h in
        let x = the global k in
        let own : holds (less x) global k ≡ false = gone global k s.locks in
        let other : holds (less x) local k ≡ false = left_found local global k k (λ m e. tiers_apart m.tier (k == m.place) (k == m.place) e) s.locks ∙ f in
        subst (λ (y : Lock). locks_from (less y) (suc n) k ≡ ls) p.0 (joins _ _ _ _ _ _ (at_is (less x) local k false other) (at_is (less x) global k false own) (beyond s x n (k + 1) (omega arith)) ∙ p.1)
    by false false f g h r i =
        let w = i h in
        let from = w.from in
        let differ : k ≡ l.place → ⊥ = λ e. omega (arith, from, e) in
        joins _ _ _ _ _ _ (at_is (less l) local k false (left_found local l.tier k l.place (places_apart local l.tier k l.place differ) s.locks ∙ f))
        (at_is (less l) global k false (left_found global l.tier k l.place (places_apart global l.tier k l.place differ) s.locks ∙ g)) (r h)

-- ---- The first as the code has it.

named : (t : Tier) → t ≡ tier_of (tier_named (is_local t))
named local = refl
named global = refl

pub first_is : (ls : List Lock) (place : ℕ) (b : Bool) → first_lock ls ≡ Some (place, b) → (rest : List Lock) × (ls ≡ lock_of (tier_named b) place ∷ rest)
first_is [] place b e = absurd (cc)
first_is (l ∷ ls) place b e =
    let p : (l.place, is_local l.tier) ≡ (place, b) = same_Some _ _ e in
    let own : l ≡ lock_of (tier_named (is_local l.tier)) l.place = ap (λ (t : Tier). the t l.place) (named l.tier) in
    (ls, ap (λ x. x ∷ ls) (own ∙ ap (λ (x : ℕ × Bool). lock_of (tier_named x.1) x.0) p))

pub none_is : (ls : List Lock) → first_lock ls ≡ None → ls ≡ []
none_is [] e = refl
none_is (l ∷ ls) e = absurd (cc)

-- ---- Where locks are still to be released.

pub release_granted : (j : Invocation) (s : State) (o : Outcome) (ls : List Lock) → FormedAt j (release j s o ls) → All (λ l. l.place < length j.program.grants) s.locks
release_granted j s o [] f = f.locks_granted
release_granted j s o (l ∷ ls) f = f.locks_granted

pub release_room : (j : Invocation) (s : State) (o : Outcome) (ls : List Lock) → FormedAt j (release j s o ls) → length s.output ≤ j.room
release_room j s o [] f = f.in_room
release_room j s o (l ∷ ls) f = f.in_room
