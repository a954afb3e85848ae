-- What a call may ask: of what it was granted alone and within its size. What the checks of a host call leave.
use Rattle.std.proofs.Common.{◌≡◌, ℕ, zero, suc, ◌+◌, ◌*◌, ◌<◌, ◌≤◌, Bool, true, false, cond, List, [], ◌∷◌, ◌++◌, Option, Some, None, refl, sym, ap, length, slice_get, slice_set, option_map, unwrap_or, arith, is_some, take}
use Rattle.std.proofs.lemmas.Bool.{leb-true}
use Rattle.std.proofs.lemmas.List.{length-take}
use Rattle.std.proofs.lemmas.Grind.{div_ceil_times}
use Rattle.faaslet_meaning.specs.declared.grant.Channel.TheVariants.{Local, Global, Table as OnTable}
use Rattle.faaslet_meaning.specs.declared.grant.Grant.{Grant}
use Rattle.faaslet_meaning.specs.Memory.{key_pages, page_size}
use Rattle.faaslet_meaning.specs.Channels.{RegionOperation, Operation, on_region, Reply, Question, ask, fills, pulls, pushes}
use Rattle.faaslet_meaning.specs.CallState.{Invocation, Tier, local, global, State, grant_at}
use Rattle.faaslet_meaning.specs.Checks.{Check, is_key, in_key, first_trap, passes, trap_of, size_at, fits_in, key_size}
use Rattle.faaslet_meaning.specs.Serve.{key_at, channel}
use Rattle.session_meaning.proofs.Granted.{Given, Holds}

abbrev pub given : Invocation → ℕ → Given
given j fuel = record { grants = j.program.grants; fuel = fuel }

-- ---- What a call may ask.

-- a grant on this key has a property
abbrev pub HasGrant : Invocation → ℕ → (Grant → Type 0) → Type 0
HasGrant j key P = (k : ℕ) × (g : Grant) × (slice_get j.program.grants k ≡ Some g) × (g.key ≡ key) × P g

abbrev pub Any : Grant → Type 0
Any g = Unit {0}

abbrev pub InPages : ℕ → Grant → Type 0
InPages n g = n ≤ key_pages g.size * page_size

abbrev pub InSize : ℕ → Grant → Type 0
InSize n g = n ≤ g.size

abbrev pub AsksLocal : Invocation → ℕ → RegionOperation → Type 0
AsksLocal j key RegionOperation.probe = HasGrant j key Any
AsksLocal j key (RegionOperation.read off len) = HasGrant j key (InPages (off + len))
AsksLocal j key (RegionOperation.write off bs) = HasGrant j key (InPages (off + length bs))
AsksLocal j key RegionOperation.lock_read = HasGrant j key Any
AsksLocal j key RegionOperation.lock_write = HasGrant j key Any
AsksLocal j key RegionOperation.unlock = HasGrant j key Any
AsksLocal j key _ = ⊥

abbrev pub AsksGlobal : Invocation → ℕ → RegionOperation → Type 0
AsksGlobal j key RegionOperation.size = HasGrant j key Any
AsksGlobal j key (RegionOperation.append bs) = HasGrant j key Any
AsksGlobal j key RegionOperation.lock_read = HasGrant j key Any
AsksGlobal j key RegionOperation.lock_write = HasGrant j key Any
AsksGlobal j key RegionOperation.unlock = HasGrant j key Any
AsksGlobal j key _ = ⊥

abbrev pub AsksTable : Invocation → Operation → Type 0
AsksTable j (Operation.submit f input) = (k : ℕ) × (slice_get j.callees k ≡ Some f)
AsksTable j (Operation.look c) = Unit {0}
AsksTable j _ = ⊥

abbrev pub Asked : Invocation → Question → Type 0
Asked j (ask (Local key) (on_region op)) = AsksLocal j key op
Asked j (ask (Global key) (on_region op)) = AsksGlobal j key op
Asked j (ask OnTable op) = AsksTable j op
Asked j (ask ch op) = ⊥
Asked j (fills key n) = HasGrant j key (λ g. n ≡ g.size)
Asked j (pulls key off len) = HasGrant j key (InSize (off + len))
Asked j (pushes key off len) = HasGrant j key (InSize (off + len))

-- the children that a call has been told of, with the lengths of the outputs that it has seen
abbrev pub kids_after : List (Option ℕ) → Question → Reply → List (Option ℕ)
kids_after kids q (Reply.child n) = kids ++ None ∷ []
kids_after kids (ask OnTable (Operation.look c)) (Reply.finished o bs) = slice_set kids c (Some (length bs))
kids_after kids q r = kids

-- a place of the grants
abbrev pub PlaceOf : Invocation → ℕ → Type 0
PlaceOf j k = (x : Grant) × (slice_get j.program.grants k ≡ Some x)

-- so many bytes from off on lie within the size of the key at this place
abbrev pub Within : Invocation → ℕ → ℕ → ℕ → Type 0
Within j k off len = (x : Grant) × (slice_get j.program.grants k ≡ Some x) × (off + len ≤ x.size)

-- ---- Channels of places.

pub key_of : (j : Invocation) (k : ℕ) (x : Grant) → slice_get j.program.grants k ≡ Some x → x.key ≡ key_at j k
key_of j k x e = sym (ap (λ o. unwrap_or (option_map (λ g. g.key) o) 0) e)

pub has_grant : (j : Invocation) (k : ℕ) → PlaceOf j k → HasGrant j (key_at j k) Any
has_grant j k p = (k, p.0, p.1, key_of j k p.0 p.1, tt)

pub size_of : (j : Invocation) (k : ℕ) (x : Grant) → slice_get j.program.grants k ≡ Some x → key_size j k ≡ x.size
size_of j k x e = ap (λ o. unwrap_or (elim o as (λ o. Option ℕ) [ None ↦ None | Some g ↦ Some g.size ]) 0) e

pub in_size : (j : Invocation) (k off len : ℕ) → Within j k off len → HasGrant j (key_at j k) (InSize (off + len))
in_size j k off len w = (k, w.0, w.1, key_of j k w.0 w.1, w.2)

pages_hold : (n : ℕ) → n ≤ key_pages n * page_size
pages_hold n = (div_ceil_times n page_size (omega arith)).0

pub in_pages : (j : Invocation) (k off len : ℕ) → Within j k off len → HasGrant j (key_at j k) (InPages (off + len))
in_pages j k off len w = let l = w.2 in let h = pages_hold w.0.size in (k, w.0, w.1, key_of j k w.0 w.1, omega (arith, l, h))

pub held_pages : (j : Invocation) (k n : ℕ) → Holds (given j 0) k n → HasGrant j (key_at j k) (InPages n)
held_pages j k n h = (k, h.0, h.1, key_of j k h.0 h.1, h.2)

pub lock_asked : (j : Invocation) (t : Tier) (k : ℕ) → PlaceOf j k → Asked j (ask (channel j t k) (on_region RegionOperation.lock_read)) × Asked j (ask (channel j t k) (on_region RegionOperation.lock_write)) × Asked j (ask (channel j t k) (on_region RegionOperation.unlock))
lock_asked j local k p = (has_grant j k p, has_grant j k p, has_grant j k p)
lock_asked j global k p = (has_grant j k p, has_grant j k p, has_grant j k p)

pub less_long : (n size : ℕ) (bs : List ℕ) → length (take size bs) ≤ size
less_long n size bs = let e = length-take size bs in omega (arith, e)

-- ---- What checks leave.

pub first_passes : (j : Invocation) (s : State) (c : Check) (cs : List Check) → first_trap j s (c ∷ cs) ≡ None → (passes j s c ≡ true) × (first_trap j s cs ≡ None)
first_passes j s c cs e = by (passes j s c) e
  where
    by : (b : Bool) → cond b (first_trap j s cs) (Some (trap_of c)) ≡ None → (b ≡ true) × (first_trap j s cs ≡ None)
    by true e = (refl, e)
    by false e = let no : ⊥ = cc in absurd no

pub place_some : (j : Invocation) (k : ℕ) → is_some (grant_at j k) ≡ true → PlaceOf j k
place_some j k h = by (grant_at j k) refl h
  where
    by : (o : Option Grant) → grant_at j k ≡ o → is_some o ≡ true → PlaceOf j k
    by None e h = let no : ⊥ = cc in absurd no
    by (Some x) e h = (x, e)

pub within : (j : Invocation) (k off len : ℕ) → fits_in off len (size_at j k) ≡ true → Within j k off len
within j k off len h = by (grant_at j k) refl h
  where
    by : (o : Option Grant) → grant_at j k ≡ o → fits_in off len (elim o as (λ o. Option ℕ) [ None ↦ None | Some g ↦ Some g.size ]) ≡ true → Within j k off len
    by None e h = let no : ⊥ = cc in absurd no
    by (Some x) e h = (x, e, leb-true (off + len) x.size h)

pub whole : (j : Invocation) (k : ℕ) → PlaceOf j k → Within j k 0 (key_size j k)
whole j k p = let e = size_of j k p.0 p.1 in (p.0, p.1, omega (arith, e))

pub get_below : {A : Type 0} (xs : List A) (n : ℕ) → n < length xs → (x : A) × (slice_get xs n ≡ Some x)
get_below [] n h = let no : ⊥ = omega (arith, h) in absurd no
get_below (x ∷ xs) zero h = (x, refl)
get_below (x ∷ xs) (suc n) h = get_below xs n (omega (arith, h))

pub first_key : (j : Invocation) (s : State) (k : ℕ) (cs : List Check) → first_trap j s (is_key k ∷ cs) ≡ None → PlaceOf j k
first_key j s k cs e = place_some j k (first_passes j s (is_key k) cs e).0

pub third_within : (j : Invocation) (s : State) (k off len : ℕ) (c : Check) (cs : List Check) → first_trap j s (is_key k ∷ c ∷ in_key k off len ∷ cs) ≡ None → Within j k off len
third_within j s k off len c cs e =
    let second = (first_passes j s (is_key k) (c ∷ in_key k off len ∷ cs) e).1 in
    let third = (first_passes j s c (in_key k off len ∷ cs) second).1 in
    within j k off len (first_passes j s (in_key k off len) cs third).0
