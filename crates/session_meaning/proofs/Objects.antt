-- The objects of a world: each region is what its history leaves, has the bytes of its key, and an operation within
-- them leaves it so.
use Rattle.std.proofs.Common.{◌≡◌, ℕ, zero, suc, ◌+◌, ◌-◌, ◌*◌, ◌≤◌, List, [], ◌∷◌, ◌++◌, length, map, replicate, take, drop, refl, sym, subst, ap, ◌∙◌, Bool, true, false, cond, Some, slice_get, arith}
use Rattle.std.proofs.lemmas.Bool.{leb-true}
use Rattle.std.proofs.lemmas.List.{length-append, length-take, length-drop, length-replicate}
use Rattle.std.proofs.lemmas.Grind.{div_ceil_times}
use Rattle.faaslet_meaning.specs.Lists.{changed}
use Rattle.faaslet_meaning.specs.Memory.{over, key_pages, page_size}
use Rattle.faaslet_meaning.specs.Channels.{RegionOperation}
use Rattle.faaslet_meaning.specs.Region as region
use Rattle.faaslet_meaning.specs.Region.{Region, replica, global_value}
use Rattle.faaslet_meaning.specs.History.{left, region_rules}
use Rattle.faaslet_meaning.proofs.Histories.{left_both}
use Rattle.session_meaning.specs.Plan.{Key}
use Rattle.session_meaning.specs.World.{Object, applied, unused}
use Rattle.session_meaning.proofs.LegalEntries.{changed_next}

-- ---- Lists of objects, one for each key.

abbrev pub ObjectsAre : (Key → Object → Type 0) → List Key → List Object → Type 0
ObjectsAre P [] [] = Unit {0}
ObjectsAre P (k ∷ ks) (o ∷ os) = P k o × ObjectsAre P ks os
ObjectsAre P _ _ = ⊥

pub are_changed : (P : Key → Object → Type 0) (ks : List Key) (os : List Object) (n : ℕ) (f : Object → Object) → ObjectsAre P ks os → ((k : Key) (o : Object) → slice_get ks n ≡ Some k → P k o → P k (f o)) → ObjectsAre P ks (changed os n f)
are_changed P [] [] n f h g = h
are_changed P [] (o ∷ os) n f h g = absurd h
are_changed P (k ∷ ks) [] n f h g = absurd h
are_changed P (k ∷ ks) (o ∷ os) zero f h g = (g k o refl h.0, h.1)
are_changed P (k ∷ ks) (o ∷ os) (suc n) f h g = subst (ObjectsAre P (k ∷ ks)) (sym (changed_next o os n f)) (h.0, are_changed P ks os n f h.1 g)

pub are_at : (P : Key → Object → Type 0) (ks : List Key) (os : List Object) (n : ℕ) (k : Key) → ObjectsAre P ks os → slice_get ks n ≡ Some k → (o : Object) × (slice_get os n ≡ Some o) × P k o
are_at P [] os n k h e = let no : ⊥ = cc in absurd no
are_at P (x ∷ ks) [] n k h e = absurd h
are_at P (x ∷ ks) (o ∷ os) zero k h e = let same : x ≡ k = cc in (o, refl, subst (λ y. P y o) same h.0)
are_at P (x ∷ ks) (o ∷ os) (suc n) k h e = are_at P ks os n k h.1 e

pub are_made : (P : Key → Object → Type 0) (f : Key → Object) (ks : List Key) → ((n : ℕ) (k : Key) → slice_get ks n ≡ Some k → P k (f k)) → ObjectsAre P ks (map f ks)
are_made P f [] h = tt
are_made P f (k ∷ ks) h = (h 0 k refl, are_made P f ks (λ n x e. h (suc n) x e))

-- ---- Bytes.

over_long : (bytes : List ℕ) (at : ℕ) (new : List ℕ) → at + length new ≤ length bytes → length (over bytes at new) ≡ length bytes
over_long bytes at new h =
    let a = length-append (take at bytes) (new ++ drop (at + length new) bytes) in
    let b = length-append new (drop (at + length new) bytes) in
    let c = length-take at bytes in
    let d = length-drop (at + length new) bytes in
    omega (arith, a, b, c, d, h)

-- an operation writes within so many bytes
abbrev pub InBytes : ℕ → RegionOperation → Type 0
InBytes n (RegionOperation.fill bytes) = length bytes ≤ n
InBytes n (RegionOperation.write off bytes) = off + length bytes ≤ n
InBytes n (RegionOperation.take off bytes) = off + length bytes ≤ n
InBytes n (RegionOperation.put off bytes) = off + length bytes ≤ n
InBytes n op = Unit {0}

-- so many bytes, of which so many are the key's
abbrev pub Long : ℕ → ℕ → Region → Type 0
Long n size s = (length s.bytes ≡ n) × (s.size ≡ size)

after_long : (n size : ℕ) (s : Region) (maker : ℕ) (op : RegionOperation) → size ≤ n → InBytes n op → Long n size s → Long n size (region.after s maker op)
after_long n size s maker (RegionOperation.fill bytes) few h k = by s.present
  where
    by : (b : Bool) → Long n size (cond b s (record (region.with_bytes s 0 bytes) { present = true }))
    by true = k
    by false = let long = k.0 in (over_long s.bytes 0 bytes (omega (arith, h, long)) ∙ k.0, k.1)
after_long n size s maker (RegionOperation.write off bytes) few h k = let long = k.0 in (over_long s.bytes off bytes (omega (arith, h, long)) ∙ k.0, k.1)
after_long n size s maker (RegionOperation.take off bytes) few h k = let long = k.0 in (over_long s.bytes off bytes (omega (arith, h, long)) ∙ k.0, k.1)
after_long n size s maker (RegionOperation.put off bytes) few h k = let long = k.0 in (over_long s.bytes off bytes (omega (arith, h, long)) ∙ k.0, k.1)
after_long n size s maker (RegionOperation.append bytes) few h k = by (region.has_room s bytes) refl
  where
    by : (b : Bool) → region.has_room s bytes ≡ b → Long n size (cond b (record (region.with_bytes s s.used bytes) { used = s.used + length bytes }) s)
    by true e =
        let room = leb-true (s.used + length bytes) s.size e in
        let long = k.0 in
        let whole = k.1 in
        (over_long s.bytes s.used bytes (omega (arith, room, long, whole, few)) ∙ k.0, k.1)
    by false e = k
after_long n size s maker RegionOperation.lock_read few h k = k
after_long n size s maker RegionOperation.lock_write few h k = k
after_long n size s maker RegionOperation.unlock few h k = k
after_long n size s maker op few h k = k

-- ---- An object that its history leads to.

abbrev pub LedTo : (Key → Region) → (Key → ℕ) → Key → Object → Type 0
LedTo start long k o = (o.region ≡ left region_rules (start k) o.history) × Long (long k) k.size o.region

pub led_further : (start : Key → Region) (long : Key → ℕ) (k : Key) (o : Object) (call : ℕ) (op : RegionOperation) → k.size ≤ long k → InBytes (long k) op → LedTo start long k o → LedTo start long k (applied call op o)
led_further start long k o call op few h led = (
  ap (λ s. region.after s call op) led.0 ∙ sym (left_both region_rules (start k) o.history ((call, op) ∷ [])),
  after_long (long k) k.size o.region call op few h led.1,
)

abbrev pub local_start : Key → Region
local_start k = replica k.size

abbrev pub global_start : Key → Region
global_start k = global_value k.size k.init

abbrev pub local_long : Key → ℕ
local_long k = key_pages k.size * page_size

abbrev pub global_long : Key → ℕ
global_long k = k.size

pub pages_hold : (n : ℕ) → n ≤ key_pages n * page_size
pages_hold n = (div_ceil_times n page_size (omega arith)).0

pub local_led : (k : Key) → LedTo local_start local_long k (unused (replica k.size))
local_led k = (refl, (length-replicate (key_pages k.size * page_size) 0, refl))

pub global_led : (k : Key) → length k.init ≤ k.size → LedTo global_start global_long k (unused (global_value k.size k.init))
global_led k h =
    let a = length-append k.init (replicate (k.size - length k.init) 0) in
    let b = length-replicate {A = ℕ} (k.size - length k.init) 0 in
    (refl, (omega (arith, a, b, h), refl))
