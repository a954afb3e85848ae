-- An operation that nobody blocks makes an entry, and so do both operations of a move.
use Rattle.std.proofs.Common.{◌≡◌, ℕ, ◌+◌, ◌-◌, ◌≤◌, List, [], ◌∷◌, true, Option, Some, None, min, length, drop, slice_range, refl, sym, ap, arith}
use Rattle.std.proofs.lemmas.List.{length-take}
use Rattle.faaslet_meaning.specs.declared.ask.Move.{Move}
use Rattle.faaslet_meaning.specs.declared.ask.Move.TheVariants as move
use Rattle.faaslet_meaning.specs.declared.ask.RegionOp.{RegionOp}
use Rattle.faaslet_meaning.specs.declared.ask.RegionOp.TheVariants as op
use Rattle.faaslet_meaning.specs.Channels.{RegionOperation}
use Rattle.faaslet_meaning.specs.Lists.{least, is_empty}
use Rattle.faaslet_meaning.specs.Region.{Region, after, blocked_by, others, kind}
use Rattle.faaslet_meaning.specs.Spelling.{spelled}
use Rattle.shared_region.specs.Shared.{Shared}
use Rattle.shared_region.specs.Entries.{MakesShared, InBytes, OwnLocks}
use Rattle.shared_region.specs.Operations.{operation_of, Fits}
use Rattle.shared_region.specs.Moves.{local_part, global_part, moved, first_blocker, move_blocker, MoveFits}

-- one more number has a least one
abbrev with_one : ℕ → Option ℕ → Option ℕ
with_one x None = Some x
with_one x (Some y) = Some (min x y)

some_least : (x : ℕ) (o : Option ℕ) → with_one x o ≡ None → ⊥
some_least x None e = cc
some_least x (Some y) e = cc

nobody : (xs : List ℕ) → least xs ≡ None → is_empty xs ≡ true
nobody [] e = refl
nobody (x ∷ xs) e = absurd (some_least x (least xs) e)

pub entered : (maker : ℕ) (o : RegionOperation) (s t : Shared) → blocked_by s.region maker o ≡ None → InBytes (length s.region.bytes) o → OwnLocks s.region maker o → t ≡ record s { region = after s.region maker o } → MakesShared maker (spelled o) s t
entered maker o s t free inside own e = record {
  region = record { operation = o; spelled_so = refl; may_stand = nobody (others s.region maker (kind o)) free; after_so = ap (λ (u : Shared). u.region) e };
  in_bytes = inside;
  own_locks = own;
  room = ap (λ (u : Shared). u.room) e;
}

-- what `apply` asks for has the range in the bytes
pub inside : (s : Shared) (o : RegionOp) (scratch : ℕ) → Fits s o scratch → InBytes (length s.region.bytes) (operation_of o)
inside s op.Probe scratch h = tt
inside s (op.Read off len) scratch h = h.0
inside s (op.Write off bytes) scratch h = h
inside s (op.Append bytes) scratch h = tt
inside s op.Size scratch h = tt
inside s op.LockRead scratch h = tt
inside s op.LockWrite scratch h = tt
inside s op.Unlock scratch h = tt

-- ---- a move

-- nobody blocks either operation
neither : (a b : Option ℕ) → first_blocker a b ≡ None → (a ≡ None) × (b ≡ None)
neither (Some x) b e = cc
neither None (Some x) e = cc
neither None None e = (refl, refl)

pub record Parts (l g : Shared) (maker : ℕ) (k : Move) : Type 0 where
  pub one_size : l.region.size ≡ g.region.size
  pub local_whole : l.region.size ≤ length l.region.bytes
  pub global_whole : g.region.size ≤ length g.region.bytes
  pub fits : MoveFits k l.region.size
  pub free : None ≡ move_blocker l.region g.region maker k

range_long : (xs : List ℕ) (off len : ℕ) → length (slice_range xs off (off + len)) ≤ len
range_long xs off len = omega (arith, length-take (off + len - off) (drop off xs))

local_in : (l g : Region) (k : Move) → l.size ≡ g.size → l.size ≤ length l.bytes → MoveFits k l.size → InBytes (length l.bytes) (local_part k (moved l g k))
local_in l g move.Fill e h f = omega (arith, range_long g.bytes 0 g.size)
local_in l g (move.Pull off len) e h f = omega (arith, range_long g.bytes off len)
local_in l g (move.Push off len) e h f = omega arith

global_in : (l g : Region) (k : Move) → l.size ≡ g.size → g.size ≤ length g.bytes → MoveFits k l.size → InBytes (length g.bytes) (global_part k g.size (moved l g k))
global_in l g move.Fill e h f = omega arith
global_in l g (move.Pull off len) e h f = omega arith
global_in l g (move.Push off len) e h f = omega (arith, range_long l.bytes off len)

local_own : (l : Region) (maker : ℕ) (k : Move) (bytes : List ℕ) → OwnLocks l maker (local_part k bytes)
local_own l maker move.Fill bytes = tt
local_own l maker (move.Pull off len) bytes = tt
local_own l maker (move.Push off len) bytes = tt

global_own : (g : Region) (maker : ℕ) (k : Move) (bytes : List ℕ) → OwnLocks g maker (global_part k g.size bytes)
global_own g maker move.Fill bytes = tt
global_own g maker (move.Pull off len) bytes = tt
global_own g maker (move.Push off len) bytes = tt

pub local_entered : (l g t : Shared) (maker : ℕ) (k : Move) → Parts l g maker k → t ≡ record l { region = after l.region maker (local_part k (moved l.region g.region k)) } → MakesShared maker (spelled (local_part k (moved l.region g.region k))) l t
local_entered l g t maker k p e =
    let bytes = moved l.region g.region k in
    let free = neither (blocked_by l.region maker (local_part k bytes)) (blocked_by g.region maker (global_part k g.region.size bytes)) (sym p.free) in
    entered maker (local_part k bytes) l t free.0 (local_in l.region g.region k p.one_size p.local_whole p.fits) (local_own l.region maker k bytes) e

pub global_entered : (l g t : Shared) (maker : ℕ) (k : Move) → Parts l g maker k → t ≡ record g { region = after g.region maker (global_part k g.region.size (moved l.region g.region k)) } → MakesShared maker (spelled (global_part k g.region.size (moved l.region g.region k))) g t
global_entered l g t maker k p e =
    let bytes = moved l.region g.region k in
    let free = neither (blocked_by l.region maker (local_part k bytes)) (blocked_by g.region maker (global_part k g.region.size bytes)) (sym p.free) in
    entered maker (global_part k g.region.size bytes) g t free.1 (global_in l.region g.region k p.one_size p.global_whole p.fits) (global_own g.region maker k bytes) e
