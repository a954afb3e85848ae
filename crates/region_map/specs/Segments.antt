-- Segments as the code keeps them: a first private segment, and mapped segments, each with the private one behind it.
-- This project's own.
use Rattle.std.specs.Prelude.{◌≡◌, ℕ, ◌+◌, ◌-◌, ◌*◌, ◌<◌, ◌≤◌, List, [], ◌∷◌, ◌++◌, Option, Some, None, All, length, take, drop, replicate, nat_lt, if◌then◌else◌, filter, not}
use Rattle.faaslet_meaning.specs.Memory.{Backing, Content, Home, private, mapped, Segment, Memory, is_private, page_size, page_limit, grant_limit, mapping_limit, pages_of, private_pages, cut, over}
use Rattle.region_map.specs.declared.segments.Mapping.{Mapping}
use Rattle.region_map.specs.declared.segments.Spot.{Spot}
use Rattle.region_map.specs.declared.segments.Spot.TheVariants.{Private, Shared}
use Rattle.private_pages.specs.Pages.{Pages, ArePages, last_content}

abbrev pub private_behind : Option ℕ → List Segment
private_behind None = []
private_behind (Some n) = record { home = private; pages = n } ∷ []

abbrev pub segments_of : List Mapping → List Segment
segments_of [] = []
segments_of (m ∷ ms) = record { home = mapped m.place; pages = m.pages } ∷ (private_behind m.behind ++ segments_of ms)

-- all segments
abbrev pub all_segments : ℕ → List Mapping → List Segment
all_segments first ms = record { home = private; pages = first } ∷ segments_of ms

-- the bytes of all segments, from those of the private ones one after the other
abbrev pub spread : List Segment → List ℕ → List ℕ
spread [] bytes = []
spread (s ∷ ss) bytes =
    let n = s.pages * page_size in
    if is_private s.home then take n bytes ++ spread ss (drop n bytes) else replicate n 0 ++ spread ss bytes

-- what a memory is that has these segments and these private bytes
abbrev pub memory_of : List Segment → List ℕ → ℕ → Memory
memory_of segments bytes quota = record { segments = segments; bytes = spread segments bytes; quota = quota }

-- Where an address is: among the private bytes, of which there are `before` before these segments, or in a replica; and
-- how many bytes are left there to the end of the segment. The address counts from the first of these segments on.
abbrev spot_in : Home → ℕ → ℕ → ℕ → Spot
spot_in private before at left = Private (before + at) left
spot_in (mapped place) before at left = Shared place at left

abbrev pub spot_of : List Segment → ℕ → ℕ → Option Spot
spot_of [] before at = None
spot_of (s ∷ ss) before at =
    let n = s.pages * page_size in
    if nat_lt at n
    then Some (spot_in s.home before at (n - at))
    else spot_of ss (if is_private s.home then before + n else before) (at - n)

-- a mapping has a place among the grants and at least a page
pub record IsMapping (m : Mapping) : Type 0 where
  pub place : m.place < grant_limit
  pub some : 1 ≤ m.pages

-- how segments, their number of pages and the private pages fit together
pub record AreSegments (first pages : ℕ) (ms : List Mapping) (p : Pages) : Type 0 where
  pub count : pages ≡ pages_of (all_segments first ms)
  pub few : pages ≤ page_limit
  pub privates : p.content.pages ≡ private_pages (all_segments first ms)
  pub mapped : length ms ≤ mapping_limit
  pub each : All IsMapping ms
  pub are : ArePages p

-- a memory, the image that it is set back to, for how many private pages there is room, how many of them were written
-- since, and the work of the pool that they are on
pub record Segmented : Type 0 where
  pub memory : Memory
  pub room : ℕ
  pub last : Option Content
  pub dirty : ℕ
  pub work : ℕ

abbrev pub backing_of : Segmented → Backing
backing_of m = record { quota = m.memory.quota; room = m.room; last = m.last }

-- the memory with these private pages alone
abbrev pub one_segment : Pages → Segmented
one_segment p = record {
  memory = record { segments = record { home = private; pages = p.content.pages } ∷ []; bytes = p.content.bytes; quota = p.quota };
  room = p.room;
  last = p.last;
  dirty = p.dirty;
  work = p.work;
}

-- Where a range is among the private bytes, that is all there, not empty, and all private: what it is for, said of any
-- private bytes of these segments.
pub record IsPlace (ss : List Segment) (at n place : ℕ) : Type 0 where
  pub inside : at + n ≤ pages_of ss * page_size
  pub alone : filter (λ p. not (is_private p.home)) (cut ss 0 at n) ≡ []
  pub fits : (b : List ℕ) → length b ≡ private_pages ss * page_size → place + n ≤ length b
  pub reads : (b : List ℕ) → length b ≡ private_pages ss * page_size → take n (drop at (spread ss b)) ≡ take n (drop place b)
  pub writes : (b new : List ℕ) → length b ≡ private_pages ss * page_size → length new ≡ n → over (spread ss b) at new ≡ spread ss (over b place new)

-- the range is not all there, or not all private
pub record IsElsewhere (ss : List Segment) (at n : ℕ) : Type 0 where
  pub never : at + n ≤ pages_of ss * page_size → filter (λ p. not (is_private p.home)) (cut ss 0 at n) ≡ [] → ⊥

-- one private segment with this content, and a quota
abbrev pub content_memory : Content → ℕ → Memory
content_memory c quota = record { segments = record { home = private; pages = c.pages } ∷ []; bytes = c.bytes; quota = quota }

-- The memory has the content of an image, which from then on is the last. No page is written, and the pool was called at
-- most once for each that was: for none that the image has.
pub record IsRestoredTo (m : Segmented) (c : Content) (quota : ℕ) (n : Segmented) : Type 0 where
  pub memory : n.memory ≡ content_memory c quota
  pub room : n.room ≡ m.room
  pub last : n.last ≡ Some c
  pub dirty : n.dirty ≡ 0
  pub work : n.work ≤ m.work + m.dirty

-- the same with the image that was restored last, and the quota as it is
pub record IsSetBack (m n : Segmented) : Type 0 where
  pub memory : n.memory ≡ content_memory (last_content m.last) m.memory.quota
  pub room : n.room ≡ m.room
  pub last : n.last ≡ m.last
  pub dirty : n.dirty ≡ 0
  pub work : n.work ≤ m.work + m.dirty
