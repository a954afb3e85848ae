-- Linear memory: segments, and one flat list of bytes over all of them. W3C WebAssembly Core Specification 1.0, sections
-- 4.2.8, Memory Instances, and 4.4.4, Memory Instructions. Segments, the quota and what is asked are this project's own.
-- The places of a mapped segment hold 0 in the list; what it holds is known by replies alone.
use Rattle.std.specs.Prelude.{◌≡◌, ℕ, ◌<◌, ◌≤◌, All, ◌+◌, ◌-◌, ◌*◌, Bool, true, false, not, List, [], ◌∷◌, ◌++◌, Option, Some, None, length, take, drop, replicate, min, nat_lt, nat_le, if◌then◌else◌, ◌&&◌, filter}
use Rattle.std.specs.Int.{div_ceil}
use Rattle.faaslet_meaning.specs.declared.linear.Home.TheVariants as code
use Rattle.faaslet_meaning.specs.declared.linear.Home as linear_home
use Rattle.faaslet_meaning.specs.declared.linear.Piece as linear_piece
use Rattle.faaslet_meaning.specs.Lists.{total}

abbrev pub page_size : ℕ
page_size = 65536

-- the most pages of any memory
abbrev pub page_limit : ℕ
page_limit = 65536

-- where a part of memory lives: with the call, or in the replica at a place of the grants
pub data Home : Type 0 where
  private : Home
  mapped : (place : ℕ) → Home

pub record Segment : Type 0 where
  pub home : Home
  pub pages : ℕ

pub record Memory : Type 0 where
  pub segments : List Segment
  pub bytes : List ℕ
  pub quota : ℕ

abbrev pub is_private : Home → Bool
is_private private = true
is_private (mapped k) = false

abbrev pub pages_of : List Segment → ℕ
pages_of segments = total (λ s. s.pages) segments

abbrev pub private_pages : List Segment → ℕ
private_pages segments = pages_of (filter (λ s. is_private s.home) segments)

abbrev pub size_of : Memory → ℕ
size_of m = pages_of m.segments * page_size

-- n bytes from an address on lie in memory
abbrev pub lies_in : Memory → ℕ → ℕ → Bool
lies_in m at n = nat_le (at + n) (size_of m)

-- a part of a range inside one segment: where it is in the segment and in memory, and how long
pub record Piece : Type 0 where
  pub home : Home
  pub off : ℕ
  pub at : ℕ
  pub size : ℕ

-- n bytes at an address cut at the segments' borders, lowest address first; the first segment begins at `base`
abbrev pub cut : List Segment → ℕ → ℕ → ℕ → List Piece
cut [] base at n = []
cut (s ∷ ss) base at n =
    let next = base + s.pages * page_size in
    let here = min n (next - at) in
    if nat_lt 0 here
    then record { home = s.home; off = at - base; at = at; size = here } ∷ cut ss next (at + here) (n - here)
    else cut ss next at n

abbrev pub pieces : Memory → ℕ → ℕ → List Piece
pieces m at n = cut m.segments 0 at n

-- bytes put over others
abbrev pub over : {A : Type 0} → List A → ℕ → List A → List A
over bytes at new = take at bytes ++ (new ++ drop (at + length new) bytes)

abbrev pub put : Memory → ℕ → List ℕ → Memory
put m at new = record m { bytes = over m.bytes at new }

-- What is left of a range that is read or written: the pieces still to come, the first of them shared. A read puts the
-- replies over a copy of all bytes and reads the copy in the end. A write keeps the bytes not yet written.
pub data Access : Type 0 where
  reads : (at size : ℕ) (left : List Piece) (copy : List ℕ) → Access
  writes : (left : List Piece) (bytes : List ℕ) → Access

abbrev pub shared_pieces : Memory → ℕ → ℕ → List Piece
shared_pieces m at n = filter (λ p. not (is_private p.home)) (pieces m at n)

abbrev pub reading : Memory → ℕ → ℕ → Access
reading m at n = reads at n (shared_pieces m at n) m.bytes

-- memory with the private pieces before the first shared one written, and what is left of the write
pub record Written : Type 0 where
  pub memory : Memory
  pub access : Access

abbrev pub write_on : List Piece → Memory → List ℕ → Written
write_on [] m bytes = record { memory = m; access = writes [] [] }
write_on (p ∷ ps) m bytes =
    elim p.home [ private ↦ write_on ps (put m p.at (take p.size bytes)) (drop p.size bytes) | mapped k ↦ record { memory = m; access = writes (p ∷ ps) bytes } ]

abbrev pub writing : Memory → ℕ → List ℕ → Written
writing m at bytes = write_on (pieces m at (length bytes)) m bytes

-- What the next shared piece is asked for: a place of the grants, where in its replica, and how long or which bytes.
pub data Touch : Type 0 where
  reads_piece : (place off size : ℕ) → Touch
  writes_piece : (place off : ℕ) (bytes : List ℕ) → Touch

abbrev pub touch_of : Access → Option Touch
touch_of (reads at n [] copy) = None
touch_of (reads at n (p ∷ ps) copy) = elim p.home [ private ↦ None | mapped k ↦ Some (reads_piece k p.off p.size) ]
touch_of (writes [] bytes) = None
touch_of (writes (p ∷ ps) bytes) = elim p.home [ private ↦ None | mapped k ↦ Some (writes_piece k p.off (take p.size bytes)) ]

-- the same after the reply: a read lays its bytes over the copy, a write goes on behind its piece
abbrev pub answered : Memory → Access → List ℕ → Written
answered m (reads at n [] copy) bytes = record { memory = m; access = reads at n [] copy }
answered m (reads at n (p ∷ ps) copy) bytes = record { memory = m; access = reads at n ps (over copy p.at bytes) }
answered m (writes [] left) bytes = record { memory = m; access = writes [] left }
answered m (writes (p ∷ ps) left) bytes = write_on ps m (drop p.size left)

-- what a read that is through has read
abbrev pub read_bytes : ℕ → ℕ → List ℕ → List ℕ
read_bytes at n copy = take n (drop at copy)

-- `memory.grow`: n more private pages, in the last segment where that is private, and else in a segment of their own,
-- also where n is 0
abbrev pub with_pages : List Segment → ℕ → List Segment
with_pages [] n = record { home = private; pages = n } ∷ []
with_pages (s ∷ []) n = if is_private s.home then record s { pages = s.pages + n } ∷ [] else s ∷ record { home = private; pages = n } ∷ []
with_pages (s ∷ t ∷ ss) n = s ∷ with_pages (t ∷ ss) n

abbrev pub grown : Memory → ℕ → Memory
grown m n = record m { segments = with_pages m.segments n; bytes = m.bytes ++ replicate (n * page_size) 0 }

abbrev pub may_grow : Memory → ℕ → ℕ → Bool
may_grow m n most = nat_le (pages_of m.segments + n) (min most page_limit) && nat_le (private_pages m.segments + n) m.quota

-- so many pages of the replica at a place of the grants
abbrev pub may_map : Memory → ℕ → Bool
may_map m n = nat_le (pages_of m.segments + n) page_limit

abbrev pub with_map : Memory → ℕ → ℕ → Memory
with_map m place n = record m { segments = m.segments ++ record { home = mapped place; pages = n } ∷ []; bytes = m.bytes ++ replicate (n * page_size) 0 }

-- the pages of a key of this size, rounded up
abbrev pub key_pages : ℕ → ℕ
key_pages size = div_ceil size page_size

-- how many replicas are mapped, and how many may be
abbrev pub mappings : Memory → ℕ
mappings m = length (filter (λ s. not (is_private s.home)) m.segments)

abbrev pub mapping_limit : ℕ
mapping_limit = 16

-- how many grants a function has at most
abbrev pub grant_limit : ℕ
grant_limit = 32

-- the bytes of the private segments, one after the other
abbrev pub private_bytes : List Segment → List ℕ → List ℕ
private_bytes [] bytes = []
private_bytes (s ∷ ss) bytes =
    let n = s.pages * page_size in
    let rest = private_bytes ss (drop n bytes) in
    if is_private s.home then take n bytes ++ rest else rest

-- What is left where no replica is mapped: what is private, in one segment as at first. So in a list that `with_pages`,
-- `with_map` and this one make of one private segment, no two private segments touch, and with as many mappings as may be
-- it has at most 33 segments.
abbrev pub unmapped : Memory → Memory
unmapped m =
    record m {
      segments = record { home = private; pages = private_pages m.segments } ∷ [];
      bytes = private_bytes m.segments m.bytes;
    }

-- ---- What every memory keeps to. That a byte is below 256 is not said: where code has bytes they are.

-- the places of mapped segments hold 0
abbrev pub MappedZero : List Segment → List ℕ → Type 0
MappedZero [] bytes = Unit {0}
MappedZero (s ∷ ss) bytes =
    let n = s.pages * page_size in
    (is_private s.home ≡ false → take n bytes ≡ replicate n 0) × MappedZero ss (drop n bytes)

-- a replica is mapped at a place of the grants
abbrev pub HasPlace : Home → Type 0
HasPlace private = Unit {0}
HasPlace (mapped place) = place < grant_limit

pub record IsMemory (m : Memory) : Type 0 where
  pub long : length m.bytes ≡ size_of m
  pub zero : MappedZero m.segments m.bytes
  pub few : pages_of m.segments ≤ page_limit
  pub within : private_pages m.segments ≤ m.quota
  pub mapped : mappings m ≤ mapping_limit
  pub places : All (λ s. HasPlace s.home) m.segments

-- ---- What lies behind a memory, and no access changes: how many private pages it may have, for how many there is room, and
-- the content that it is set back to.
pub record Content : Type 0 where
  pub pages : ℕ
  pub bytes : List ℕ

pub record Backing : Type 0 where
  pub quota : ℕ
  pub room : ℕ
  pub last : Option Content

-- ---- How the code names ranges and their pieces.

-- no part of the range is shared
abbrev pub IsPrivate : Memory → ℕ → ℕ → Type 0
IsPrivate m at n = shared_pieces m at n ≡ []

-- where a piece lives
abbrev pub IsHome : Piece → linear_home.Home → Type 0
IsHome p code.Private = p.home ≡ private
IsHome p (code.Shared place off) = (p.home ≡ mapped place) × (p.off ≡ off)

-- the first piece of a range
pub record IsFirstPiece (m : Memory) (at n : ℕ) (found : linear_piece.Piece) : Type 0 where
  pub first : Piece
  pub others : List Piece
  pub cut : pieces m at n ≡ first ∷ others
  pub is_long : found.len ≡ first.size
  pub is_home : IsHome first found.home
