-- A region, which is the replica of a key at a host or the global value of a key: which operations may stand on it, what they
-- leave, and what they are answered. The maker of an operation is a number. This project's own.
use Rattle.std.specs.Prelude.{ℕ, ◌+◌, ◌-◌, ◌*◌, Bool, true, false, not, List, [], ◌∷◌, ◌++◌, Option, Some, None, length, filter, replicate, slice_range, option_to_list, nat_le, ◌==◌, ◌&&◌, if◌then◌else◌}
use Rattle.std.specs.List.{list_any}
use Rattle.faaslet_meaning.specs.declared.grant.Channel.{Channel}
use Rattle.faaslet_meaning.specs.declared.grant.Channel.TheVariants.{Local, Global}
use Rattle.faaslet_meaning.specs.Lists.{is_empty, least}
use Rattle.faaslet_meaning.specs.Memory.{over, page_size, key_pages}
use Rattle.faaslet_meaning.specs.Channels.{RegionOperation, on_region, as_region, Reply, Question, ask, fills, pulls, pushes, Entry, same_channel}

-- The bytes; the size, and how much of it is used; whether it is present; who holds its write lock, and who read locks.
pub record Region : Type 0 where
  pub bytes : List ℕ
  pub size : ℕ
  pub used : ℕ
  pub present : Bool
  pub writer : Option ℕ
  pub readers : List ℕ

-- a replica is absent at first, and has whole pages; its bytes past the size are local only
abbrev pub replica : ℕ → Region
replica size = record { bytes = replicate (key_pages size * page_size) 0; size = size; used = 0; present = false; writer = None; readers = [] }

-- a global value has the initial bytes and then zeros up to its size; its used length is that of the initial bytes
abbrev pub global_value : ℕ → List ℕ → Region
global_value size init = record { bytes = init ++ replicate (size - length init) 0; size = size; used = length init; present = true; writer = None; readers = [] }

-- What an operation does to what others may do. A Fill counts as reading, because it changes nothing that anybody could have
-- read.
pub data Kind : Type 0 where
  reads writes always : Kind

abbrev pub kind : RegionOperation → Kind
kind RegionOperation.probe = reads
kind (RegionOperation.read off len) = reads
kind (RegionOperation.send off len) = reads
kind RegionOperation.size = reads
kind (RegionOperation.fill bytes) = reads
kind (RegionOperation.write off bytes) = writes
kind (RegionOperation.take off bytes) = writes
kind (RegionOperation.put off bytes) = writes
kind (RegionOperation.append bytes) = writes
kind RegionOperation.lock_read = reads
kind RegionOperation.lock_write = writes
kind RegionOperation.unlock = always

-- who holds a lock that this kind of operation cannot stand beside: a read the write lock, a write any lock
abbrev pub holders : Region → Kind → List ℕ
holders s reads = option_to_list s.writer
holders s writes = option_to_list s.writer ++ s.readers
holders s always = []

-- those of them that are other makers
abbrev pub others : Region → ℕ → Kind → List ℕ
others s maker k = filter (λ holder. not (holder == maker)) (holders s k)

-- an operation may stand where no other maker holds such a lock
abbrev pub may : Region → ℕ → RegionOperation → Bool
may s maker op = is_empty (others s maker (kind op))

-- the least maker that blocks operations of a kind, and an operation
abbrev pub blocker : Region → ℕ → Kind → Option ℕ
blocker s maker k = least (others s maker k)

abbrev pub blocked_by : Region → ℕ → RegionOperation → Option ℕ
blocked_by s maker op = blocker s maker (kind op)

-- What a question does to the regions of its channels. Of a move these are both halves, the local one first. They are known
-- before there is a reply, so that both are allowed at once or nothing is done.
abbrev pub halves : Question → List (Channel × Kind)
halves (ask ch (on_region op)) = (ch, kind op) ∷ []
halves (ask ch op) = []
halves (fills key size) = (Local key, reads) ∷ (Global key, reads) ∷ []
halves (pulls key off len) = (Local key, writes) ∷ (Global key, reads) ∷ []
halves (pushes key off len) = (Local key, reads) ∷ (Global key, writes) ∷ []

-- an entry of a question is of one of its halves
abbrev pub same_kind : Kind → Kind → Bool
same_kind reads reads = true
same_kind writes writes = true
same_kind always always = true
same_kind _ _ = false

abbrev pub is_half : Question → Entry → Bool
is_half q e = elim (as_region e.operation) [ None ↦ true | Some op ↦ list_any (λ half. same_channel half.0 e.channel && same_kind half.1 (kind op)) (halves q) ]

abbrev pub with_bytes : Region → ℕ → List ℕ → Region
with_bytes s off bytes = record s { bytes = over s.bytes off bytes }

-- an Append has room
abbrev pub has_room : Region → List ℕ → Bool
has_room s bytes = nat_le (s.used + length bytes) s.size

abbrev pub unless_held_by : ℕ → Option ℕ → Option ℕ
unless_held_by maker None = None
unless_held_by maker (Some holder) = if holder == maker then None else Some holder

-- what an operation leaves; only an Append changes the used length
abbrev pub after : Region → ℕ → RegionOperation → Region
after s maker (RegionOperation.fill bytes) = if s.present then s else record (with_bytes s 0 bytes) { present = true }
after s maker (RegionOperation.write off bytes) = with_bytes s off bytes
after s maker (RegionOperation.take off bytes) = with_bytes s off bytes
after s maker (RegionOperation.put off bytes) = with_bytes s off bytes
after s maker (RegionOperation.append bytes) = if has_room s bytes then record (with_bytes s s.used bytes) { used = s.used + length bytes } else s
after s maker RegionOperation.lock_read = record s { readers = s.readers ++ maker ∷ [] }
after s maker RegionOperation.lock_write = record s { writer = Some maker }
after s maker RegionOperation.unlock = record s { writer = unless_held_by maker s.writer; readers = filter (λ holder. not (holder == maker)) s.readers }
after s maker _ = s

-- what it is answered
abbrev pub reply : Region → ℕ → RegionOperation → Reply
reply s maker RegionOperation.probe = Reply.present s.present
reply s maker (RegionOperation.read off len) = Reply.bytes (slice_range s.bytes off (off + len))
reply s maker (RegionOperation.send off len) = Reply.bytes (slice_range s.bytes off (off + len))
reply s maker RegionOperation.size = Reply.number s.used
reply s maker (RegionOperation.append bytes) = if has_room s bytes then Reply.number s.used else Reply.full
reply s maker _ = Reply.done

-- whether a maker holds a lock
abbrev pub holds : Region → ℕ → Bool
holds s maker = not (is_empty (filter (λ holder. holder == maker) (holders s writes)))
