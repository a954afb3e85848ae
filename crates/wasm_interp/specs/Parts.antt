-- What is left of a load or a store that stands at a shared piece, and how far it has come. This project's own.
use Rattle.std.specs.Prelude.{◌≡◌, ℕ, ◌+◌, ◌-◌, ◌*◌, ◌/◌, ◌<◌, ◌≤◌, ◌^◌, List, [], ◌∷◌, Bool, true, false, IsTrue, Option, Some, None, length, drop, take, if◌then◌else◌}
use Rattle.faaslet_meaning.specs.Integers.{signed, unsigned}
use Rattle.faaslet_meaning.specs.LoadStore.{Load, load_of, load_size, store_of, number, bytes_of}
use Rattle.faaslet_meaning.specs.Memory.{Memory, Piece, mapped, pieces, shared_pieces, lies_in, writes, Written, write_on}
use Rattle.wasm_interp.specs.declared.machine.PieceAsk.{PieceAsk}
use Rattle.wasm_interp.specs.declared.machine.Pending.{Pending}

-- the value that a load gives from the number in its bytes
abbrev pub extended : Load → ℕ → ℕ
extended l x = if l.signed then unsigned l.value (signed l.stored x) else x

-- the first piece of a range is shared, and it is the one that is asked
pub record AtPiece (memory : Memory) (at n : ℕ) (writes : Bool) (ask : PieceAsk) : Type 0 where
  pub first : Piece
  pub others : List Piece
  pub cut : pieces memory at n ≡ first ∷ others
  pub home : first.home ≡ mapped ask.place
  pub off : first.off ≡ ask.off
  pub size : first.size ≡ ask.len
  pub write : ask.write ≡ writes

-- a range that is empty, or such a one
abbrev pub StopsAt : Memory → (at n : ℕ) → Bool → Option PieceAsk → Type 0
StopsAt memory at n write None = n ≡ 0
StopsAt memory at n write (Some ask) = AtPiece memory at n write ask

-- Of the copy of a load, so many bytes from an address on are those of a number; those behind are of the memory.
pub record SoFar (bytes copy : List ℕ) (addr done so_far : ℕ) : Type 0 where
  pub value : so_far ≡ number (take done (drop addr copy))
  pub ahead : drop (addr + done) copy ≡ drop (addr + done) bytes
  pub long : length copy ≡ length bytes

-- where a range lies, and how much of it is through
pub record Within (memory : Memory) (addr size done : ℕ) : Type 0 where
  pub inside : IsTrue (lies_in memory addr size)
  pub few : size ≤ 8
  pub most : done ≤ size
  pub near : addr < 2 ^ 33

-- A load goes on over private bytes: where it has read so far before, it has read this now, and nothing shared was passed.
pub record ReadOn (memory : Memory) (addr size from so_far done now_far : ℕ) : Type 0 where
  pub on : from ≤ done
  pub most : done ≤ size
  pub small : now_far < 2 ^ (8 * done)
  pub value : now_far ≡ so_far + 2 ^ (8 * from) * number (take (done - from) (drop (addr + from) memory.bytes))
  pub left : shared_pieces memory (addr + done) (size - done) ≡ shared_pieces memory (addr + from) (size - from)

-- what is left to write of a value of so many bytes
abbrev pub left_to_write : ℕ → ℕ → ℕ → List ℕ
left_to_write size done value = bytes_of (size - done) (value / 2 ^ (8 * done))

-- a write that has come so far: it is through, or it stands at what is left
abbrev pub WrittenTo : Memory → (addr size value done : ℕ) → Option PieceAsk → Written
WrittenTo memory addr size value done None = record { memory = memory; access = writes [] [] }
WrittenTo memory addr size value done (Some ask) = record { memory = memory; access = writes (pieces memory (addr + done) (size - done)) (left_to_write size done value) }

-- A store goes on over private bytes: what the definition writes before the next shared piece is written.
pub record WrittenOn (old new : Memory) (addr size from value done : ℕ) (ask : Option PieceAsk) : Type 0 where
  pub on : from ≤ done
  pub most : done ≤ size
  pub segments : new.segments ≡ old.segments
  pub is : write_on (pieces old (addr + from) (size - from)) old (left_to_write size from value) ≡ WrittenTo new addr size value done ask

-- a load that stands at a shared piece: what is left of it, and the copy that its value is read from
pub record ReadStands (memory : Memory) (q : Pending) (l : Load) (at n : ℕ) (left : List Piece) (copy : List ℕ) : Type 0 where
  pub row : load_of q.op ≡ Some l
  pub address : at ≡ q.addr
  pub length_is : n ≡ q.size
  pub bytes_are : q.size ≡ load_size l
  pub range : Within memory q.addr q.size q.done
  pub long : q.addr + q.size ≤ length memory.bytes
  pub left_is : left ≡ shared_pieces memory (q.addr + q.done) (q.size - q.done)
  pub so_far : SoFar memory.bytes copy q.addr q.done q.value
  pub small : q.value < 2 ^ (8 * q.done)
  pub piece : AtPiece memory (q.addr + q.done) (q.size - q.done) false q.ask

-- a store that stands at a shared piece: what is left of it, and the bytes to write there
pub record WriteStands (memory : Memory) (q : Pending) (left : List Piece) (bytes : List ℕ) : Type 0 where
  pub row : store_of q.op ≡ Some q.size
  pub range : Within memory q.addr q.size q.done
  pub left_is : left ≡ pieces memory (q.addr + q.done) (q.size - q.done)
  pub bytes_are : bytes ≡ left_to_write q.size q.done q.value
  pub piece : AtPiece memory (q.addr + q.done) (q.size - q.done) true q.ask
