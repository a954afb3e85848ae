-- How far a buffer of a host call has come, between memory and the second buffer. This project's own.
use Rattle.std.specs.Prelude.{◌≡◌, ℕ, ◌+◌, ◌-◌, ◌≤◌, List, ◌∷◌, Option, Some, None, IsTrue, take, drop}
use Rattle.faaslet_meaning.specs.Memory.{Memory, Piece, mapped, Access, reads, writes, Written, lies_in, over, pieces, shared_pieces, write_on}
use Rattle.host_calls.specs.declared.span.Span.{Span}
use Rattle.host_calls.specs.declared.span.Shared.{Shared}

-- it lies in memory and fits the second buffer, and no more than all of it is through
pub record IsWithin (m : Memory) (b : Span) : Type 0 where
  pub inside : IsTrue (lies_in m b.ptr b.len)
  pub few : b.len ≤ 65536
  pub most : b.done ≤ b.len

-- the pieces of what isn't through
abbrev pub pieces_left : Memory → Span → List Piece
pieces_left m b = pieces m (b.ptr + b.done) (b.len - b.done)

-- A read that has come so far: what is through stands in the second buffer, and is laid over the copy of all bytes.
abbrev pub reading_on : Memory → Span → List ℕ → Access
reading_on m b aside = reads b.ptr b.len (shared_pieces m (b.ptr + b.done) (b.len - b.done)) (over m.bytes b.ptr (take b.done aside))

-- what of the second buffer isn't written yet
abbrev pub bytes_left : Span → List ℕ → List ℕ
bytes_left b aside = take (b.len - b.done) (drop b.done aside)

-- a write that has come so far and stands at a shared piece
abbrev pub writing_on : Memory → Span → List ℕ → Access
writing_on m b aside = writes (pieces_left m b) (bytes_left b aside)

-- a write that has come so far and goes on
abbrev pub written_on : Memory → Span → List ℕ → Written
written_on m b aside = write_on (pieces_left m b) m (bytes_left b aside)

-- it stands at a shared piece
pub record AtShared (m : Memory) (b : Span) (piece : Shared) : Type 0 where
  pub first : Piece
  pub others : List Piece
  pub cut : pieces_left m b ≡ first ∷ others
  pub home : first.home ≡ mapped piece.place
  pub off : first.off ≡ piece.off
  pub size : first.size ≡ piece.len
  pub next : b.next ≡ piece.len

-- it is through, or stands at a shared piece
abbrev pub StopsAt : Memory → Span → Option Shared → Type 0
StopsAt m b None = b.done ≡ b.len
StopsAt m b (Some piece) = AtShared m b piece
