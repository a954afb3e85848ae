-- What the definition makes of a buffer that stands at a shared piece, or is through.
use Rattle.std.proofs.Common.{◌≡◌, ℕ, ◌+◌, ◌-◌, ◌≤◌, List, [], ◌∷◌, ◌++◌, Option, Some, None, length, take, drop, ap, arith, ◌∙◌, sym}
use Rattle.std.proofs.lemmas.List.{length-take-le, take-take, take-append-drop}
use Rattle.faaslet_meaning.specs.Memory.{private, mapped, Home, Piece, Memory, IsMemory, shared_pieces, pieces, reads, writes, Access, Touch, reads_piece, writes_piece, touch_of, over, write_on, writing}
use Rattle.faaslet_meaning.specs.Channels.{RegionOperation, on_region, ask}
use Rattle.faaslet_meaning.specs.CallState.{Invocation, local, Act, passing}
use Rattle.faaslet_meaning.specs.Serve.{Served, channel, touch_question, Carried, stands, kept, with_memory, passed}
use Rattle.wasm_interp.proofs.PieceLists.{shared, cut_none, inside_is, write_mapped}
use Rattle.wasm_interp.proofs.PieceSteps.{write_end}
use Rattle.host_calls.specs.declared.span.Span.{Span}
use Rattle.host_calls.specs.declared.span.Shared.{Shared}
use Rattle.host_calls.specs.Buffers.{IsWithin, AtShared, reading_on, bytes_left, writing_on, written_on}
use Rattle.host_calls.proofs.Lists.{over_read}
use Rattle.host_calls.proofs.Buffers.{shared_left, next_few}

-- ---- it stands at a shared piece

touched_piece : (p : Piece) (place off size : ℕ) → p.home ≡ mapped place → p.off ≡ off → p.size ≡ size → (elim p.home as (λ _. Option Touch) [ private ↦ None | mapped k ↦ Some (reads_piece k p.off p.size) ]) ≡ Some (reads_piece place off size)
touched_piece p place off size h o n =
    ap (λ (x : Home). elim x as (λ _. Option Touch) [ private ↦ None | mapped k ↦ Some (reads_piece k p.off p.size) ]) h
    ∙ ap (λ k. Some (reads_piece place k p.size)) o ∙ ap (λ k. Some (reads_piece place off k)) n

written_piece : (p : Piece) (place off : ℕ) (bs : List ℕ) → p.home ≡ mapped place → p.off ≡ off → (elim p.home as (λ _. Option Touch) [ private ↦ None | mapped k ↦ Some (writes_piece k p.off bs) ]) ≡ Some (writes_piece place off bs)
written_piece p place off bs h o =
    ap (λ (x : Home). elim x as (λ _. Option Touch) [ private ↦ None | mapped k ↦ Some (writes_piece k p.off bs) ]) h ∙ ap (λ k. Some (writes_piece place k bs)) o

pub reading_touch : (m : Memory) (b : Span) (aside : List ℕ) (piece : Shared) → AtShared m b piece → touch_of (reading_on m b aside) ≡ Some (reads_piece piece.place piece.off piece.len)
reading_touch m b aside piece f =
    ap (λ ps. touch_of (reads b.ptr b.len ps (over m.bytes b.ptr (take b.done aside)))) (shared_left m b piece f) ∙ touched_piece f.first piece.place piece.off piece.len f.home f.off f.size

pub writing_touch : (m : Memory) (b : Span) (aside : List ℕ) (piece : Shared) → AtShared m b piece → touch_of (writing_on m b aside) ≡ Some (writes_piece piece.place piece.off (take piece.len (drop b.done aside)))
writing_touch m b aside piece f =
    let few = next_few m b piece f in
    let t : take f.first.size (bytes_left b aside) ≡ take piece.len (drop b.done aside) =
    ap (λ n. take n (bytes_left b aside)) f.size ∙ take-take piece.len (b.len - b.done) (drop b.done aside) (omega (arith, f.next)) in
    ap (λ ps. touch_of (writes ps (bytes_left b aside))) f.cut ∙ written_piece f.first piece.place piece.off (take f.first.size (bytes_left b aside)) f.home f.off
    ∙ ap (λ bs. Some (writes_piece piece.place piece.off bs)) t

passed_stands : (j : Invocation) (acts : List Act) (go : Carried → Served) (x : Carried) (m : Memory) (a : Access) (t : Touch) → touch_of a ≡ Some t → passed j acts go x (record { memory = m; access = a }) ≡ stands (passing a ∷ acts) (with_memory x m) (touch_question j t)
passed_stands j acts go x m a t e =
    ap (λ (o : Option Touch). elim o as (λ _. Served) [ None ↦ go (record (with_memory x m) { held = kept x.held a }) | Some t ↦ stands (passing a ∷ acts) (with_memory x m) (touch_question j t) ]) e

pub reading_stands : (j : Invocation) (acts : List Act) (go : Carried → Served) (x : Carried) (m : Memory) (b : Span) (aside : List ℕ) (piece : Shared) → AtShared m b piece → passed j acts go x (record { memory = m; access = reading_on m b aside }) ≡ stands (passing (reading_on m b aside) ∷ acts) (with_memory x m) (ask (channel j local piece.place) (on_region (RegionOperation.read piece.off piece.len)))
reading_stands j acts go x m b aside piece f = passed_stands j acts go x m (reading_on m b aside) (reads_piece piece.place piece.off piece.len) (reading_touch m b aside piece f)

written_is : (m : Memory) (b : Span) (aside : List ℕ) (piece : Shared) → AtShared m b piece → written_on m b aside ≡ record { memory = m; access = writing_on m b aside }
written_is m b aside piece f =
    let left = bytes_left b aside in
    ap (λ ps. write_on ps m left) f.cut ∙ write_mapped f.first f.others m left piece.place f.home ∙ ap (λ (ps : List Piece). record { memory = m; access = writes ps left }) (sym f.cut)

pub writing_stands : (j : Invocation) (acts : List Act) (go : Carried → Served) (x : Carried) (m : Memory) (b : Span) (aside : List ℕ) (piece : Shared) → AtShared m b piece → passed j acts go x (written_on m b aside) ≡ stands (passing (writing_on m b aside) ∷ acts) (with_memory x m) (ask (channel j local piece.place) (on_region (RegionOperation.write piece.off (take piece.len (drop b.done aside)))))
writing_stands j acts go x m b aside piece f =
    ap (passed j acts go x) (written_is m b aside piece f)
    ∙ passed_stands j acts go x m (writing_on m b aside) (writes_piece piece.place piece.off (take piece.len (drop b.done aside))) (writing_touch m b aside piece f)

-- ---- it is through

pub reading_through : (j : Invocation) (acts : List Act) (go : Carried → Served) (x : Carried) (m : Memory) (b : Span) (aside : List ℕ) → IsWithin m b → IsMemory m → length aside ≡ 65536 → b.done ≡ b.len → passed j acts go x (record { memory = m; access = reading_on m b aside }) ≡ go (record (with_memory x m) { held = take b.len aside })
reading_through j acts go x m b aside w sound long e =
    let copy = over m.bytes b.ptr (take b.done aside) in
    let i = inside_is m b.ptr b.len w.inside in
    let z : b.len - b.done ≡ 0 = omega arith in
    let none : shared_pieces m (b.ptr + b.done) (b.len - b.done) ≡ [] = ap (shared_pieces m (b.ptr + b.done)) z ∙ ap shared (cut_none m.segments 0 (b.ptr + b.done)) in
    let n : length (take b.done aside) ≡ b.len = length-take-le b.done aside (omega (arith, w.few, w.most)) ∙ e in
    let read = over_read m.bytes b.ptr b.len (take b.done aside) (omega (arith, sound.long)) n ∙ ap (λ k. take k aside) e in
    ap (λ (ps : List Piece). passed j acts go x (record { memory = m; access = reads b.ptr b.len ps copy })) none ∙ ap (λ (ys : List ℕ). go (record (with_memory x m) { held = ys })) read

pub writing_through : (j : Invocation) (acts : List Act) (go : Carried → Served) (x : Carried) (m : Memory) (b : Span) (aside : List ℕ) → b.done ≡ b.len → passed j acts go x (written_on m b aside) ≡ go (with_memory x m)
writing_through j acts go x m b aside e =
    let z : b.len - b.done ≡ 0 = omega arith in
    ap (passed j acts go x) (write_end m (b.ptr + b.done) (b.len - b.done) (bytes_left b aside) z)

-- ---- it begins

pub reading_first : (m : Memory) (b : Span) (aside : List ℕ) → b.done ≡ 0 → reading_on m b aside ≡ reads b.ptr b.len (shared_pieces m b.ptr b.len) m.bytes
reading_first m b aside e =
    let p : b.ptr + 0 ≡ b.ptr = omega arith in
    let l : b.len - 0 ≡ b.len = omega arith in
    let o : over m.bytes b.ptr [] ≡ m.bytes = ap (λ k. take b.ptr m.bytes ++ drop k m.bytes) p ∙ take-append-drop b.ptr m.bytes in
    ap (λ k. reads b.ptr b.len (shared_pieces m (b.ptr + k) (b.len - k)) (over m.bytes b.ptr (take k aside))) e
    ∙ ap (λ k. reads b.ptr b.len (shared_pieces m k (b.len - 0)) (over m.bytes b.ptr [])) p
    ∙ ap (λ k. reads b.ptr b.len (shared_pieces m b.ptr k) (over m.bytes b.ptr [])) l
    ∙ ap (reads b.ptr b.len (shared_pieces m b.ptr b.len)) o

pub writing_first : (m : Memory) (b : Span) (aside held : List ℕ) → b.done ≡ 0 → b.len ≤ length aside → held ≡ take b.len aside → writing m b.ptr (take b.len held) ≡ written_on m b aside
writing_first m b aside held e few is =
    let t : take b.len held ≡ take b.len aside = ap (take b.len) is ∙ take-take b.len b.len aside (omega arith) in
    let n : length (take b.len held) ≡ b.len = ap length t ∙ length-take-le b.len aside few in
    let p : b.ptr ≡ b.ptr + b.done = omega arith in
    let l : b.len ≡ b.len - b.done = omega arith in
    let z : b.len - 0 ≡ b.len = omega arith in
    let d : take b.len aside ≡ bytes_left b aside = sym (ap (λ k. take (b.len - k) (drop k aside)) e ∙ ap (λ k. take k aside) z) in
    ap (λ k. write_on (pieces m b.ptr k) m (take b.len held)) n ∙ ap (write_on (pieces m b.ptr b.len) m) (t ∙ d)
    ∙ ap (λ k. write_on (pieces m k b.len) m (bytes_left b aside)) p ∙ ap (λ k. write_on (pieces m (b.ptr + b.done) k) m (bytes_left b aside)) l
