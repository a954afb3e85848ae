-- The bytes to write at a shared piece are shown in the scratch.
use Rattle.std.proofs.Common.{◌≡◌, ℕ, ◌+◌, ◌-◌, ◌*◌, ◌/◌, ◌^◌, ◌<◌, ◌≤◌, List, [], length, take, refl, sym, ap, ◌∙◌, subst, arith, None, Some, true, false}
use Rattle.std.proofs.lemmas.Bool.{both_ways}
use Rattle.faaslet_meaning.specs.LoadStore.{bytes_of}
use Rattle.faaslet_meaning.specs.Memory.{Memory, Home, private, mapped, Piece, reads, writes, Touch, reads_piece, writes_piece, touch_of}
use Rattle.faaslet_meaning.specs.Configuration.{Begun, load, store, Next, goes, ends, touches, calls, stuck}
use Rattle.wasm_interp.specs.declared.thread.Thread.{Thread}
use Rattle.wasm_interp.specs.declared.machine.PieceAsk.{PieceAsk}
use Rattle.wasm_interp.specs.declared.machine.Pending.{Pending}
use Rattle.wasm_interp.specs.declared.machine.Stage.{Stage}
use Rattle.wasm_interp.specs.declared.machine.Stage.TheVariants as stage
use Rattle.wasm_interp.specs.Goes.{Shown}
use Rattle.wasm_interp.specs.Parts.{WriteStands}
use Rattle.wasm_interp.specs.StandsFor.{access_of, PieceIs, PendingIs, PendingStands, StageStands, to_write}
use Rattle.wasm_interp.proofs.PieceLists.{First, first_of}
use Rattle.faaslet_meaning.proofs.WordBytes.{front, bytes_many}

-- a store that stands at a piece
record Stores (memory : Memory) (q : Pending) (b : Begun) : Type 0 where
  left : List Piece
  bytes : List ℕ
  is : b ≡ store (writes left bytes)
  stands : WriteStands memory q left bytes

stores : (memory : Memory) (q : Pending) (b : Begun) → q.ask.write ≡ true → PendingIs memory q b → Stores memory q b
stores memory q (load l (reads at n left copy)) w h = absurd (both_ways _ h.piece.write w)
stores memory q (load l (writes left bytes)) w h = absurd h
stores memory q (store (reads at n left copy)) w h = absurd h
stores memory q (store (writes left bytes)) w h = record { left = left; bytes = bytes; is = refl; stands = h }

module _ (memory : Memory) (q : Pending) (left : List Piece) (bytes : List ℕ) (s : WriteStands memory q left bytes) where
  first : First (q.addr + q.done) (q.size - q.done) s.piece.first
  first = first_of memory.segments 0 (q.addr + q.done) (q.size - q.done) s.piece.first s.piece.others s.piece.cut

  done_few : q.done < 8
  done_few = omega (arith, first.some, first.few, s.range.few)

  len_few : q.ask.len ≤ 8
  len_few = omega (arith, first.few, s.range.few, s.piece.size)

  touched : touch_of (writes left bytes) ≡ Some (writes_piece q.ask.place s.piece.first.off (take s.piece.first.size bytes))
  touched =
      ap (λ l. touch_of (writes l bytes)) (s.left_is ∙ s.piece.cut)
      ∙ ap (λ (h : Home). elim h [ private ↦ None | mapped k ↦ Some (writes_piece k s.piece.first.off (take s.piece.first.size bytes)) ]) s.piece.home

  piece_bytes : take s.piece.first.size bytes ≡ bytes_of q.ask.len (q.value / 2 ^ (8 * q.done))
  piece_bytes =
      let few : q.ask.len ≤ q.size - q.done = omega (arith, first.few, s.piece.size) in
      ap (λ l. take s.piece.first.size l) s.bytes_are ∙ ap (λ n. take n (bytes_of (q.size - q.done) (q.value / 2 ^ (8 * q.done)))) s.piece.size ∙ front q.ask.len (q.size - q.done) (q.value / 2 ^ (8 * q.done)) few

  shown : (scratch : List ℕ) (x : ℕ) → x ≡ q.value / 2 ^ (8 * q.done) → take q.ask.len scratch ≡ bytes_of q.ask.len x → Shown scratch (store (writes left bytes))
  shown scratch x e h =
      let is : to_write (touch_of (writes left bytes)) ≡ bytes_of q.ask.len (q.value / 2 ^ (8 * q.done)) = ap to_write touched ∙ piece_bytes in
      subst (λ (l : List ℕ). take (length l) scratch ≡ l) (sym is)
      (ap (λ n. take n scratch) (bytes_many q.ask.len (q.value / 2 ^ (8 * q.done))) ∙ h ∙ ap (bytes_of q.ask.len) e)

-- how long a piece to write is, and how far a store has come
record Few (q : Pending) : Type 0 where
  pub done : q.done < 8
  pub len : q.ask.len ≤ 8

few_of : (memory : Memory) (t : Thread) (q : Pending) (n : Next) → q.ask.write ≡ true → StageStands memory t (stage.Piece q) n → Few q
few_of memory t q (goes c) w h = absurd h
few_of memory t q (ends c o) w h = absurd h
few_of memory t q (calls c b) w h = absurd h
few_of memory t q stuck w h = absurd h
few_of memory t q (touches c b) w h =
    let s = stores memory q b w h.1.is in
    record { done = done_few memory q s.left s.bytes s.stands; len = len_few memory q s.left s.bytes s.stands }

pub few_at : (memory : Memory) (t : Thread) (k : Stage) (q : Pending) (n : Next) → k ≡ stage.Piece q → q.ask.write ≡ true → StageStands memory t k n → (q.done < 8) × (q.ask.len ≤ 8)
few_at memory t k q n e w h = let f = few_of memory t q n w (subst (λ x. StageStands memory t x n) e h) in (f.done, f.len)

pub piece_shown : (memory : Memory) (q : Pending) (vs : List ℕ) (b : Begun) (scratch : List ℕ) (x : ℕ) → q.ask.write ≡ true → x ≡ q.value / 2 ^ (8 * q.done) → take q.ask.len scratch ≡ bytes_of q.ask.len x → PendingStands memory q vs b → Shown scratch b
piece_shown memory q vs b scratch x w e h p =
    let s = stores memory q b w p.is in
    subst (λ g. Shown scratch g) (sym s.is) (shown memory q s.left s.bytes s.stands scratch x e h)

-- nothing is to be written where the piece is read
read_touch : (ask : PieceAsk) (t : Touch) → ask.write ≡ false → PieceIs ask t → to_write (Some t) ≡ []
read_touch ask (reads_piece place off size) w h = refl
read_touch ask (writes_piece place off bytes) w h = absurd (both_ways _ w h.3)

pub none_shown : (memory : Memory) (q : Pending) (vs : List ℕ) (b : Begun) (scratch : List ℕ) → q.ask.write ≡ false → PendingStands memory q vs b → Shown scratch b
none_shown memory q vs b scratch w p =
    let is : to_write (touch_of (access_of b)) ≡ [] = ap to_write p.asks.touched ∙ read_touch q.ask p.asks.touch w p.asks.is in
    subst (λ (l : List ℕ). take (length l) scratch ≡ l) (sym is) refl

pub same_piece : (a b : Pending) (s : Stage) → s ≡ stage.Piece a → s ≡ stage.Piece b → a ≡ b
same_piece a b s e f = let g : stage.Piece a ≡ stage.Piece b = sym e ∙ f in cc
