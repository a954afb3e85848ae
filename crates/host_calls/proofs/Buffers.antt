-- A buffer goes on by one piece: a private one that is copied, or a shared one that was answered.
use Rattle.std.proofs.Common.{◌≡◌, ℕ, ◌+◌, ◌-◌, ◌*◌, ◌<◌, ◌≤◌, ◌^◌, Bool, true, false, List, [], ◌∷◌, ◌++◌, length, take, drop, refl, ap, arith, ◌∙◌, sym, subst}
use Rattle.std.specs.Prelude.{IsTrue, min, nat_lt}
use Rattle.std.proofs.lemmas.List.{length-drop, length-take-le, drop-drop, take-take, drop-take}
use Rattle.faaslet_meaning.specs.declared.linear.Home.TheVariants as code
use Rattle.faaslet_meaning.specs.declared.linear.Home as linear_home
use Rattle.faaslet_meaning.specs.declared.linear.Piece as linear_piece
use Rattle.faaslet_meaning.specs.Memory.{private, Piece, Memory, IsMemory, IsHome, IsFirstPiece, cut, shared_pieces, read_bytes, lies_in, Segment, page_size, over, put, reads, writes, Written, write_on, answered}
use Rattle.wasm_interp.proofs.PieceLists.{shared, first_of, shared_mapped, write_private, inside_is, is_inside}
use Rattle.wasm_interp.proofs.PieceSteps.{left_behind, others_are}
use Rattle.host_calls.specs.declared.span.Span.{Span}
use Rattle.host_calls.specs.declared.span.Shared.{Shared}
use Rattle.host_calls.specs.Homes.{IsNear}
use Rattle.host_calls.specs.Buffers.{IsWithin, AtShared, pieces_left, reading_on, bytes_left, writing_on, written_on}
use Rattle.host_calls.proofs.Lists.{over_front, over_longer, over_append}

-- ---- where its first piece is

cut_near : (ss : List Segment) (base at n : ℕ) (p : Piece) (ps : List Piece) → cut ss base at n ≡ p ∷ ps → p.off ≤ p.at
cut_near [] base at n p ps e = cc
cut_near (s ∷ ss) base at n p ps e = by (nat_lt 0 here) refl (cut_near ss next at n p ps)
  where
    next : ℕ
    next = base + s.pages * page_size

    here : ℕ
    here = min n (next - at)

    by : (b : Bool) → nat_lt 0 here ≡ b → (cut ss next at n ≡ p ∷ ps → p.off ≤ p.at) → p.off ≤ p.at
    by true t ih =
        let q : Piece = record { home = s.home; off = at - base; at = at; size = here } in
        let i : q ∷ cut ss next (at + here) (n - here) ≡ p ∷ ps = rw t at e in
        let f : q ≡ p = cc in
        subst (λ (x : Piece). x.off ≤ x.at) f (omega arith)
    by false t ih = ih (rw t at e)

pub inside_on : (m : Memory) (b : Span) (n : ℕ) → IsWithin m b → n ≤ b.len - b.done → IsTrue (lies_in m (b.ptr + b.done) n)
inside_on m b n w few = let i = inside_is m b.ptr b.len w.inside in is_inside m (b.ptr + b.done) n (omega (arith, w.most))

pub near_home : (m : Memory) (b : Span) (found : linear_piece.Piece) → IsWithin m b → IsMemory m → IsFirstPiece m (b.ptr + b.done) (b.len - b.done) found → IsNear found.home
near_home m b found w sound f = by found.home f.is_home
  where
    off_is : f.first.off < 2 ^ 32
    off_is =
        let k = first_of m.segments 0 (b.ptr + b.done) (b.len - b.done) f.first f.others f.cut in
        let n = cut_near m.segments 0 (b.ptr + b.done) (b.len - b.done) f.first f.others f.cut in
        let i = inside_is m b.ptr b.len w.inside in
        omega (arith, k.at_is, k.some, k.few, sound.few, w.most)

    by : (h : linear_home.Home) → IsHome f.first h → IsNear h
    by code.Private h = tt
    by (code.Shared place off) h = let e = h.1 in omega (arith, off_is)

-- ---- a private piece

is_private_home : (f : Piece) (home : linear_home.Home) → IsHome f home → home ≡ code.Private → f.home ≡ private
is_private_home f home h e = subst (IsHome f) e h

-- so many more bytes are through
abbrev pub further : Span → ℕ → Span
further b n = record b { done = b.done + n }

pub read_long : (m : Memory) (b : Span) (n : ℕ) → IsWithin m b → IsMemory m → n ≤ b.len - b.done → length (read_bytes (b.ptr + b.done) n m.bytes) ≡ n
read_long m b n w sound few =
    let i = inside_is m b.ptr b.len w.inside in
    length-take-le n (drop (b.ptr + b.done) m.bytes) (omega (arith, length-drop (b.ptr + b.done) m.bytes, sound.long, w.most))

pub reading_step : (m : Memory) (b : Span) (aside : List ℕ) (found : linear_piece.Piece) → IsWithin m b → IsMemory m → length aside ≡ 65536 → IsFirstPiece m (b.ptr + b.done) (b.len - b.done) found → found.home ≡ code.Private → found.len ≤ b.len - b.done → reading_on m (further b found.len) (over aside b.done (read_bytes (b.ptr + b.done) found.len m.bytes)) ≡ reading_on m b aside
reading_step m b aside found w sound long f e few =
    let i = inside_is m b.ptr b.len w.inside in
    let a = take b.done aside in
    let r = read_bytes (b.ptr + b.done) found.len m.bytes in
    let na : length a ≡ b.done = length-take-le b.done aside (omega (arith, w.few, w.most)) in
    let nr : length r ≡ found.len = length-take-le found.len (drop (b.ptr + b.done) m.bytes) (omega (arith, length-drop (b.ptr + b.done) m.bytes, sound.long, w.most)) in
    let t : take (b.done + found.len) (over aside b.done r) ≡ a ++ r = over_front aside b.done found.len r (omega (arith, w.few, w.most)) (sym nr) in
    let same : r ≡ take (length r) (drop (b.ptr + length a) m.bytes) = sym (ap (λ n. take n (drop (b.ptr + length a) m.bytes)) nr ∙ ap (λ n. take found.len (drop (b.ptr + n) m.bytes)) na) in
    let copy : over m.bytes b.ptr (take (b.done + found.len) (over aside b.done r)) ≡ over m.bytes b.ptr a = ap (over m.bytes b.ptr) t ∙ over_longer m.bytes b.ptr a r same in
    let left = left_behind m b.ptr b.len b.done found f e in
    ap (λ ps. reads b.ptr b.len ps (over m.bytes b.ptr (take (b.done + found.len) (over aside b.done r)))) left
    ∙ ap (λ ys. reads b.ptr b.len (shared_pieces m (b.ptr + b.done) (b.len - b.done)) ys) copy

-- what is left to write behind a part
pub left_further : (b : Span) (n : ℕ) (aside : List ℕ) → n ≤ b.len - b.done → drop n (bytes_left b aside) ≡ bytes_left (further b n) aside
left_further b n aside few =
    let e : b.len - b.done ≡ n + (b.len - (b.done + n)) = omega arith in
    ap (λ k. drop n (take k (drop b.done aside))) e ∙ drop-take n (b.len - (b.done + n)) (drop b.done aside) ∙ ap (take (b.len - (b.done + n))) (drop-drop n b.done aside)

pub writing_step : (m : Memory) (b : Span) (aside : List ℕ) (found : linear_piece.Piece) (new : Memory) → IsFirstPiece m (b.ptr + b.done) (b.len - b.done) found → found.home ≡ code.Private → found.len ≤ b.len - b.done → new ≡ put m (b.ptr + b.done) (take found.len (drop b.done aside)) → written_on new (further b found.len) aside ≡ written_on m b aside
writing_step m b aside found new f e few is =
    let home = is_private_home f.first found.home f.is_home e in
    let left = bytes_left b aside in
    let k = first_of m.segments 0 (b.ptr + b.done) (b.len - b.done) f.first f.others f.cut in
    let t : take f.first.size left ≡ take found.len (drop b.done aside) = ap (λ n. take n left) (sym f.is_long) ∙ take-take found.len (b.len - b.done) (drop b.done aside) few in
    let d : drop f.first.size left ≡ bytes_left (further b found.len) aside = ap (λ n. drop n left) (sym f.is_long) ∙ left_further b found.len aside few in
    let n : put m f.first.at (take f.first.size left) ≡ new = ap (λ a. put m a (take f.first.size left)) k.at_is ∙ ap (put m (b.ptr + b.done)) t ∙ sym is in
    let o : f.others ≡ pieces_left new (further b found.len) =
    sym (others_are m b.ptr b.len b.done found.len f.first f.others f.cut f.is_long) ∙ ap (λ (x : Memory). pieces_left x (further b found.len)) (sym is) in
    sym (ap (λ ps. write_on ps m left) f.cut ∙ write_private f.first f.others m left home
    ∙ ap (λ x. write_on f.others x (drop f.first.size left)) n ∙ ap (write_on f.others new) d ∙ ap (λ ps. write_on ps new (bytes_left (further b found.len) aside)) o)

-- ---- a shared piece that was answered

pub next_few : (m : Memory) (b : Span) (piece : Shared) → AtShared m b piece → b.next ≤ b.len - b.done
next_few m b piece f = let k = first_of m.segments 0 (b.ptr + b.done) (b.len - b.done) f.first f.others f.cut in omega (arith, k.few, f.size, f.next)

others_left : (m : Memory) (b : Span) (piece : Shared) (f : AtShared m b piece) → pieces_left m (further b b.next) ≡ f.others
others_left m b piece f = let e : b.next ≡ f.first.size = f.next ∙ sym f.size in others_are m b.ptr b.len b.done b.next f.first f.others f.cut e

pub shared_left : (m : Memory) (b : Span) (piece : Shared) (f : AtShared m b piece) → shared_pieces m (b.ptr + b.done) (b.len - b.done) ≡ f.first ∷ shared f.others
shared_left m b piece f = ap shared f.cut ∙ shared_mapped f.first f.others piece.place f.home

pub reading_reply : (m : Memory) (b : Span) (aside bs : List ℕ) (piece : Shared) → IsWithin m b → IsMemory m → length aside ≡ 65536 → AtShared m b piece → length bs ≡ b.next → answered m (reading_on m b aside) bs ≡ record { memory = m; access = reading_on m (further b b.next) (over aside b.done bs) }
reading_reply m b aside bs piece w sound long f n =
    let i = inside_is m b.ptr b.len w.inside in
    let a = take b.done aside in
    let copy = over m.bytes b.ptr a in
    let k = first_of m.segments 0 (b.ptr + b.done) (b.len - b.done) f.first f.others f.cut in
    let na : length a ≡ b.done = length-take-le b.done aside (omega (arith, w.few, w.most)) in
    let at : f.first.at ≡ b.ptr + length a = k.at_is ∙ ap (λ x. b.ptr + x) (sym na) in
    let t : take (b.done + b.next) (over aside b.done bs) ≡ a ++ bs = over_front aside b.done b.next bs (omega (arith, w.few, w.most)) (sym n) in
    let laid : over copy f.first.at bs ≡ over m.bytes b.ptr (take (b.done + b.next) (over aside b.done bs)) =
    over_append m.bytes b.ptr f.first.at a bs (omega (arith, sound.long)) at ∙ ap (over m.bytes b.ptr) (sym t) in
    let left : shared f.others ≡ shared_pieces m (b.ptr + (b.done + b.next)) (b.len - (b.done + b.next)) = ap shared (sym (others_left m b piece f)) in
    let Go : List Piece → List ℕ → Written = λ ps ys. record { memory = m; access = reads b.ptr b.len ps ys } in
    ap (λ ps. answered m (reads b.ptr b.len ps copy) bs) (shared_left m b piece f) ∙ ap (Go (shared f.others)) laid
    ∙ ap (λ ps. Go ps (over m.bytes b.ptr (take (b.done + b.next) (over aside b.done bs)))) left

pub writing_reply : (m : Memory) (b : Span) (aside bs : List ℕ) (piece : Shared) → AtShared m b piece → answered m (writing_on m b aside) bs ≡ written_on m (further b b.next) aside
writing_reply m b aside bs piece f =
    let left = bytes_left b aside in
    let few = next_few m b piece f in
    let e : f.first.size ≡ b.next = f.size ∙ sym f.next in
    ap (λ ps. answered m (writes ps left) bs) f.cut ∙ ap (λ n. write_on f.others m (drop n left)) e
    ∙ ap (write_on f.others m) (left_further b b.next aside few) ∙ ap (λ ps. write_on ps m (bytes_left (further b b.next) aside)) (sym (others_left m b piece f))

pub within_further : (m : Memory) (b : Span) (n : ℕ) → IsWithin m b → n ≤ b.len - b.done → IsWithin m (further b n)
within_further m b n w few = record { inside = w.inside; few = w.few; most = omega (arith, w.most) }

-- in other bytes over the same segments
pub within_put : (m new : Memory) (b : Span) (at : ℕ) (bs : List ℕ) → IsWithin m b → new ≡ put m at bs → IsWithin new b
within_put m new b at bs w e = subst (λ (x : Memory). IsWithin x b) (sym e) (let k : IsWithin (put m at bs) b = record { inside = w.inside; few = w.few; most = w.most } in k)
