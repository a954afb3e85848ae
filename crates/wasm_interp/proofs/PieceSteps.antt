-- A load or a store goes on by one piece.
use Rattle.std.proofs.Common.{◌≡◌, ℕ, zero, suc, ◌+◌, ◌-◌, ◌*◌, ◌<◌, ◌≤◌, ◌^◌, ◌/◌, ◌%◌, Bool, true, false, List, [], ◌∷◌, ◌++◌, length, take, drop, refl, ap, arith, ◌∙◌, sym, subst}
use Rattle.std.specs.Prelude.{IsTrue, nat_eq, nat_le, slice_get}
use Rattle.std.proofs.lemmas.List.{length-drop, length-take-le, drop-drop}
use Rattle.std.proofs.lemmas.Nat.{pow-add, shr-shr}
use Rattle.std.proofs.Math.Nat.{mul_assoc, mul-add}
use Rattle.std.proofs.Math.Seq.{take-add}
use Rattle.faaslet_meaning.specs.declared.linear.Home.TheVariants as code
use Rattle.faaslet_meaning.specs.declared.linear.Home as linear_home
use Rattle.faaslet_meaning.specs.declared.linear.Piece as linear_piece
use Rattle.faaslet_meaning.specs.LoadStore.{number, bytes_of}
use Rattle.faaslet_meaning.specs.Memory.{private, mapped, Piece, Memory, IsMemory, IsHome, IsFirstPiece, IsPrivate, pieces, shared_pieces, read_bytes, lies_in, Segment, page_size, pages_of, put, write_on, writes, HasPlace}
use Rattle.faaslet_meaning.specs.declared.grant.Grant.{Grant}
use Rattle.faaslet_meaning.specs.declared.grant.Mode.TheVariants.{Write as write_mode}
use Rattle.faaslet_meaning.specs.MemoryRules.{granted, all_granted}
use Rattle.wasm_interp.specs.declared.machine.PieceAsk.{PieceAsk}
use Rattle.wasm_interp.specs.StandsFor.{Agrees}
use Rattle.wasm_interp.specs.Parts.{Within, ReadOn, AtPiece, left_to_write}
use Rattle.wasm_interp.proofs.PieceLists.{shared, cut_none, place_of, write_mapped, first_of, cut_next, cut_first, shared_private, shared_mapped, write_private, inside_is, is_inside}
use Rattle.faaslet_meaning.proofs.WordBytes.{number_append, bytes_behind, front}

is_private_home : (f : Piece) (home : linear_home.Home) → IsHome f home → home ≡ code.Private → f.home ≡ private
is_private_home f home h e = subst (IsHome f) e h

-- the first piece, where it is private
pub private_first : (m : Memory) (at n : ℕ) (found : linear_piece.Piece) → IsFirstPiece m at n found → found.home ≡ code.Private → IsPrivate m at found.len
private_first m at n found f e =
    let home = is_private_home f.first found.home f.is_home e in
    ap (shared_pieces m at) f.is_long ∙ ap shared (cut_first m.segments 0 at n f.first f.others f.cut) ∙ shared_private f.first [] home

pub first_inside : (m : Memory) (addr size done len : ℕ) → Within m addr size done → len ≤ size - done → done < size → IsTrue (lies_in m (addr + done) len)
first_inside m addr size done len w few some = let i = inside_is m addr size w.inside in is_inside m (addr + done) len (omega arith)

-- what is left behind a private piece
pub left_behind : (m : Memory) (addr size done : ℕ) (found : linear_piece.Piece) → IsFirstPiece m (addr + done) (size - done) found → found.home ≡ code.Private → shared_pieces m (addr + (done + found.len)) (size - (done + found.len)) ≡ shared_pieces m (addr + done) (size - done)
left_behind m addr size done found f e =
    let home = is_private_home f.first found.home f.is_home e in
    let a : addr + (done + found.len) ≡ addr + done + f.first.size = omega (arith, f.is_long) in
    let b : size - (done + found.len) ≡ size - done - f.first.size = omega (arith, f.is_long) in
    ap (λ k. shared_pieces m k (size - (done + found.len))) a ∙ ap (shared_pieces m (addr + done + f.first.size)) b
    ∙ ap shared (cut_next m.segments 0 (addr + done) (size - done) f.first f.others f.cut)
    ∙ sym (ap shared f.cut ∙ shared_private f.first f.others home)

number_on : (bytes : List ℕ) (addr from done len : ℕ) → from ≤ done → addr + (done + len) ≤ length bytes → 2 ^ (8 * from) * number (take (done + len - from) (drop (addr + from) bytes)) ≡ 2 ^ (8 * from) * number (take (done - from) (drop (addr + from) bytes)) + 2 ^ (8 * done) * number (read_bytes (addr + done) len bytes)
number_on bytes addr from done len le h =
    let d = drop (addr + from) bytes in
    let k = done - from in
    let e1 : done + len - from ≡ k + len = omega arith in
    let e2 : addr + from + k ≡ addr + done = omega arith in
    let t : take (done + len - from) d ≡ take k d ++ read_bytes (addr + done) len bytes =
    ap (λ n. take n d) e1 ∙ take-add k len d ∙ ap (λ ys. take k d ++ take len ys) (drop-drop k (addr + from) bytes ∙ ap (λ n. drop n bytes) e2) in
    let l : length (take k d) ≡ k = length-take-le k d (omega (arith, length-drop (addr + from) bytes)) in
    let rest = number (read_bytes (addr + done) len bytes) in
    let n : number (take (done + len - from) d) ≡ number (take k d) + 2 ^ (8 * k) * rest =
    ap number t ∙ number_append (take k d) (read_bytes (addr + done) len bytes) ∙ ap (λ j. number (take k d) + 2 ^ (8 * j) * rest) l in
    let e3 : 8 * from + 8 * k ≡ 8 * done = omega arith in
    let p : 2 ^ (8 * from) * 2 ^ (8 * k) ≡ 2 ^ (8 * done) = sym (pow-add 2 (8 * from) (8 * k)) ∙ ap (λ j. 2 ^ j) e3 in
    ap (λ x. 2 ^ (8 * from) * x) n ∙ mul-add (2 ^ (8 * from)) (number (take k d)) (2 ^ (8 * k) * rest)
    ∙ ap (λ x. 2 ^ (8 * from) * number (take k d) + x) (sym (mul_assoc (2 ^ (8 * from)) (2 ^ (8 * k)) rest) ∙ ap (λ x. x * rest) p)

pub read_step : (m : Memory) (addr size from so_far done far part next : ℕ) (found : linear_piece.Piece) → Within m addr size from → IsMemory m → ReadOn m addr size from so_far done far → done < size → IsFirstPiece m (addr + done) (size - done) found → found.home ≡ code.Private → found.len ≤ size - done → part ≡ number (read_bytes (addr + done) found.len m.bytes) → next ≡ far + 2 ^ (8 * done) * part → next < 2 ^ (8 * (done + found.len)) → ReadOn m addr size from so_far (done + found.len) next
read_step m addr size from so_far done far part next found w sound r lt f e few is n small =
    let i = inside_is m addr size w.inside in
    let on = number_on m.bytes addr from done found.len r.on (omega (arith, sound.long)) in
    let same = ap (λ x. 2 ^ (8 * done) * x) is in
    record {
      on = omega (arith, r.on);
      most = omega arith;
      small = small;
      value = omega (arith, n, r.value, on, same);
      left = left_behind m addr size done found f e ∙ r.left;
    }

-- behind the first piece come the others
pub others_are : (m : Memory) (addr size done len : ℕ) (p : Piece) (ps : List Piece) → pieces m (addr + done) (size - done) ≡ p ∷ ps → len ≡ p.size → pieces m (addr + (done + len)) (size - (done + len)) ≡ ps
others_are m addr size done len p ps e l =
    let a : addr + (done + len) ≡ addr + done + p.size = omega arith in
    let b : size - (done + len) ≡ size - done - p.size = omega arith in
    ap (λ k. pieces m k (size - (done + len))) a ∙ ap (pieces m (addr + done + p.size)) b ∙ cut_next m.segments 0 (addr + done) (size - done) p ps e

-- so many bytes less are left to write
pub less_to_write : (size done len value : ℕ) → len ≤ size - done → drop len (left_to_write size done value) ≡ left_to_write size (done + len) value
less_to_write size done len value few =
    let e : 8 * done + 8 * len ≡ 8 * (done + len) = omega arith in
    let n : size - done - len ≡ size - (done + len) = omega arith in
    bytes_behind len (size - done) (size - done - len) (value / 2 ^ (8 * done)) (omega arith)
    ∙ ap (bytes_of (size - done - len)) (shr-shr value (8 * done) (8 * len) ∙ ap (λ k. value / 2 ^ k) e)
    ∙ ap (λ k. bytes_of k (value / 2 ^ (8 * (done + len)))) n

-- in other bytes over the same segments
pub within_same : (old m : Memory) (addr size from done : ℕ) → Within old addr size from → m.segments ≡ old.segments → done ≤ size → Within m addr size done
within_same old m addr size from done w same most =
    record { inside = subst (λ (ss : List Segment). nat_le (addr + size) (pages_of ss * page_size) ≡ true) (sym same) w.inside; few = w.few; most = most; near = w.near }

-- a private piece is written
pub write_step : (m : Memory) (addr size done value : ℕ) (found : linear_piece.Piece) → done < size → IsFirstPiece m (addr + done) (size - done) found → found.home ≡ code.Private → found.len ≤ size - done → (new : Memory) → new ≡ put m (addr + done) (bytes_of found.len (value / 2 ^ (8 * done))) → write_on (pieces m (addr + done) (size - done)) m (left_to_write size done value) ≡ write_on (pieces new (addr + (done + found.len)) (size - (done + found.len))) new (left_to_write size (done + found.len) value)
write_step m addr size done value found lt f e few new is =
    let home = is_private_home f.first found.home f.is_home e in
    let left = left_to_write size done value in
    let k = first_of m.segments 0 (addr + done) (size - done) f.first f.others f.cut in
    let t : take f.first.size left ≡ bytes_of found.len (value / 2 ^ (8 * done)) =
    ap (λ n. take n left) (sym f.is_long) ∙ front found.len (size - done) (value / 2 ^ (8 * done)) few in
    let d : drop f.first.size left ≡ left_to_write size (done + found.len) value = ap (λ n. drop n left) (sym f.is_long) ∙ less_to_write size done found.len value few in
    let n : put m f.first.at (take f.first.size left) ≡ new = ap (λ a. put m a (take f.first.size left)) k.at_is ∙ ap (put m (addr + done)) t ∙ sym is in
    let o : f.others ≡ pieces new (addr + (done + found.len)) (size - (done + found.len)) =
    sym (others_are m addr size done found.len f.first f.others f.cut f.is_long) ∙ ap (λ (x : Memory). pieces x (addr + (done + found.len)) (size - (done + found.len))) (sym is) in
    ap (λ ps. write_on ps m left) f.cut ∙ write_private f.first f.others m left home
    ∙ ap (λ x. write_on f.others x (drop f.first.size left)) n ∙ ap (write_on f.others new) d ∙ ap (λ ps. write_on ps new (left_to_write size (done + found.len) value)) o

-- what the code says of a write of private bytes
pub write_done : (m new : Memory) (at n x : ℕ) (b : Bool) → (b ≡ true → (lies_in m at n ≡ true) × (shared_pieces m at n ≡ []) × (new ≡ put m at (bytes_of n x))) → (b ≡ false → (new ≡ m) × (IsTrue (lies_in m at n) → IsPrivate m at n → ⊥)) → IsTrue (lies_in m at n) → IsPrivate m at n → new ≡ put m at (bytes_of n x)
write_done m new at n x true h k i p = (h refl).2
write_done m new at n x false h k i p = absurd ((k refl).1 i p)

-- ---- the first piece, where it is shared

pub record SharedFirst (m : Memory) (at n place offset len : ℕ) : Type 0 where
  pub first : Piece
  pub others : List Piece
  pub cut : pieces m at n ≡ first ∷ others
  pub home : first.home ≡ mapped place
  pub off : first.off ≡ offset
  pub long : len ≡ first.size

shared_home : (f : Piece) (home : linear_home.Home) (place off : ℕ) → IsHome f home → home ≡ code.Shared place off → (f.home ≡ mapped place) × (f.off ≡ off)
shared_home f home place off h e = subst (IsHome f) e h

pub shared_first : (m : Memory) (at n : ℕ) (found : linear_piece.Piece) (place off : ℕ) → IsFirstPiece m at n found → found.home ≡ code.Shared place off → SharedFirst m at n place off found.len
shared_first m at n found place off f e =
    let h = shared_home f.first found.home place off f.is_home e in
    record { first = f.first; others = f.others; cut = f.cut; home = h.0; off = h.1; long = f.is_long }

pub shared_place : (m : Memory) (at n place off len : ℕ) → IsMemory m → SharedFirst m at n place off len → place < 32
shared_place m at n place off len sound f = subst HasPlace f.home (place_of m.segments 0 at n f.first f.others sound.places f.cut)

pub at_piece : (m : Memory) (at n : ℕ) (b : Bool) (ask : PieceAsk) → SharedFirst m at n ask.place ask.off ask.len → ask.write ≡ b → AtPiece m at n b ask
at_piece m at n b ask f w = record { first = f.first; others = f.others; cut = f.cut; home = f.home; off = f.off; size = sym f.long; write = w }

-- ---- modes

bit_is : (n : ℕ) → n % 2 ≡ 0 → nat_eq (n % 2) 1 ≡ false
bit_is n e = rw e refl

bit_set : (n : ℕ) → (n % 2 ≡ 0 → ⊥) → nat_eq (n % 2) 1 ≡ true
bit_set n h = by (n % 2) refl
  where
    by : (k : ℕ) → n % 2 ≡ k → nat_eq k 1 ≡ true
    by zero e = absurd (h e)
    by (suc k) e = let f : suc k ≡ 1 = omega arith in rw f refl

granted_first : (grants : List Grant) (p : Piece) (ps : List Piece) (k : ℕ) → p.home ≡ mapped k → granted write_mode (slice_get grants k) ≡ true → all_granted grants write_mode (p ∷ ps) ≡ all_granted grants write_mode ps
granted_first grants p ps k e g = rw (e, g) refl

denied_first : (grants : List Grant) (p : Piece) (ps : List Piece) (k : ℕ) → p.home ≡ mapped k → granted write_mode (slice_get grants k) ≡ false → all_granted grants write_mode (p ∷ ps) ≡ false
denied_first grants p ps k e g = rw (e, g) refl

shared_is : (m : Memory) (at n place off len : ℕ) → (f : SharedFirst m at n place off len) → shared_pieces m at n ≡ f.first ∷ shared f.others
shared_is m at n place off len f = ap shared f.cut ∙ shared_mapped f.first f.others place f.home

pub may_step : (grants : List Grant) (writable : ℕ) (m : Memory) (addr size done place off len : ℕ) → Agrees writable grants → IsMemory m → SharedFirst m (addr + done) (size - done) place off len → (writable / 2 ^ place % 2 ≡ 0 → ⊥) → all_granted grants write_mode (shared_pieces m (addr + (done + len)) (size - (done + len))) ≡ all_granted grants write_mode (shared_pieces m (addr + done) (size - done))
may_step grants writable m addr size done place off len agrees sound f bit =
    let g = agrees place (shared_place m (addr + done) (size - done) place off len sound f) ∙ bit_set (writable / 2 ^ place) bit in
    ap (λ ps. all_granted grants write_mode (shared ps)) (others_are m addr size done len f.first f.others f.cut f.long)
    ∙ sym (ap (all_granted grants write_mode) (shared_is m (addr + done) (size - done) place off len f) ∙ granted_first grants f.first (shared f.others) place f.home g)

pub may_not : (grants : List Grant) (writable : ℕ) (m : Memory) (at n place off len : ℕ) → Agrees writable grants → IsMemory m → SharedFirst m at n place off len → writable / 2 ^ place % 2 ≡ 0 → all_granted grants write_mode (shared_pieces m at n) ≡ false
may_not grants writable m at n place off len agrees sound f bit =
    let g = agrees place (shared_place m at n place off len sound f) ∙ bit_is (writable / 2 ^ place) bit in
    ap (all_granted grants write_mode) (shared_is m at n place off len f) ∙ denied_first grants f.first (shared f.others) place f.home g

pub may_end : (grants : List Grant) (m : Memory) (at n : ℕ) → n ≡ 0 → all_granted grants write_mode (shared_pieces m at n) ≡ true
may_end grants m at n e = ap (λ k. all_granted grants write_mode (shared_pieces m at k)) e ∙ ap (λ ps. all_granted grants write_mode (shared ps)) (cut_none m.segments 0 at)

pub write_end : (m : Memory) (at n : ℕ) (bs : List ℕ) → n ≡ 0 → write_on (pieces m at n) m bs ≡ record { memory = m; access = writes [] [] }
write_end m at n bs e = ap (λ k. write_on (pieces m at k) m bs) e ∙ ap (λ ps. write_on ps m bs) (cut_none m.segments 0 at)

pub write_stop : (m : Memory) (at n place off len : ℕ) (bs : List ℕ) → SharedFirst m at n place off len → write_on (pieces m at n) m bs ≡ record { memory = m; access = writes (pieces m at n) bs }
write_stop m at n place off len bs f =
    ap (λ ps. write_on ps m bs) f.cut ∙ write_mapped f.first f.others m bs place f.home ∙ ap (λ (ps : List Piece). record { memory = m; access = writes ps bs }) (sym f.cut)
