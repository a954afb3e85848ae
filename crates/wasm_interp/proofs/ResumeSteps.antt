-- The rest of a load or a store behind a shared piece.
use Rattle.std.proofs.Common.{◌≡◌, ℕ, ◌+◌, ◌-◌, ◌*◌, ◌<◌, ◌≤◌, ◌^◌, ◌/◌, Bool, true, false, List, [], ◌∷◌, ◌++◌, length, take, drop, refl, ap, arith, ◌∙◌, sym, subst, Some, None, Option, length-append, append_assoc}
use Rattle.std.specs.Prelude.{option_map}
use Rattle.std.proofs.lemmas.List.{drop-append-le, length-take-le, length-drop, drop-drop, drop-take, take_at, drop_at}
use Rattle.std.proofs.Math.Seq.{take-add}
use Rattle.faaslet_meaning.specs.LoadStore.{Load, load_of, load_size, loaded, number, store_of}
use Rattle.faaslet_meaning.specs.Memory.{Home, private, mapped, Memory, Backing, Piece, reads, writes, Touch, reads_piece, writes_piece, touch_of, Written, write_on, answered, over, pieces, shared_pieces, read_bytes}
use Rattle.faaslet_meaning.specs.MemoryRules.{load_on, stored, resumed}
use Rattle.faaslet_meaning.specs.Configuration.{Configuration, Begun, load, store, touches}
use Rattle.faaslet_meaning.specs.declared.grant.Grant.{Grant}
use Rattle.faaslet_meaning.specs.declared.module.Module.{Module}
use Rattle.faaslet_meaning.specs.Fine.{ground_of}
use Rattle.faaslet_meaning.proofs.SoundMemory.{resumed_ok}
use Rattle.wasm_interp.specs.declared.machine.Machine.{Machine}
use Rattle.wasm_interp.specs.declared.machine.PieceAsk.{PieceAsk}
use Rattle.wasm_interp.specs.declared.machine.Pending.{Pending}
use Rattle.wasm_interp.specs.declared.machine.Stage.{Stage}
use Rattle.wasm_interp.specs.declared.machine.Stage.TheVariants as stage
use Rattle.wasm_interp.specs.declared.thread.Thread.{Thread}
use Rattle.wasm_interp.specs.Parts.{extended, left_to_write, AtPiece, SoFar, Within, ReadOn, ReadStands, WriteStands}
use Rattle.wasm_interp.specs.Goes.{SameRun}
use Rattle.wasm_interp.specs.Stands.{Stands}
use Rattle.wasm_interp.specs.StandsFor.{StageStands, AsksPiece, PendingStands, StandsFor, reply_size, size_of_reply, Agrees}
use Rattle.wasm_interp.proofs.Fuel.{resumed_within}
use Rattle.wasm_interp.proofs.AccessSteps.{replaced, changed}
use Rattle.wasm_interp.proofs.PieceLists.{shared, shared_mapped, cut_none, first_of}
use Rattle.wasm_interp.proofs.PieceSteps.{others_are, less_to_write}
use Rattle.faaslet_meaning.proofs.WordBytes.{number_append, bytes_many}

-- ---- the copy of a load

-- so much of the copy is read as a load went on
pub so_far_on : (m : Memory) (copy : List ℕ) (addr size from so_far done far : ℕ) → SoFar m.bytes copy addr from so_far → ReadOn m addr size from so_far done far → addr + size ≤ length m.bytes → SoFar m.bytes copy addr done far
so_far_on m copy addr size from so_far done far s r long =
    let d = drop addr copy in
    let k = done - from in
    let e : done ≡ from + k = omega (arith, r.on) in
    let e2 : addr + from + k ≡ addr + done = omega (arith, r.on) in
    let behind : drop from d ≡ drop (addr + from) m.bytes = drop-drop from addr copy ∙ s.ahead in
    let l : length (take from d) ≡ from = length-take-le from d (omega (arith, length-drop addr copy, s.long, r.on, r.most)) in
    let t : take done d ≡ take from d ++ take k (drop (addr + from) m.bytes) = ap (λ n. take n d) e ∙ take-add from k d ∙ ap (λ ys. take from d ++ take k ys) behind in
    let rest = number (take k (drop (addr + from) m.bytes)) in
    let n : number (take done d) ≡ so_far + 2 ^ (8 * from) * rest =
    ap number t ∙ number_append (take from d) (take k (drop (addr + from) m.bytes)) ∙ ap (λ j. number (take from d) + 2 ^ (8 * j) * rest) l ∙ ap (λ x. x + 2 ^ (8 * from) * rest) (sym s.value) in
    let ahead : drop (addr + done) copy ≡ drop (addr + done) m.bytes =
    ap (λ j. drop j copy) (sym e2) ∙ sym (drop-drop k (addr + from) copy) ∙ ap (drop k) s.ahead ∙ drop-drop k (addr + from) m.bytes ∙ ap (λ j. drop j m.bytes) e2 in
    record { value = r.value ∙ sym n; ahead = ahead; long = s.long }

-- bytes of a reply are laid over the copy
pub so_far_over : (bytes copy new : List ℕ) (addr done far len next : ℕ) → SoFar bytes copy addr done far → addr + (done + len) ≤ length bytes → length new ≡ len → next ≡ far + 2 ^ (8 * done) * number new → SoFar bytes (over copy (addr + done) new) addr (done + len) next
so_far_over bytes copy new addr done far len next s long l n =
    let at = addr + done in
    let front = take at copy in
    let rest = drop (at + length new) copy in
    let fl : length front ≡ at = length-take-le at copy (omega (arith, s.long)) in
    let d : drop addr (front ++ (new ++ rest)) ≡ take done (drop addr copy) ++ (new ++ rest) =
    drop-append-le addr front (new ++ rest) (omega arith) ∙ ap (λ ys. ys ++ (new ++ rest)) (drop-take addr done copy) in
    let ol : length (take done (drop addr copy)) ≡ done = length-take-le done (drop addr copy) (omega (arith, length-drop addr copy, s.long)) in
    let both : length (take done (drop addr copy) ++ new) ≡ done + len = omega (arith, length-append (take done (drop addr copy)) new) in
    let t : take (done + len) (drop addr (front ++ (new ++ rest))) ≡ take done (drop addr copy) ++ new =
    ap (take (done + len)) (d ∙ sym (append_assoc (take done (drop addr copy)) new rest)) ∙ take_at (take done (drop addr copy) ++ new) rest (done + len) both in
    let v : number (take (done + len) (drop addr (front ++ (new ++ rest)))) ≡ far + 2 ^ (8 * done) * number new =
    ap number t ∙ number_append (take done (drop addr copy)) new ∙ ap (λ j. number (take done (drop addr copy)) + 2 ^ (8 * j) * number new) ol ∙ ap (λ x. x + 2 ^ (8 * done) * number new) (sym s.value) in
    let fn : length (front ++ new) ≡ addr + (done + len) = omega (arith, length-append front new) in
    let e : at + length new ≡ at + len = ap (λ k. at + k) l in
    let e2 : at + len ≡ addr + (done + len) = omega arith in
    let a : drop (addr + (done + len)) (front ++ (new ++ rest)) ≡ drop (addr + (done + len)) bytes =
    ap (drop (addr + (done + len))) (sym (append_assoc front new rest)) ∙ drop_at (front ++ new) rest (addr + (done + len)) fn
    ∙ ap (λ k. drop k copy) e ∙ sym (drop-drop len at copy) ∙ ap (drop len) s.ahead ∙ drop-drop len at bytes ∙ ap (λ k. drop k bytes) e2 in
    let whole : length (front ++ (new ++ rest)) ≡ length bytes =
    omega (arith, length-append front (new ++ rest), length-append new rest, length-drop (at + length new) copy, s.long) in
    record { value = n ∙ sym v; ahead = a; long = whole }

-- ---- a load goes on

first_shared : (m : Memory) (at n : ℕ) (b : Bool) (ask : PieceAsk) → (a : AtPiece m at n b ask) → shared_pieces m at n ≡ a.first ∷ shared a.others
first_shared m at n b ask a = ap shared a.cut ∙ shared_mapped a.first a.others ask.place a.home

read_touch : (at n : ℕ) (p : Piece) (ps : List Piece) (copy : List ℕ) (k : ℕ) → p.home ≡ mapped k → touch_of (reads at n (p ∷ ps) copy) ≡ Some (reads_piece k p.off p.size)
read_touch at n p ps copy k e = ap (λ (h : Home). elim h as (λ _. Option Touch) [ private ↦ None | mapped j ↦ Some (reads_piece j p.off p.size) ]) e

write_touch : (p : Piece) (ps : List Piece) (bytes : List ℕ) (k : ℕ) → p.home ≡ mapped k → touch_of (writes (p ∷ ps) bytes) ≡ Some (writes_piece k p.off (take p.size bytes))
write_touch p ps bytes k e = ap (λ (h : Home). elim h as (λ _. Option Touch) [ private ↦ None | mapped j ↦ Some (writes_piece j p.off (take p.size bytes)) ]) e

-- it stops at a shared piece
pub read_stops : (memory : Memory) (t : Thread) (c : Configuration) (l : Load) (copy : List ℕ) (q : Pending) → Stands memory t c → 0 < length c.frame.values → load_of q.op ≡ Some l → q.size ≡ load_size l → Within memory q.addr q.size q.done → q.addr + q.size ≤ length memory.bytes → SoFar memory.bytes copy q.addr q.done q.value → q.value < 2 ^ (8 * q.done) → AtPiece memory (q.addr + q.done) (q.size - q.done) false q.ask → StageStands memory t (stage.Piece q) (load_on c l (reads q.addr q.size (shared_pieces memory (q.addr + q.done) (q.size - q.done)) copy))
read_stops memory t c l copy q s h row z w long far small a =
    let f = first_shared memory (q.addr + q.done) (q.size - q.done) false q.ask a in
    let asks : AsksPiece q.ask (load l (reads q.addr q.size (a.first ∷ shared a.others) copy)) =
    record { touch = reads_piece q.ask.place a.first.off a.first.size; touched = read_touch q.addr q.size a.first (shared a.others) copy q.ask.place a.home; is = (refl, sym a.off, sym a.size, a.write) } in
    let stands : ReadStands memory q l q.addr q.size (a.first ∷ shared a.others) copy =
    record { row = row; address = refl; length_is = refl; bytes_are = z; range = w; long = long; left_is = sym f; so_far = far; small = small; piece = a } in
    let p : PendingStands memory q c.frame.values (load l (reads q.addr q.size (a.first ∷ shared a.others) copy)) = record { asks = asks; is = stands; there = h } in
    subst (λ ps. StageStands memory t (stage.Piece q) (load_on c l (reads q.addr q.size ps copy))) (sym f) (s, p)

-- it is through
pub read_ends : (memory : Memory) (t : Thread) (c : Configuration) (l : Load) (copy : List ℕ) (addr size done far v : ℕ) (values : List ℕ) → Stands memory t c → 0 < length c.frame.values → SoFar memory.bytes copy addr done far → size - done ≡ 0 → done ≤ size → v ≡ extended l far → values ≡ v ∷ drop 1 t.values → StageStands memory (record t { values = values }) stage.Runs (load_on c l (reads addr size (shared_pieces memory (addr + done) (size - done)) copy))
read_ends memory t c l copy addr size done far v values s h so z most ext e =
    let none : shared_pieces memory (addr + done) (size - done) ≡ [] = ap (shared_pieces memory (addr + done)) z ∙ ap shared (cut_none memory.segments 0 (addr + done)) in
    let all : done ≡ size = omega arith in
    let w : v ≡ loaded l (read_bytes addr size copy) = ext ∙ ap (extended l) (so.value ∙ ap (λ k. number (take k (drop addr copy))) all) in
    let r = replaced memory t c (loaded l (read_bytes addr size copy)) values s h (e ∙ ap (λ k. k ∷ drop 1 t.values) w) in
    subst (λ ps. StageStands memory (record t { values = values }) stage.Runs (load_on c l (reads addr size ps copy))) (sym none) r

-- ---- a store goes on

pub write_stops : (memory new : Memory) (t : Thread) (c : Configuration) (q : Pending) (w : Written) → Stands memory t c → 2 ≤ length c.frame.values → store_of q.op ≡ Some q.size → Within new q.addr q.size q.done → AtPiece new (q.addr + q.done) (q.size - q.done) true q.ask → w ≡ record { memory = new; access = writes (pieces new (q.addr + q.done) (q.size - q.done)) (left_to_write q.size q.done q.value) } → StageStands new t (stage.Piece q) (stored c w)
write_stops memory new t c q w s h row range a is =
    let left = left_to_write q.size q.done q.value in
    let few = (first_of new.segments 0 (q.addr + q.done) (q.size - q.done) a.first a.others a.cut).few in
    let long : length (take a.first.size left) ≡ a.first.size = length-take-le a.first.size left (omega (arith, bytes_many (q.size - q.done) (q.value / 2 ^ (8 * q.done)))) in
    let asks : AsksPiece q.ask (store (writes (a.first ∷ a.others) left)) =
    record { touch = writes_piece q.ask.place a.first.off (take a.first.size left); touched = write_touch a.first a.others left q.ask.place a.home; is = (refl, sym a.off, sym (long ∙ a.size), a.write) } in
    let stands : WriteStands new q (a.first ∷ a.others) left = record { row = row; range = range; left_is = sym a.cut; bytes_are = refl; piece = a } in
    let p : PendingStands new q c.frame.values (store (writes (a.first ∷ a.others) left)) = record { asks = asks; is = stands; there = h } in
    let st : Stands new t (record c { memory = new }) = changed memory new new t c t.values c.frame.values s s.values refl in
    subst (λ k. StageStands new t (stage.Piece q) (stored c k)) (sym is)
    (subst (λ (ps : List Piece). StageStands new t (stage.Piece q) (stored c (record { memory = new; access = writes ps left }))) (sym a.cut) (st, p))

-- ---- behind a shared piece

pub pending_of : (memory : Memory) (t : Thread) (st : Stage) (c : Configuration) (b : Begun) (q : Pending) → StageStands memory t st (touches c b) → st ≡ stage.Piece q → Stands memory t c × PendingStands memory q c.frame.values b
pending_of memory t st c b q s e = subst (λ (x : Stage). StageStands memory t x (touches c b)) e s

pub record WritePending (memory : Memory) (q : Pending) (values : List ℕ) (b : Begun) : Type 0 where
  pub left : List Piece
  pub bytes : List ℕ
  pub begun : b ≡ store (writes left bytes)
  pub is : WriteStands memory q left bytes
  pub there : 2 ≤ length values

pub write_pending : (memory : Memory) (q : Pending) (values : List ℕ) (b : Begun) → PendingStands memory q values b → q.ask.write ≡ true → WritePending memory q values b
write_pending memory q values (load l (reads at n left copy)) p e = let f = p.is.piece.write in cc
write_pending memory q values (load l (writes left bytes)) p e = absurd p.is
write_pending memory q values (store (reads at n left copy)) p e = absurd p.is
write_pending memory q values (store (writes left bytes)) p e = record { left = left; bytes = bytes; begun = refl; is = p.is; there = p.there }

pub record ReadPending (memory : Memory) (q : Pending) (values : List ℕ) (b : Begun) : Type 0 where
  pub row : Load
  pub at : ℕ
  pub size : ℕ
  pub left : List Piece
  pub copy : List ℕ
  pub begun : b ≡ load row (reads at size left copy)
  pub is : ReadStands memory q row at size left copy
  pub there : 1 ≤ length values

pub read_pending : (memory : Memory) (q : Pending) (values : List ℕ) (b : Begun) → PendingStands memory q values b → q.ask.write ≡ false → ReadPending memory q values b
read_pending memory q values (load l (reads at n left copy)) p e = record { row = l; at = at; size = n; left = left; copy = copy; begun = refl; is = p.is; there = p.there }
read_pending memory q values (load l (writes left bytes)) p e = absurd p.is
read_pending memory q values (store (reads at n left copy)) p e = absurd p.is
read_pending memory q values (store (writes left bytes)) p e = let f = p.is.piece.write in cc

-- the piece is in what is left
pub piece_fits : (memory : Memory) (at n : ℕ) (b : Bool) (ask : PieceAsk) → AtPiece memory at n b ask → (1 ≤ ask.len) × (ask.len ≤ n)
piece_fits memory at n b ask a = let k = first_of memory.segments 0 at n a.first a.others a.cut in (omega (arith, k.some, a.size), omega (arith, k.few, a.size))

pub within_more : (memory : Memory) (addr size done len : ℕ) (b : Bool) (ask : PieceAsk) → Within memory addr size done → AtPiece memory (addr + done) (size - done) b ask → len ≡ ask.len → Within memory addr size (done + len)
within_more memory addr size done len b ask w a e =
    let f = piece_fits memory (addr + done) (size - done) b ask a in
    record { inside = w.inside; few = w.few; most = omega (arith, f.1, w.most); near = w.near }

pub written_answer : (memory : Memory) (c : Configuration) (q : Pending) (left : List Piece) (bytes reply : List ℕ) (len : ℕ) → memory ≡ c.memory → WriteStands memory q left bytes → len ≡ q.ask.len → answered c.memory (writes left bytes) reply ≡ write_on (pieces memory (q.addr + (q.done + len)) (q.size - (q.done + len))) memory (left_to_write q.size (q.done + len) q.value)
written_answer memory c q left bytes reply len m w e =
    let a = w.piece in
    let f = piece_fits memory (q.addr + q.done) (q.size - q.done) true q.ask a in
    let l : len ≡ a.first.size = e ∙ sym a.size in
    let few : len ≤ q.size - q.done = omega (arith, f.1) in
    let o = others_are memory q.addr q.size q.done len a.first a.others a.cut l in
    let d : drop a.first.size bytes ≡ left_to_write q.size (q.done + len) q.value = ap (λ k. drop k bytes) (sym l) ∙ ap (drop len) w.bytes_are ∙ less_to_write q.size q.done len q.value few in
    ap (λ ps. answered c.memory (writes ps bytes) reply) (w.left_is ∙ a.cut)
    ∙ ap (λ k. write_on a.others k (drop a.first.size bytes)) (sym m) ∙ ap (write_on a.others memory) d ∙ ap (λ ps. write_on ps memory (left_to_write q.size (q.done + len) q.value)) (sym o)

pub read_reply : (memory : Memory) (q : Pending) (l : Load) (at n : ℕ) (left : List Piece) (copy : List ℕ) → ReadStands memory q l at n left copy → reply_size (load l (reads at n left copy)) ≡ q.ask.len
read_reply memory q l at n left copy r =
    let a = r.piece in
    let f : left ≡ a.first ∷ shared a.others = r.left_is ∙ first_shared memory (q.addr + q.done) (q.size - q.done) false q.ask a in
    ap (λ ps. size_of_reply (touch_of (reads at n ps copy))) f ∙ ap size_of_reply (read_touch at n a.first (shared a.others) copy q.ask.place a.home) ∙ a.size

pub read_answer : (memory : Memory) (c : Configuration) (q : Pending) (l : Load) (at n : ℕ) (left : List Piece) (copy reply : List ℕ) (len : ℕ) → ReadStands memory q l at n left copy → len ≡ q.ask.len → (answered c.memory (reads at n left copy) reply).access ≡ reads q.addr q.size (shared_pieces memory (q.addr + (q.done + len)) (q.size - (q.done + len))) (over copy (q.addr + q.done) reply)
read_answer memory c q l at n left copy reply len r e =
    let a = r.piece in
    let f : left ≡ a.first ∷ shared a.others = r.left_is ∙ first_shared memory (q.addr + q.done) (q.size - q.done) false q.ask a in
    let k = first_of memory.segments 0 (q.addr + q.done) (q.size - q.done) a.first a.others a.cut in
    let o = ap shared (others_are memory q.addr q.size q.done len a.first a.others a.cut (e ∙ sym a.size)) in
    ap (λ ps. (answered c.memory (reads at n ps copy) reply).access) f
    ∙ ap (λ j. reads j n (shared a.others) (over copy a.first.at reply)) r.address ∙ ap (λ j. reads q.addr j (shared a.others) (over copy a.first.at reply)) r.length_is
    ∙ ap (λ j. reads q.addr q.size (shared a.others) (over copy j reply)) k.at_is ∙ ap (λ ps. reads q.addr q.size ps (over copy (q.addr + q.done) reply)) (sym o)

-- the machine stands for what comes next
pub resumed_stands : {M : Type 0} {behind : M → Backing} (shape : M → Memory) (m new : Machine M) (code : Module) (grants : List Grant) (given : ℕ) (c : Configuration) (b : Begun) (reply : List ℕ) → StandsFor shape m code grants given (touches c b) → SameRun behind m new → StageStands (shape new.memory) new.thread new.stage (resumed c b reply) → StandsFor shape new code grants given (resumed c b reply)
resumed_stands shape m new code grants given c b reply s same st = record {
  loaded = ap (λ k. option_map (λ r. r.now) k) same.code ∙ s.loaded;
  valid = s.valid;
  imports = s.imports;
  agrees = subst (λ (w : ℕ). Agrees w grants) (sym same.writable) s.agrees;
  given_is = same.given ∙ s.given_is;
  typed = resumed_ok (ground_of code) c b reply s.typed;
  within = resumed_within given c b reply s.within;
  stage = st;
}
