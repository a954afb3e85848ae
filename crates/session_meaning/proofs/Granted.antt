-- What the machine keeps: a mapped segment is of a place of the grants and no longer than the replica, so is each piece
-- of an access, and the fuel is at most what it began with.
use Rattle.std.proofs.Common.{◌≤◌, ◌⊎◌, inl, inr, refl, arith, ◌≡◌, ℕ, zero, suc, ◌+◌, ◌-◌, Bool, true, false, cond, List, [], ◌∷◌, ◌++◌, Option, Some, None, Ok, Err, Result, map, length, slice_get, filter, nat_lt, nat_le, take, drop, min}
use Rattle.std.proofs.lemmas.Bool.{leb-true, leb-false, ltb-true, ltb-false}
use Rattle.std.specs.Prelude.{option_and_then, reverse, ◌*◌, ◌/◌}
use Rattle.faaslet_meaning.specs.declared.grant.Grant.{Grant}
use Rattle.faaslet_meaning.specs.declared.instr.Instr.{Instr}
use Rattle.faaslet_meaning.specs.declared.instr.Instr.TheVariants as instr
use Rattle.faaslet_meaning.specs.declared.module.FuncType.{FuncType}
use Rattle.faaslet_meaning.specs.declared.grant.Mode.TheVariants.{Write}
use Rattle.faaslet_meaning.specs.declared.outcome.Trap.{Trap}
use Rattle.faaslet_meaning.specs.declared.outcome.Trap.TheVariants as trap
use Rattle.faaslet_meaning.specs.Integers.{low, Numeric, test, compare, unary, binary, convert, numeric_of, binary_row}
use Rattle.std.specs.Int.{w32}
use Rattle.faaslet_meaning.specs.Tree.{Tree, stop, plain, block, loop, if_then, if_else, arity_of}
use Rattle.faaslet_meaning.specs.LoadStore.{Load, load_of, load_size, store_of, bytes_of}
use Rattle.faaslet_meaning.specs.Memory.{Home, private, mapped, Segment, Memory, Piece, Access, reads, writes, Written, cut, pieces, shared_pieces, is_private, reading, writing, write_on, answered, with_pages, put, page_size, key_pages, lies_in, may_grow}
use Rattle.faaslet_meaning.specs.HostCalls.{HostCall, Buffer, buffer_of, host_rows, made}
use Rattle.faaslet_meaning.specs.Configuration.{type_of, values_held, labels_held, Func, hosted, defined, Program, Label, Frame, Configuration, Begun, load, store, Next, goes, ends, touches, calls, stuck}
use Rattle.faaslet_meaning.specs.Limits.{value_limit, label_limit, has_room, traps, with_values, push, enter}
use Rattle.faaslet_meaning.specs.ControlRules.{choose, results_to, leave_frame, leave, branch_to, branch, br, host_by, host_made, host_call, buffer_limit, same_type, call, call_typed, call_element, call_indirect}
use Rattle.faaslet_meaning.specs.MemoryRules.{load_on, store_on, stored, load_at, store_at, begin_load, begin_store, resumed, all_granted}
use Rattle.faaslet_meaning.specs.Step.{push_some, gives, numeric, plain_step, with_rest, if_step, begin, paid, step_at, step, finished}

-- ---- Places of the grants.

-- what a machine has been given
pub record Given : Type 0 where
  pub grants : List Grant
  pub fuel : ℕ

abbrev pub Place : Given → ℕ → Type 0
Place j k = (g : Grant) × (slice_get j.grants k ≡ Some g)

-- the replica at a place of the grants has so many bytes
abbrev pub Holds : Given → ℕ → ℕ → Type 0
Holds j k n = (g : Grant) × (slice_get j.grants k ≡ Some g) × (n ≤ key_pages g.size * page_size)

abbrev pub HomeOk : Given → Home → ℕ → Type 0
HomeOk j private n = Unit {0}
HomeOk j (mapped k) n = Holds j k n

abbrev pub SegmentsOk : Given → List Segment → Type 0
SegmentsOk j [] = Unit {0}
SegmentsOk j (s ∷ ss) = HomeOk j s.home (s.pages * page_size) × SegmentsOk j ss

abbrev pub PiecesOk : Given → List Piece → Type 0
PiecesOk j [] = Unit {0}
PiecesOk j (p ∷ ps) = HomeOk j p.home (p.off + p.size) × PiecesOk j ps

abbrev pub MemoryOk : Given → Memory → Type 0
MemoryOk j m = SegmentsOk j m.segments

abbrev pub AccessOk : Given → Access → Type 0
AccessOk j (reads at n left copy) = PiecesOk j left
AccessOk j (writes left bytes) = PiecesOk j left

abbrev pub WrittenOk : Given → Written → Type 0
WrittenOk j w = MemoryOk j w.memory × AccessOk j w.access

abbrev pub BegunOk : Given → Begun → Type 0
BegunOk j (load l a) = AccessOk j a
BegunOk j (store a) = AccessOk j a

abbrev pub ConfigOk : Given → Configuration → Type 0
ConfigOk j c = MemoryOk j c.memory × (c.fuel ≤ j.fuel)

abbrev pub NextIs : Given → Next → Type 0
NextIs j (goes c) = ConfigOk j c
NextIs j (ends c o) = ConfigOk j c
NextIs j (touches c b) = ConfigOk j c × BegunOk j b
NextIs j (calls c h) = ConfigOk j c
NextIs j stuck = Unit {0}

-- a record, so that what it is of is found by antt
pub record NextOk (j : Given) (n : Next) : Type 0 where
  pub is : NextIs j n

on : {j : Given} {n : Next} → NextIs j n → NextOk j n
on h = record { is = h }

less_ok : (j : Given) (h : Home) (m n : ℕ) → m ≤ n → HomeOk j h n → HomeOk j h m
less_ok j private m n e h = tt
less_ok j (mapped k) m n e h = (h.0, h.1, let l = h.2 in omega (arith, e, l))

-- a range begins in the segments that are left, or is through
abbrev Reached : ℕ → ℕ → ℕ → Type 0
Reached base at n = (base ≤ at) ⊎ (n ≡ 0)

goes_past : (next at n : ℕ) → Reached next (at + min n (next - at)) (n - min n (next - at))
goes_past next at n = by (nat_le n (next - at)) refl
  where
    by : (b : Bool) → nat_le n (next - at) ≡ b → Reached next (at + min n (next - at)) (n - min n (next - at))
    by true e = let l = leb-true n (next - at) e in inr (omega (arith, l))
    by false e = let l = leb-false n (next - at) e in inl (omega (arith, l))

goes_by : (next at n : ℕ) → nat_lt 0 (min n (next - at)) ≡ false → Reached next at n
goes_by next at n e = by (nat_le next at) refl
  where
    l : min n (next - at) ≤ 0
    l = ltb-false 0 (min n (next - at)) e

    by : (b : Bool) → nat_le next at ≡ b → Reached next at n
    by true f = inl (leb-true next at f)
    by false f = let m = leb-false next at f in inr (omega (arith, l, m))

piece_fits : (base at n size : ℕ) → Reached base at n → nat_lt 0 (min n (base + size - at)) ≡ true → (at - base) + min n (base + size - at) ≤ size
piece_fits base at n size (inl l) e = let m = ltb-true 0 (min n (base + size - at)) e in omega (arith, l, m)
piece_fits base at n size (inr z) e = let l = ltb-true 0 (min n (base + size - at)) e in let no : ⊥ = omega (arith, l, z) in absurd no

cut_ok : (j : Given) (ss : List Segment) (base at n : ℕ) → Reached base at n → SegmentsOk j ss → PiecesOk j (cut ss base at n)
cut_ok j [] base at n r h = tt
cut_ok j (s ∷ ss) base at n r h = by (nat_lt 0 (min n (base + s.pages * page_size - at))) refl (λ a m k. cut_ok j ss (base + s.pages * page_size) a m k h.1)
  where
    by : (b : Bool) → nat_lt 0 (min n (base + s.pages * page_size - at)) ≡ b → ((a m : ℕ) → Reached (base + s.pages * page_size) a m → PiecesOk j (cut ss (base + s.pages * page_size) a m)) → PiecesOk j (cond b (record { home = s.home; off = at - base; at = at; size = min n (base + s.pages * page_size - at) } ∷ cut ss (base + s.pages * page_size) (at + min n (base + s.pages * page_size - at)) (n - min n (base + s.pages * page_size - at))) (cut ss (base + s.pages * page_size) at n))
    by true e rest = (less_ok j s.home _ (s.pages * page_size) (piece_fits base at n (s.pages * page_size) r e) h.0, rest _ _ (goes_past (base + s.pages * page_size) at n))
    by false e rest = rest _ _ (goes_by (base + s.pages * page_size) at n e)

filter_ok : (j : Given) (passes : Piece → Bool) (ps : List Piece) → PiecesOk j ps → PiecesOk j (filter passes ps)
filter_ok j passes [] h = tt
filter_ok j passes (p ∷ ps) h = by (passes p) (filter_ok j passes ps h.1)
  where
    by : (b : Bool) → PiecesOk j (filter passes ps) → PiecesOk j (cond b (p ∷ filter passes ps) (filter passes ps))
    by true x = (h.0, x)
    by false x = x

write_on_ok : (j : Given) (ps : List Piece) (m : Memory) (bytes : List ℕ) → PiecesOk j ps → MemoryOk j m → WrittenOk j (write_on ps m bytes)
write_on_ok j [] m bytes h k = (k, tt)
write_on_ok j (p ∷ ps) m bytes h k = by p.home (write_on_ok j ps (put m p.at (take p.size bytes)) (drop p.size bytes) h.1 k)
  where
    by : (x : Home) → WrittenOk j (write_on ps (put m p.at (take p.size bytes)) (drop p.size bytes)) → WrittenOk j (elim x [ private ↦ write_on ps (put m p.at (take p.size bytes)) (drop p.size bytes) | mapped k ↦ record { memory = m; access = writes (p ∷ ps) bytes } ])
    by private w = w
    by (mapped i) w = (k, h)

pub reading_ok : (j : Given) (m : Memory) (at n : ℕ) → MemoryOk j m → AccessOk j (reading m at n)
reading_ok j m at n h = filter_ok j _ (pieces m at n) (cut_ok j m.segments 0 at n (inl (omega arith)) h)

pub writing_ok : (j : Given) (m : Memory) (at : ℕ) (bytes : List ℕ) → MemoryOk j m → WrittenOk j (writing m at bytes)
writing_ok j m at bytes h = write_on_ok j (pieces m at (length bytes)) m bytes (cut_ok j m.segments 0 at (length bytes) (inl (omega arith)) h) h

pub answered_ok : (j : Given) (m : Memory) (a : Access) (bytes : List ℕ) → MemoryOk j m → AccessOk j a → WrittenOk j (answered m a bytes)
answered_ok j m (reads at n [] copy) bytes h k = (h, tt)
answered_ok j m (reads at n (p ∷ ps) copy) bytes h k = (h, k.1)
answered_ok j m (writes [] left) bytes h k = (h, tt)
answered_ok j m (writes (p ∷ ps) left) bytes h k = write_on_ok j ps m (drop p.size left) k.1 h

pages_ok : (j : Given) (ss : List Segment) (n : ℕ) → SegmentsOk j ss → SegmentsOk j (with_pages ss n)
pages_ok j [] n h = (tt, tt)
pages_ok j (s ∷ []) n h = by s.home h.0
  where
    by : (x : Home) → HomeOk j x (s.pages * page_size) → SegmentsOk j (cond (is_private x) (record { home = x; pages = s.pages + n } ∷ []) (record { home = x; pages = s.pages } ∷ record { home = private; pages = n } ∷ []))
    by private k = (tt, tt)
    by (mapped i) k = (k, (tt, tt))
pages_ok j (s ∷ t ∷ ss) n h = (h.0, pages_ok j (t ∷ ss) n h.1)

pub more_ok : (j : Given) (ss : List Segment) (s : Segment) → SegmentsOk j ss → HomeOk j s.home (s.pages * page_size) → SegmentsOk j (ss ++ s ∷ [])
more_ok j [] s h k = (k, tt)
more_ok j (x ∷ ss) s h k = (h.0, more_ok j ss s h.1 k)

-- ---- One step of the machine.

if_ok : (j : Given) (b : Bool) (x y : Next) → NextOk j x → NextOk j y → NextOk j (cond b x y)
if_ok j true x y h k = h
if_ok j false x y h k = k

choose_ok : (j : Given) (x : ℕ) (a b : Next) → NextOk j a → NextOk j b → NextOk j (choose x a b)
choose_ok j x a b h k = by (low w32 x)
  where
    by : (n : ℕ) → NextOk j (elim n [ zero ↦ b | suc m ↦ a ])
    by zero = k
    by (suc n) = h

push_ok : (j : Given) (c : Configuration) (v : ℕ) → ConfigOk j c → NextOk j (push c v)
push_ok j c v h = if_ok j (nat_lt (values_held c) value_limit) _ _ (on h) (on h)

push_some_ok : (j : Given) (c : Configuration) (o : Option ℕ) → ConfigOk j c → NextOk j (push_some c o)
push_some_ok j c None h = on tt
push_some_ok j c (Some v) h = push_ok j c v h

gives_ok : (j : Given) (c : Configuration) (vs : List ℕ) (r : Result ℕ Trap) → ConfigOk j c → NextOk j (gives c vs r)
gives_ok j c vs (Ok v) h = on h
gives_ok j c vs (Err t) h = on h

numeric_ok : (j : Given) (c : Configuration) (o : Option Numeric) (vs : List ℕ) → ConfigOk j c → NextOk j (numeric c o vs)
numeric_ok j c (Some (binary f w)) (y ∷ x ∷ vs) h = gives_ok j c vs (binary_row f w x y) h
numeric_ok j c (Some (test w)) (x ∷ vs) h = on h
numeric_ok j c (Some (compare f w)) (y ∷ x ∷ vs) h = on h
numeric_ok j c (Some (unary f w)) (x ∷ vs) h = on h
numeric_ok j c (Some (convert f)) (x ∷ vs) h = on h
numeric_ok j c o vs h = on tt

results_ok : (j : Given) (c : Configuration) (vs : List ℕ) (fs : List Frame) → ConfigOk j c → NextOk j (results_to c vs fs)
results_ok j c vs [] h = on h
results_ok j c vs (f ∷ fs) h = on h

leave_frame_ok : (j : Given) (c : Configuration) → ConfigOk j c → NextOk j (leave_frame c)
leave_frame_ok j c h = if_ok j (nat_le c.frame.arity (length c.frame.values)) _ stuck (results_ok j c (take c.frame.arity c.frame.values) c.callers h) (on tt)

leave_ok : (j : Given) (c : Configuration) (ls : List Label) → ConfigOk j c → NextOk j (leave c ls)
leave_ok j c [] h = leave_frame_ok j c h
leave_ok j c (l ∷ ls) h = on h

branch_to_ok : (j : Given) (c : Configuration) (l : Label) (o : Option Tree) (ls : List Label) → ConfigOk j c → NextOk j (branch_to c l o ls)
branch_to_ok j c l None ls h = on h
branch_to_ok j c l (Some body) ls h = on h

branch_ok : (j : Given) (c : Configuration) (n : ℕ) (ls : List Label) → ConfigOk j c → NextOk j (branch c n ls)
branch_ok j c zero (l ∷ ls) h = if_ok j (nat_le l.arity (length c.frame.values)) _ stuck (branch_to_ok j c l l.again ls h) (on tt)
branch_ok j c zero [] h = leave_frame_ok j c h
branch_ok j c (suc n) (l ∷ ls) h = branch_ok j c n ls h
branch_ok j c (suc n) [] h = on tt

host_by_ok : (j : Given) (c : Configuration) (x : HostCall) (b : Option Buffer) → ConfigOk j c → NextOk j (host_by c x b)
host_by_ok j c x None h = on h
host_by_ok j c x (Some b) h = if_ok j (nat_le b.len buffer_limit) _ _ (if_ok j (nat_le (b.len / 64) c.fuel) _ _ (on (h.0, let l = h.1 in omega (arith, l))) (on h)) (on h)

host_made_ok : (j : Given) (c : Configuration) (o : Option HostCall) → ConfigOk j c → NextOk j (host_made c o)
host_made_ok j c None h = on tt
host_made_ok j c (Some x) h = host_by_ok j c x (buffer_of x) h

host_call_ok : (j : Given) (c : Configuration) (number : ℕ) (args : List ℕ) → ConfigOk j c → NextOk j (host_call c number args)
host_call_ok j c number args h = host_made_ok j c (option_and_then (λ r. made r.form (reverse (map (low w32) args))) (slice_get host_rows number)) h

enters_ok : (j : Given) (c : Configuration) (f : Func) → ConfigOk j c → NextOk j (call c f)
enters_ok j c (hosted n t) h = if_ok j (nat_le (length t.params) (length c.frame.values)) (host_call (with_values c (drop (length t.params) c.frame.values)) n (take (length t.params) c.frame.values)) stuck (host_call_ok j (with_values c (drop (length t.params) c.frame.values)) n (take (length t.params) c.frame.values) h) (on tt)
enters_ok j c (defined t locals body) h = if_ok j (nat_le (length t.params) (length c.frame.values)) _ stuck (if_ok j (has_room c locals) _ _ (on h) (on h)) (on tt)

abbrev found : (Func → Next) → Option Func → Next
found go o = elim o [ None ↦ stuck | Some g ↦ go g ]

found_ok : (j : Given) (go : Func → Next) (o : Option Func) → ((g : Func) → NextOk j (go g)) → NextOk j (found go o)
found_ok j go None h = on tt
found_ok j go (Some g) h = h g

element_ok : (j : Given) (p : Program) (c : Configuration) (t : FuncType) (o : Option (Option ℕ)) → ConfigOk j c → NextOk j (call_element p c t o)
element_ok j p c t None h = on h
element_ok j p c t (Some None) h = on h
element_ok j p c t (Some (Some f)) h = found_ok j (call_typed c t) (slice_get p.functions f) (λ g. if_ok j (same_type (type_of g) t) (call c g) _ (enters_ok j c g h) (on h))

indirect_ok : (j : Given) (p : Program) (c : Configuration) (t x : ℕ) → ConfigOk j c → NextOk j (call_indirect p c t x)
indirect_ok j p c t x h = by (slice_get p.types t)
  where
    by : (o : Option FuncType) → NextOk j (elim o [ None ↦ stuck | Some type ↦ call_element p c type (slice_get c.table (low w32 x)) ])
    by None = on tt
    by (Some type) = element_ok j p c type (slice_get c.table (low w32 x)) h

pub load_on_ok : (j : Given) (c : Configuration) (l : Load) (a : Access) → ConfigOk j c → AccessOk j a → NextOk j (load_on c l a)
load_on_ok j c l (reads at n [] copy) h k = on h
load_on_ok j c l (reads at n (p ∷ ps) copy) h k = on (h, k)
load_on_ok j c l (writes left bytes) h k = on tt

store_on_ok : (j : Given) (c : Configuration) (a : Access) → ConfigOk j c → AccessOk j a → NextOk j (store_on c a)
store_on_ok j c (writes [] bytes) h k = on h
store_on_ok j c (writes (p ∷ ps) bytes) h k = on (h, k)
store_on_ok j c (reads at n left copy) h k = on tt

stored_ok : (j : Given) (c : Configuration) (w : Written) → c.fuel ≤ j.fuel → WrittenOk j w → NextOk j (stored c w)
stored_ok j c w l h = store_on_ok j (record c { memory = w.memory }) w.access (h.0, l) h.1

begin_load_ok : (j : Given) (c : Configuration) (op offset : ℕ) (vs : List ℕ) → ConfigOk j c → NextOk j (begin_load c op offset vs)
begin_load_ok j c op offset [] h = on tt
begin_load_ok j c op offset (x ∷ vs) h = by (load_of op)
  where
    by : (o : Option Load) → NextOk j (elim o [ None ↦ stuck | Some l ↦ load_at c l (low w32 x + offset) ])
    by None = on tt
    by (Some l) = if_ok j (lies_in c.memory (low w32 x + offset) (load_size l)) (load_on c l (reading c.memory (low w32 x + offset) (load_size l))) (traps c trap.OutOfBounds) (load_on_ok j c l (reading c.memory (low w32 x + offset) (load_size l)) h (reading_ok j c.memory (low w32 x + offset) (load_size l) h.0)) (on h)

begin_store_ok : (j : Given) (p : Program) (c : Configuration) (op offset : ℕ) (vs : List ℕ) → ConfigOk j c → NextOk j (begin_store p c op offset vs)
begin_store_ok j p c op offset [] h = on tt
begin_store_ok j p c op offset (v ∷ []) h = on tt
begin_store_ok j p c op offset (v ∷ x ∷ vs) h = by (store_of op)
  where
    by : (o : Option ℕ) → NextOk j (elim o [ None ↦ stuck | Some n ↦ store_at p c (low w32 x + offset) (bytes_of n v) ])
    by None = on tt
    by (Some n) = if_ok j (lies_in c.memory (low w32 x + offset) (length (bytes_of n v))) (cond (all_granted p.grants Write (shared_pieces c.memory (low w32 x + offset) (length (bytes_of n v)))) (stored c (writing c.memory (low w32 x + offset) (bytes_of n v))) (traps c trap.Denied)) (traps c trap.OutOfBounds) (if_ok j (all_granted p.grants Write (shared_pieces c.memory (low w32 x + offset) (length (bytes_of n v)))) (stored c (writing c.memory (low w32 x + offset) (bytes_of n v))) (traps c trap.Denied) (stored_ok j c (writing c.memory (low w32 x + offset) (bytes_of n v)) h.1 (writing_ok j c.memory (low w32 x + offset) (bytes_of n v) h.0)) (on h)) (on h)

plain_step_ok : (j : Given) (p : Program) (c : Configuration) (i : Instr) (vs : List ℕ) → ConfigOk j c → NextOk j (plain_step p c i vs)
plain_step_ok j p c instr.Unreachable vs h = on h
plain_step_ok j p c instr.Nop vs h = on h
plain_step_ok j p c (instr.Br n) vs h = branch_ok j c n c.frame.labels h
plain_step_ok j p c (instr.BrIf n) (x ∷ vs) h = choose_ok j x (br (with_values c vs) n) (goes (with_values c vs)) (branch_ok j (with_values c vs) n c.frame.labels h) (on h)
plain_step_ok j p c (instr.BrTable ls n) (x ∷ vs) h = branch_ok j (with_values c vs) _ c.frame.labels h
plain_step_ok j p c instr.Return vs h = leave_frame_ok j c h
plain_step_ok j p c (instr.Call f) vs h = found_ok j (call c) (slice_get p.functions f) (λ g. enters_ok j c g h)
plain_step_ok j p c (instr.CallIndirect t) (x ∷ vs) h = indirect_ok j p (with_values c vs) t x h
plain_step_ok j p c instr.Drop (v ∷ vs) h = on h
plain_step_ok j p c instr.Select (x ∷ b ∷ a ∷ vs) h = choose_ok j x (goes (with_values c (a ∷ vs))) (goes (with_values c (b ∷ vs))) (on h) (on h)
plain_step_ok j p c (instr.LocalGet k) vs h = push_some_ok j c (slice_get c.frame.locals k) h
plain_step_ok j p c (instr.LocalSet k) (v ∷ vs) h = if_ok j (nat_lt k (length c.frame.locals)) _ stuck (on h) (on tt)
plain_step_ok j p c (instr.LocalTee k) (v ∷ vs) h = if_ok j (nat_lt k (length c.frame.locals)) _ stuck (on h) (on tt)
plain_step_ok j p c (instr.GlobalGet k) vs h = push_some_ok j c (slice_get c.globals k) h
plain_step_ok j p c (instr.GlobalSet k) (v ∷ vs) h = if_ok j (nat_lt k (length c.globals)) _ stuck (on h) (on tt)
plain_step_ok j p c (instr.Load op align offset) vs h = begin_load_ok j c op offset vs h
plain_step_ok j p c (instr.Store op align offset) vs h = begin_store_ok j p c op offset vs h
plain_step_ok j p c instr.MemorySize vs h = push_ok j c _ h
plain_step_ok j p c instr.MemoryGrow (x ∷ vs) h = if_ok j (may_grow c.memory (low w32 x) p.most_pages) _ _ (on (pages_ok j c.memory.segments (low w32 x) h.0, h.1)) (on h)
plain_step_ok j p c (instr.I32Const n) vs h = push_ok j c _ h
plain_step_ok j p c (instr.I64Const n) vs h = push_ok j c _ h
plain_step_ok j p c (instr.Num op) vs h = numeric_ok j c (numeric_of op) vs h
plain_step_ok j p c i vs h = on tt

enter_ok : (j : Given) (c : Configuration) (n : ℕ) (again : Option Tree) (body : Tree) → ConfigOk j c → NextOk j (enter c n again body)
enter_ok j c n again body h = if_ok j (nat_lt (labels_held c) label_limit) _ _ (on h) (on h)

if_step_ok : (j : Given) (c : Configuration) (n : ℕ) (a b : Tree) (vs : List ℕ) → ConfigOk j c → NextOk j (if_step c n a b vs)
if_step_ok j c n a b [] h = on tt
if_step_ok j c n a b (x ∷ vs) h = choose_ok j x (enter (with_values c vs) n None a) (enter (with_values c vs) n None b) (enter_ok j (with_values c vs) n None a h) (enter_ok j (with_values c vs) n None b h)

begin_ok : (j : Given) (p : Program) (c : Configuration) (e : Tree) → ConfigOk j c → NextOk j (begin p c e)
begin_ok j p c stop h = leave_ok j c c.frame.labels h
begin_ok j p c (plain i e) h = plain_step_ok j p (with_rest c e) i c.frame.values h
begin_ok j p c (block t b e) h = enter_ok j (with_rest c e) (arity_of t) None b h
begin_ok j p c (loop t b e) h = enter_ok j (with_rest c e) 0 (Some b) b h
begin_ok j p c (if_then t b e) h = if_step_ok j (with_rest c e) (arity_of t) b stop c.frame.values h
begin_ok j p c (if_else t b d e) h = if_step_ok j (with_rest c e) (arity_of t) b d c.frame.values h

paid_ok : (j : Given) (p : Program) (c : Configuration) (n : ℕ) (e : Tree) → n ≤ j.fuel → ConfigOk j c → NextOk j (paid c n (λ d. begin p d e))
paid_ok j p c zero e l h = on h
paid_ok j p c (suc n) e l h = begin_ok j p (record c { fuel = n }) e (h.0, omega (arith, l))

step_at_ok : (j : Given) (p : Program) (c : Configuration) (e : Tree) → ConfigOk j c → NextOk j (step_at p c e)
step_at_ok j p c stop h = leave_ok j c c.frame.labels h
step_at_ok j p c e h = paid_ok j p c c.fuel e h.1 h

pub step_ok : (j : Given) (p : Program) (c : Configuration) → ConfigOk j c → NextOk j (step p c)
step_ok j p c h = step_at_ok j p c c.frame.rest h

pub resumed_ok : (j : Given) (c : Configuration) (b : Begun) (bytes : List ℕ) → ConfigOk j c → BegunOk j b → NextOk j (resumed c b bytes)
resumed_ok j c (load l a) bytes h k = load_on_ok j c l _ h (answered_ok j c.memory a bytes h.0 k).1
resumed_ok j c (store a) bytes h k = stored_ok j c _ h.1 (answered_ok j c.memory a bytes h.0 k)

pub finished_ok : (j : Given) (c : Configuration) (r : Result (Option ℕ) Trap) → ConfigOk j c → NextOk j (finished c r)
finished_ok j c (Ok None) h = on h
finished_ok j c (Ok (Some v)) h = push_ok j c v h
finished_ok j c (Err t) h = on h
