-- A machine stands at a shared piece of a store only where its place was granted Write: a store begins once all its shared pieces were.
use Rattle.std.proofs.Common.{◌≡◌, ℕ, zero, suc, ◌+◌, ◌-◌, ◌*◌, ◌/◌, ◌≤◌, Bool, true, false, cond, not, List, [], ◌∷◌, Option, Some, None, Ok, Err, Result, refl, sym, subst, length, slice_get, filter, nat_lt, nat_le, take, drop, min, map, arith}
use Rattle.std.proofs.lemmas.Bool.{ltb-true, ltb-false, leb-true, leb-false}
use Rattle.std.specs.Prelude.{option_and_then, reverse}
use Rattle.std.specs.Int.{w32}
use Rattle.faaslet_meaning.specs.declared.grant.Grant.{Grant}
use Rattle.faaslet_meaning.specs.declared.grant.Mode.TheVariants.{Write}
use Rattle.faaslet_meaning.specs.declared.instr.Instr.{Instr}
use Rattle.faaslet_meaning.specs.declared.instr.Instr.TheVariants as instr
use Rattle.faaslet_meaning.specs.declared.module.FuncType.{FuncType}
use Rattle.faaslet_meaning.specs.declared.outcome.Outcome.TheVariants as outcome
use Rattle.faaslet_meaning.specs.declared.outcome.Trap.{Trap}
use Rattle.faaslet_meaning.specs.declared.outcome.Trap.TheVariants as trap
use Rattle.faaslet_meaning.specs.Integers.{low, Numeric, test, compare, unary, binary, convert, numeric_of, binary_row}
use Rattle.faaslet_meaning.specs.LoadStore.{Load, load_of, load_size, store_of, bytes_of}
use Rattle.faaslet_meaning.specs.Memory.{Home, private, mapped, Segment, Memory, Piece, Access, reads, writes, Written, cut, pieces, shared_pieces, is_private, reading, writing, write_on, answered, put, page_size, lies_in, may_grow}
use Rattle.faaslet_meaning.specs.HostCalls.{HostCall, Buffer, buffer_of, host_rows, made}
use Rattle.faaslet_meaning.specs.Configuration.{type_of, values_held, labels_held, Func, hosted, defined, Program, Label, Frame, Configuration, Begun, load, store, Next, goes, ends, touches, calls, stuck}
use Rattle.faaslet_meaning.specs.Limits.{value_limit, label_limit, has_room, traps, with_values, push, enter}
use Rattle.faaslet_meaning.specs.ControlRules.{choose, results_to, leave_frame, leave, branch_to, branch, br, host_by, host_made, host_call, buffer_limit, same_type, call, call_typed, call_element, call_indirect}
use Rattle.faaslet_meaning.specs.MemoryRules.{load_on, store_on, stored, load_at, begin_load, begin_store, store_at, resumed, includes, granted, may_touch, all_granted}
use Rattle.faaslet_meaning.specs.Step.{push_some, gives, numeric, plain_step, with_rest, if_step, begin, paid, step_at, step, finished}
use Rattle.faaslet_meaning.specs.Tree.{Tree, stop, plain, block, loop, if_then, if_else, arity_of}

module _ (gs : List Grant) where
  -- ---- Pieces that may be written.

  abbrev pub MayWrite : ℕ → Type 0
  MayWrite k = (g : Grant) × (slice_get gs k ≡ Some g) × (includes g.mode Write ≡ true)

  abbrev pub HomeMay : Home → Type 0
  HomeMay private = Unit {0}
  HomeMay (mapped k) = MayWrite k

  abbrev pub PiecesMay : List Piece → Type 0
  PiecesMay [] = Unit {0}
  PiecesMay (p ∷ ps) = HomeMay p.home × PiecesMay ps

  abbrev pub AccessMay : Access → Type 0
  AccessMay (reads at n left copy) = Unit {0}
  AccessMay (writes left bytes) = PiecesMay left

  abbrev pub BegunMay : Begun → Type 0
  BegunMay (load l a) = AccessMay a
  BegunMay (store a) = AccessMay a

  pub may_write : (k : ℕ) (o : Option Grant) → slice_get gs k ≡ o → granted Write o ≡ true → MayWrite k
  may_write k None e h = let no : ⊥ = cc in absurd no
  may_write k (Some g) e h = (g, e, h)

  pub pieces_may : (ps : List Piece) → all_granted gs Write (filter (λ p. not (is_private p.home)) ps) ≡ true → PiecesMay ps
  pieces_may [] h = tt
  pieces_may (p ∷ ps) h = let both = by p.home refl h in (both.0, pieces_may ps both.1)
    where
      split : (k : ℕ) (b : Bool) → granted Write (slice_get gs k) ≡ b → cond b (all_granted gs Write (filter (λ p. not (is_private p.home)) ps)) false ≡ true → MayWrite k × (all_granted gs Write (filter (λ p. not (is_private p.home)) ps) ≡ true)
      split k true e h = (may_write k (slice_get gs k) refl e, h)
      split k false e h = let no : ⊥ = cc in absurd no

      by : (x : Home) → p.home ≡ x → all_granted gs Write (cond (not (is_private x)) (p ∷ filter (λ p. not (is_private p.home)) ps) (filter (λ p. not (is_private p.home)) ps)) ≡ true → HomeMay x × (all_granted gs Write (filter (λ p. not (is_private p.home)) ps) ≡ true)
      by private e h = (tt, h)
      by (mapped k) e h = split k (granted Write (slice_get gs k)) refl (subst (λ x. cond (may_touch gs Write x) (all_granted gs Write (filter (λ p. not (is_private p.home)) ps)) false ≡ true) e h)

  -- a shorter range lies in the same pieces
  none_may : (ss : List Segment) (base at : ℕ) → PiecesMay (cut ss base at 0)
  none_may [] base at = tt
  none_may (s ∷ ss) base at = by (nat_lt 0 (min 0 (base + s.pages * page_size - at))) refl (none_may ss (base + s.pages * page_size) at)
    where
      by : (b : Bool) → nat_lt 0 (min 0 (base + s.pages * page_size - at)) ≡ b → PiecesMay (cut ss (base + s.pages * page_size) at 0) → PiecesMay (cond b (record { home = s.home; off = at - base; at = at; size = min 0 (base + s.pages * page_size - at) } ∷ cut ss (base + s.pages * page_size) (at + min 0 (base + s.pages * page_size - at)) (0 - min 0 (base + s.pages * page_size - at))) (cut ss (base + s.pages * page_size) at 0))
      by true e rest = let l = ltb-true 0 (min 0 (base + s.pages * page_size - at)) e in let no : ⊥ = omega (arith, l) in absurd no
      by false e rest = rest

  less_may : (ss : List Segment) (base at m n : ℕ) → m ≤ n → PiecesMay (cut ss base at n) → PiecesMay (cut ss base at m)
  less_may [] base at m n l h = tt
  less_may (s ∷ ss) base at m n l h = by (base + s.pages * page_size) (nat_lt 0 (min m (base + s.pages * page_size - at))) (nat_lt 0 (min n (base + s.pages * page_size - at))) refl refl h (λ a k i j g. less_may ss (base + s.pages * page_size) a k i j g)
    where
      by : (next : ℕ) (b c : Bool) → nat_lt 0 (min m (next - at)) ≡ b → nat_lt 0 (min n (next - at)) ≡ c
          → PiecesMay (cond c (record { home = s.home; off = at - base; at = at; size = min n (next - at) } ∷ cut ss next (at + min n (next - at)) (n - min n (next - at))) (cut ss next at n))
          → ((a k i : ℕ) → k ≤ i → PiecesMay (cut ss next a i) → PiecesMay (cut ss next a k))
          → PiecesMay (cond b (record { home = s.home; off = at - base; at = at; size = min m (next - at) } ∷ cut ss next (at + min m (next - at)) (m - min m (next - at))) (cut ss next at m))
      by next false false e f h go = go at m n l h
      by next false true e f h go =
          let small = ltb-false 0 (min m (next - at)) e in
          let big = ltb-true 0 (min n (next - at)) f in
          let z : m ≡ 0 = omega (arith, small, big) in
          subst (λ m. PiecesMay (cut ss next at m)) (sym z) (none_may ss next at)
      by next true false e f h go =
          let big = ltb-true 0 (min m (next - at)) e in
          let small = ltb-false 0 (min n (next - at)) f in
          let no : ⊥ = omega (arith, small, big, l) in absurd no
      by next true true e f h go = (h.0, rest (nat_le m (next - at)) refl)
        where
          rest : (b : Bool) → nat_le m (next - at) ≡ b → PiecesMay (cut ss next (at + min m (next - at)) (m - min m (next - at)))
          rest true k =
              let within = leb-true m (next - at) k in
              let z : m - min m (next - at) ≡ 0 = omega (arith, within) in
              subst (λ r. PiecesMay (cut ss next (at + min m (next - at)) r)) (sym z) (none_may ss next _)
          rest false k =
              let past = leb-false m (next - at) k in
              let same : min m (next - at) ≡ min n (next - at) = omega (arith, past, l) in
              subst (λ r. PiecesMay (cut ss next (at + r) (m - r))) (sym same) (go (at + min n (next - at)) (m - min n (next - at)) (n - min n (next - at)) (omega (arith, l)) h.1)

  pub prefix_may : (m : Memory) (at few many : ℕ) → few ≤ many → PiecesMay (pieces m at many) → PiecesMay (pieces m at few)
  prefix_may m at few many l h = less_may m.segments 0 at few many l h

  pub write_on_may : (ps : List Piece) (m : Memory) (bytes : List ℕ) → PiecesMay ps → AccessMay (write_on ps m bytes).access
  write_on_may [] m bytes h = tt
  write_on_may (p ∷ ps) m bytes h = by p.home h.0 (write_on_may ps (put m p.at (take p.size bytes)) (drop p.size bytes) h.1)
    where
      by : (x : Home) → HomeMay p.home → AccessMay (write_on ps (put m p.at (take p.size bytes)) (drop p.size bytes)).access → AccessMay (elim x as (λ x. Written) [ private ↦ write_on ps (put m p.at (take p.size bytes)) (drop p.size bytes) | mapped k ↦ record { memory = m; access = writes (p ∷ ps) bytes } ]).access
      by private k w = w
      by (mapped i) k w = (k, h.1)

  pub answered_may : (m : Memory) (a : Access) (bytes : List ℕ) → AccessMay a → AccessMay (answered m a bytes).access
  answered_may m (reads at n [] copy) bytes h = tt
  answered_may m (reads at n (p ∷ ps) copy) bytes h = tt
  answered_may m (writes [] left) bytes h = tt
  answered_may m (writes (p ∷ ps) left) bytes h = write_on_may ps m (drop p.size left) h.1

  -- ---- One step of the machine.

  abbrev pub NextMay : Next → Type 0
  NextMay (touches c b) = BegunMay b
  NextMay n = Unit {0}

  either : (b : Bool) (x y : Next) → NextMay x → NextMay y → NextMay (cond b x y)
  either true x y h k = h
  either false x y h k = k

  chosen : (x : ℕ) (a b : Next) → NextMay a → NextMay b → NextMay (choose x a b)
  chosen x a b h k = by (low w32 x)
    where
      by : (n : ℕ) → NextMay (elim n [ zero ↦ b | suc m ↦ a ])
      by zero = k
      by (suc n) = h

  push_may : (c : Configuration) (v : ℕ) → NextMay (push c v)
  push_may c v = either (nat_lt (values_held c) value_limit) _ _ tt tt

  some_may : (c : Configuration) (o : Option ℕ) → NextMay (push_some c o)
  some_may c None = tt
  some_may c (Some v) = push_may c v

  gives_may : (c : Configuration) (vs : List ℕ) (r : Result ℕ Trap) → NextMay (gives c vs r)
  gives_may c vs (Ok v) = tt
  gives_may c vs (Err t) = tt

  numeric_may : (c : Configuration) (o : Option Numeric) (vs : List ℕ) → NextMay (numeric c o vs)
  numeric_may c (Some (binary f w)) (y ∷ x ∷ vs) = gives_may c vs (binary_row f w x y)
  numeric_may c (Some (test w)) (x ∷ vs) = tt
  numeric_may c (Some (compare f w)) (y ∷ x ∷ vs) = tt
  numeric_may c (Some (unary f w)) (x ∷ vs) = tt
  numeric_may c (Some (convert f)) (x ∷ vs) = tt
  numeric_may c o vs = tt

  results_may : (c : Configuration) (vs : List ℕ) (fs : List Frame) → NextMay (results_to c vs fs)
  results_may c vs [] = tt
  results_may c vs (f ∷ fs) = tt

  frame_may : (c : Configuration) → NextMay (leave_frame c)
  frame_may c = either (nat_le c.frame.arity (length c.frame.values)) _ stuck (results_may c (take c.frame.arity c.frame.values) c.callers) tt

  leave_may : (c : Configuration) (ls : List Label) → NextMay (leave c ls)
  leave_may c [] = frame_may c
  leave_may c (l ∷ ls) = tt

  to_may : (c : Configuration) (l : Label) (o : Option Tree) (ls : List Label) → NextMay (branch_to c l o ls)
  to_may c l None ls = tt
  to_may c l (Some body) ls = tt

  branch_may : (c : Configuration) (n : ℕ) (ls : List Label) → NextMay (branch c n ls)
  branch_may c zero (l ∷ ls) = either (nat_le l.arity (length c.frame.values)) _ stuck (to_may c l l.again ls) tt
  branch_may c zero [] = frame_may c
  branch_may c (suc n) (l ∷ ls) = branch_may c n ls
  branch_may c (suc n) [] = tt

  host_may : (c : Configuration) (x : HostCall) (b : Option Buffer) → NextMay (host_by c x b)
  host_may c x None = tt
  host_may c x (Some b) = either (nat_le b.len buffer_limit) _ _ (either (nat_le (b.len / 64) c.fuel) (calls (record c { fuel = c.fuel - b.len / 64 }) x) (ends c outcome.FuelOut) tt tt) tt

  made_may : (c : Configuration) (o : Option HostCall) → NextMay (host_made c o)
  made_may c None = tt
  made_may c (Some x) = host_may c x (buffer_of x)

  call_may : (c : Configuration) (f : Func) → NextMay (call c f)
  call_may c (hosted n t) = either (nat_le (length t.params) (length c.frame.values)) (host_call (with_values c (drop (length t.params) c.frame.values)) n (take (length t.params) c.frame.values)) stuck (made_may (with_values c (drop (length t.params) c.frame.values)) (option_and_then (λ r. made r.form (reverse (map (low w32) (take (length t.params) c.frame.values)))) (slice_get host_rows n))) tt
  call_may c (defined t locals body) = either (nat_le (length t.params) (length c.frame.values)) _ stuck (either (has_room c locals) _ (traps c trap.StackExhausted) tt tt) tt

  found_may : (go : Func → Next) (o : Option Func) → ((g : Func) → NextMay (go g)) → NextMay (elim o [ None ↦ stuck | Some g ↦ go g ])
  found_may go None h = tt
  found_may go (Some g) h = h g

  element_may : (p : Program) (c : Configuration) (t : FuncType) (o : Option (Option ℕ)) → NextMay (call_element p c t o)
  element_may p c t None = tt
  element_may p c t (Some None) = tt
  element_may p c t (Some (Some f)) = found_may (call_typed c t) (slice_get p.functions f) (λ g. either (same_type (type_of g) t) (call c g) (traps c trap.TypeMismatch) (call_may c g) tt)

  indirect_may : (p : Program) (c : Configuration) (t x : ℕ) → NextMay (call_indirect p c t x)
  indirect_may p c t x = by (slice_get p.types t)
    where
      by : (o : Option FuncType) → NextMay (elim o [ None ↦ stuck | Some type ↦ call_element p c type (slice_get c.table (low w32 x)) ])
      by None = tt
      by (Some type) = element_may p c type (slice_get c.table (low w32 x))

  load_may : (c : Configuration) (l : Load) (a : Access) → NextMay (load_on c l a)
  load_may c l (reads at n [] copy) = tt
  load_may c l (reads at n (p ∷ ps) copy) = tt
  load_may c l (writes left bytes) = tt

  begin_load_may : (c : Configuration) (op offset : ℕ) (vs : List ℕ) → NextMay (begin_load c op offset vs)
  begin_load_may c op offset [] = tt
  begin_load_may c op offset (x ∷ vs) = by (load_of op)
    where
      by : (o : Option Load) → NextMay (elim o [ None ↦ stuck | Some l ↦ load_at c l (low w32 x + offset) ])
      by None = tt
      by (Some l) = either (lies_in c.memory (low w32 x + offset) (load_size l)) (load_on c l (reading c.memory (low w32 x + offset) (load_size l))) (traps c trap.OutOfBounds) (load_may c l (reading c.memory (low w32 x + offset) (load_size l))) tt

  store_may : (c : Configuration) (a : Access) → AccessMay a → NextMay (store_on c a)
  store_may c (writes [] bytes) h = tt
  store_may c (writes (p ∷ ps) bytes) h = h
  store_may c (reads at n left copy) h = tt

  stored_may : (c : Configuration) (w : Written) → AccessMay w.access → NextMay (stored c w)
  stored_may c w h = store_may (record c { memory = w.memory }) w.access h

  pub resumed_may : (c : Configuration) (b : Begun) (bytes : List ℕ) → BegunMay b → NextMay (resumed c b bytes)
  resumed_may c (load l a) bytes h = load_may c l (answered c.memory a bytes).access
  resumed_may c (store a) bytes h = stored_may c (answered c.memory a bytes) (answered_may c.memory a bytes h)

  pub finished_may : (c : Configuration) (r : Result (Option ℕ) Trap) → NextMay (finished c r)
  finished_may c (Ok None) = tt
  finished_may c (Ok (Some v)) = push_may c v
  finished_may c (Err t) = tt

  enter_may : (c : Configuration) (n : ℕ) (again : Option Tree) (body : Tree) → NextMay (enter c n again body)
  enter_may c n again body = either (nat_lt (labels_held c) label_limit) _ _ tt tt

  if_may : (c : Configuration) (n : ℕ) (a b : Tree) (vs : List ℕ) → NextMay (if_step c n a b vs)
  if_may c n a b [] = tt
  if_may c n a b (x ∷ vs) = chosen x (enter (with_values c vs) n None a) (enter (with_values c vs) n None b) (enter_may (with_values c vs) n None a) (enter_may (with_values c vs) n None b)

module _ (p : Program) where
  begin_store_may : (c : Configuration) (op offset : ℕ) (vs : List ℕ) → NextMay p.grants (begin_store p c op offset vs)
  begin_store_may c op offset [] = tt
  begin_store_may c op offset (v ∷ []) = tt
  begin_store_may c op offset (v ∷ x ∷ vs) = by (store_of op)
    where
      checked : (at : ℕ) (bs : List ℕ) (b : Bool) → all_granted p.grants Write (shared_pieces c.memory at (length bs)) ≡ b → NextMay p.grants (cond b (stored c (writing c.memory at bs)) (traps c trap.Denied))
      checked at bs true e = stored_may p.grants c (writing c.memory at bs) (write_on_may p.grants (pieces c.memory at (length bs)) c.memory bs (pieces_may p.grants (pieces c.memory at (length bs)) e))
      checked at bs false e = tt

      by : (o : Option ℕ) → NextMay p.grants (elim o [ None ↦ stuck | Some n ↦ store_at p c (low w32 x + offset) (bytes_of n v) ])
      by None = tt
      by (Some n) = either p.grants (lies_in c.memory (low w32 x + offset) (length (bytes_of n v))) _ (traps c trap.OutOfBounds) (checked (low w32 x + offset) (bytes_of n v) (all_granted p.grants Write (shared_pieces c.memory (low w32 x + offset) (length (bytes_of n v)))) refl) tt

  plain_may : (c : Configuration) (i : Instr) (vs : List ℕ) → NextMay p.grants (plain_step p c i vs)
  plain_may c (instr.Br n) vs = branch_may p.grants c n c.frame.labels
  plain_may c (instr.BrIf n) (x ∷ vs) = chosen p.grants x (br (with_values c vs) n) (goes (with_values c vs)) (branch_may p.grants (with_values c vs) n c.frame.labels) tt
  plain_may c (instr.BrTable ls n) (x ∷ vs) = branch_may p.grants (with_values c vs) _ c.frame.labels
  plain_may c instr.Return vs = frame_may p.grants c
  plain_may c (instr.Call f) vs = found_may p.grants (call c) (slice_get p.functions f) (call_may p.grants c)
  plain_may c (instr.CallIndirect t) (x ∷ vs) = indirect_may p.grants p (with_values c vs) t x
  plain_may c instr.Drop (v ∷ vs) = tt
  plain_may c instr.Select (x ∷ b ∷ a ∷ vs) = chosen p.grants x (goes (with_values c (a ∷ vs))) (goes (with_values c (b ∷ vs))) tt tt
  plain_may c (instr.LocalGet k) vs = some_may p.grants c (slice_get c.frame.locals k)
  plain_may c (instr.LocalSet k) (v ∷ vs) = either p.grants (nat_lt k (length c.frame.locals)) _ stuck tt tt
  plain_may c (instr.LocalTee k) (v ∷ vs) = either p.grants (nat_lt k (length c.frame.locals)) _ stuck tt tt
  plain_may c (instr.GlobalGet k) vs = some_may p.grants c (slice_get c.globals k)
  plain_may c (instr.GlobalSet k) (v ∷ vs) = either p.grants (nat_lt k (length c.globals)) _ stuck tt tt
  plain_may c (instr.Load op align offset) vs = begin_load_may p.grants c op offset vs
  plain_may c (instr.Store op align offset) vs = begin_store_may c op offset vs
  plain_may c instr.MemorySize vs = push_may p.grants c _
  plain_may c instr.MemoryGrow (x ∷ vs) = either p.grants (may_grow c.memory (low w32 x) p.most_pages) _ _ tt tt
  plain_may c (instr.I32Const n) vs = push_may p.grants c _
  plain_may c (instr.I64Const n) vs = push_may p.grants c _
  plain_may c (instr.Num op) vs = numeric_may p.grants c (numeric_of op) vs
  plain_may c i vs = tt

  begin_may : (c : Configuration) (e : Tree) → NextMay p.grants (begin p c e)
  begin_may c stop = leave_may p.grants c c.frame.labels
  begin_may c (plain i e) = plain_may (with_rest c e) i c.frame.values
  begin_may c (block t b e) = enter_may p.grants (with_rest c e) (arity_of t) None b
  begin_may c (loop t b e) = enter_may p.grants (with_rest c e) 0 (Some b) b
  begin_may c (if_then t b e) = if_may p.grants (with_rest c e) (arity_of t) b stop c.frame.values
  begin_may c (if_else t b d e) = if_may p.grants (with_rest c e) (arity_of t) b d c.frame.values

  paid_may : (c : Configuration) (n : ℕ) (e : Tree) → NextMay p.grants (paid c n (λ d. begin p d e))
  paid_may c zero e = tt
  paid_may c (suc n) e = begin_may (record c { fuel = n }) e

  at_may : (c : Configuration) (e : Tree) → NextMay p.grants (step_at p c e)
  at_may c stop = leave_may p.grants c c.frame.labels
  at_may c e = paid_may c c.fuel e

  pub step_may : (c : Configuration) → NextMay p.grants (step p c)
  step_may c = at_may c c.frame.rest
