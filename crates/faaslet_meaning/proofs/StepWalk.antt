-- One walk over all rules of a step, for any facts of a configuration's memory, table, fuel and number of labels.
-- `Rules` lists what a law has to show of its facts; `step_holds` says what one step comes to, and `steps_hold` many.
use Rattle.std.proofs.Common.{◌≤◌, ◌<◌, arith, ◌≡◌, ℕ, zero, suc, ◌+◌, ◌-◌, ◌/◌, List, [], ◌∷◌, length, refl, subst, ap, None, Some, Option, Bool, true, false, cond, take, drop, Result, Ok, Err, map, reverse}
use Rattle.std.specs.Prelude.{slice_get, nat_lt, nat_le, option_and_then}
use Rattle.std.specs.Int.{w32}
use Rattle.std.proofs.lemmas.Bool.{leb-true}
use Rattle.faaslet_meaning.specs.declared.instr.Instr.{Instr}
use Rattle.faaslet_meaning.specs.declared.instr.Instr.TheVariants.{Unreachable, Nop, Br, BrIf, BrTable, Return, Call, CallIndirect, Drop, Select, LocalGet, LocalSet, LocalTee, GlobalGet, GlobalSet, Load, Store, MemorySize, MemoryGrow, I32Const, I64Const, Num}
use Rattle.faaslet_meaning.specs.declared.module.FuncType.{FuncType}
use Rattle.faaslet_meaning.specs.declared.outcome.Trap.{Trap}
use Rattle.faaslet_meaning.specs.declared.outcome.Outcome.{Outcome}
use Rattle.faaslet_meaning.specs.declared.outcome.Outcome.TheVariants as outcome
use Rattle.faaslet_meaning.specs.declared.grant.Mode.TheVariants.{Write}
use Rattle.faaslet_meaning.specs.Integers.{low, Numeric, test, compare, unary, binary, convert, numeric_of, binary_row}
use Rattle.faaslet_meaning.specs.LoadStore.{load_of, store_of, bytes_of, load_size}
use Rattle.faaslet_meaning.specs.LoadStore as bytes
use Rattle.faaslet_meaning.specs.Lists.{total}
use Rattle.faaslet_meaning.specs.Tree.{Tree, stop, plain, block, loop, if_then, if_else, arity_of}
use Rattle.faaslet_meaning.specs.Memory.{Memory, grown, Access, reads, writes, lies_in, may_grow, reading, writing, shared_pieces}
use Rattle.faaslet_meaning.specs.HostCalls.{HostCall, Buffer, buffer_of, made, host_rows}
use Rattle.faaslet_meaning.specs.Configuration.{Begun, Program, Func, hosted, defined, Label, Frame, Configuration, Next, goes, ends, touches, calls, stuck, labels_held, values_held, frame_labels}
use Rattle.faaslet_meaning.specs.Limits.{push, enter, with_values, has_room, label_limit, value_limit}
use Rattle.faaslet_meaning.specs.ControlRules.{choose, results_to, leave_frame, leave, branch_to, branch, host_by, buffer_limit, call, call_indirect, same_type}
use Rattle.faaslet_meaning.specs.ControlRules as control
use Rattle.faaslet_meaning.specs.MemoryRules.{load_on, store_on, stored, begin_load, begin_store, all_granted}
use Rattle.faaslet_meaning.specs.MemoryRules as access
use Rattle.faaslet_meaning.specs.Fresh.{steps, then_go}
use Rattle.faaslet_meaning.specs.Step as rules
use Rattle.faaslet_meaning.specs.Step.{numeric, plain_step, if_step, with_rest, begin, paid, step_at, step, finished}
use Rattle.faaslet_meaning.proofs.Pieces.{when, store_small}
use Rattle.faaslet_meaning.proofs.WordBytes.{bytes_many}

-- what the walk sees of a configuration
pub record View : Type 0 where
  pub memory : Memory
  pub table : List (Option ℕ)
  pub fuel : ℕ
  pub labels : ℕ

abbrev pub view : Configuration → View
view c = record { memory = c.memory; table = c.table; fuel = c.fuel; labels = labels_held c }

-- how the machine itself ends
abbrev pub IsEnd : Outcome → Type 0
IsEnd (outcome.Done n) = Unit {0}
IsEnd (outcome.Trap t) = Unit {0}
IsEnd outcome.FuelOut = Unit {0}
IsEnd _ = ⊥

-- a host call's buffer is no longer than it may be
abbrev pub IsShort : Option Buffer → Type 0
IsShort None = Unit {0}
IsShort (Some b) = b.len ≤ buffer_limit

-- one of the functions is a host call
abbrev pub HasHosted : Program → Type 0
HasHosted p = (f : ℕ) × (k : ℕ) × (t : FuncType) × (slice_get p.functions f ≡ Some (hosted k t))

-- The facts: where the machine goes on, where it ends, and where it stops at a shared piece or a host call.
module _ (Kept Ended : View → Type 0) (Touched : Configuration → Begun → Type 0) (Called : Configuration → HostCall → Type 0) where
  abbrev pub Good : Next → Type 0
  Good (goes c) = Kept (view c)
  Good (ends c o) = Ended (view c) × IsEnd o
  Good (touches c b) = Touched c b
  Good (calls c h) = Called c h
  Good stuck = Unit {0}

  -- What a law has to show. `Before` is its fact before a step, `Paid` once the instruction is paid for. A step that is
  -- not paid for leaves labels; one that is paid for enters one at most.
  pub record Rules (Before Paid : View → Type 0) (p : Program) : Type 0 where
    pub pays : (v : View) (k : ℕ) → Before (record v { fuel = suc k }) → Paid (record v { fuel = k })
    pub leaves : (v : View) (k : ℕ) → k < v.labels → Before v → Kept (record v { labels = k })
    pub stays : (v : View) (k : ℕ) → k ≤ v.labels + 1 → Paid v → Kept (record v { labels = k })
    pub grows : (v : View) (n : ℕ) → may_grow v.memory n p.most_pages ≡ true → Paid v → Kept (record v { memory = grown v.memory n })
    pub ends_before : (v : View) → Before v → Ended v
    pub ends_paid : (v : View) → Paid v → Ended v
    pub loads : (c : Configuration) (l : bytes.Load) (at : ℕ) → lies_in c.memory at (load_size l) ≡ true → Paid (view c) → Good (load_on c l (reading c.memory at (load_size l)))
    pub stores : (c : Configuration) (at : ℕ) (bs : List ℕ) → length bs ≤ 8 → lies_in c.memory at (length bs) ≡ true → Paid (view c) → Good (stored c (writing c.memory at bs))
    pub asks : (c : Configuration) (h : HostCall) (k : ℕ) → k ≤ c.fuel → IsShort (buffer_of h) → HasHosted p → Paid (view c) → Called (record c { fuel = k }) h

  either : (b : Bool) (x y : Next) → Good x → Good y → Good (cond b x y)
  either true x y h k = h
  either false x y h k = k

  push_holds : (c : Configuration) (v : ℕ) → Kept (view c) → Ended (view c) → Good (push c v)
  push_holds c v h e = either (nat_lt (values_held c) value_limit) _ _ h (e, tt {0})

  -- ---- What goes on after a reply.

  pub load_holds : (c : Configuration) (l : bytes.Load) (a : Access) → Kept (view c) → ((b : Begun) → Touched c b) → Good (load_on c l a)
  load_holds c l (reads at n [] copy) h t = h
  load_holds c l (reads at n (p ∷ ps) copy) h t = t _
  load_holds c l (writes left bs) h t = tt

  pub store_holds : (c : Configuration) (a : Access) → Kept (view c) → ((b : Begun) → Touched c b) → Good (store_on c a)
  store_holds c (writes [] bs) h t = h
  store_holds c (writes (p ∷ ps) bs) h t = t _
  store_holds c (reads at n left copy) h t = tt

  pub finished_holds : (c : Configuration) (r : Result (Option ℕ) Trap) → Kept (view c) → Ended (view c) → Good (finished c r)
  finished_holds c (Ok None) h e = h
  finished_holds c (Ok (Some v)) h e = push_holds c v h e
  finished_holds c (Err t) h e = (e, tt)

  -- ---- How labels and frames are left.

  abbrev Leavable : Configuration → Type 0
  Leavable c = Ended (view c) × ((k : ℕ) → k < labels_held c → Kept (record (view c) { labels = k }))

  results_hold : (c : Configuration) (vs : List ℕ) (fs : List Frame) → fs ≡ c.callers → Leavable c → Good (results_to c vs fs)
  results_hold c vs [] e h = (h.0, tt)
  results_hold c vs (f ∷ fs) e h = h.1 _ (omega (arith, ap (total frame_labels) e))

  frame_holds : (c : Configuration) → Leavable c → Good (leave_frame c)
  frame_holds c h = either (nat_le c.frame.arity (length c.frame.values)) _ stuck (results_hold c (take c.frame.arity c.frame.values) c.callers refl h) (tt {0})

  leave_holds : (c : Configuration) (ls : List Label) → ls ≡ c.frame.labels → Leavable c → Good (leave c ls)
  leave_holds c [] e h = frame_holds c h
  leave_holds c (l ∷ ls) e h = h.1 _ (omega (arith, ap length e))

  choice : (x : ℕ) (a b : Next) → Good a → Good b → Good (choose x a b)
  choice x a b h k = by (low w32 x)
    where
      by : (y : ℕ) → Good (elim y [ zero ↦ b | suc m ↦ a ])
      by zero = k
      by (suc m) = h

  -- ---- The rules, one by one.

  module _ {Before Paid : View → Type 0} (p : Program) (r : Rules Before Paid p) where
    kept : (c : Configuration) → Paid (view c) → Kept (view c)
    kept c h = r.stays (view c) (labels_held c) (omega arith) h

    may_leave : (c : Configuration) → Paid (view c) → Leavable c
    may_leave c h = (r.ends_paid (view c) h, λ k lt. r.stays (view c) k (omega arith) h)

    pushed : (c : Configuration) (v : ℕ) → Paid (view c) → Good (push c v)
    pushed c v h = push_holds c v (kept c h) (r.ends_paid (view c) h)

    enter_holds : (c : Configuration) (k : ℕ) (again : Option Tree) (body : Tree) → Paid (view c) → Good (enter c k again body)
    enter_holds c k again body h = either (nat_lt (labels_held c) label_limit) _ _ (r.stays (view c) _ (omega arith) h) (r.ends_paid (view c) h, tt {0})

    to_holds : (c : Configuration) (l : Label) (again : Option Tree) (ls : List Label) → length ls < length c.frame.labels → Paid (view c) → Good (branch_to c l again ls)
    to_holds c l None ls le h = r.stays (view c) _ (omega arith) h
    to_holds c l (Some body) ls le h = r.stays (view c) _ (omega arith) h

    branch_holds : (c : Configuration) (k : ℕ) (ls : List Label) → length ls ≤ length c.frame.labels → Paid (view c) → Good (branch c k ls)
    branch_holds c zero [] le h = frame_holds c (may_leave c h)
    branch_holds c zero (l ∷ ls) le h = either (nat_le l.arity (length c.frame.values)) _ _ (to_holds c l l.again ls (omega arith) h) (tt {0})
    branch_holds c (suc k) [] le h = tt
    branch_holds c (suc k) (l ∷ ls) le h = branch_holds c k ls (omega arith) h

    host_holds : (c : Configuration) (h : HostCall) (b : Option Buffer) → b ≡ buffer_of h → HasHosted p → Paid (view c) → Good (host_by c h b)
    host_holds c h None e i w = r.asks c h c.fuel (omega arith) (subst IsShort e (tt {0})) i w
    host_holds c h (Some b) e i w =
        let over = r.ends_paid (view c) w in
        when Good (nat_le b.len buffer_limit) _ _
        (λ t. either (nat_le (b.len / 64) c.fuel) (calls (record c { fuel = c.fuel - b.len / 64 }) h) (ends c outcome.FuelOut) (r.asks c h (c.fuel - b.len / 64) (omega arith) (subst IsShort e (leb-true b.len buffer_limit t)) i w) (over, tt {0}))
        (λ t. (over, tt {0}))

    made_holds : (c : Configuration) (h : Option HostCall) → HasHosted p → Paid (view c) → Good (control.host_made c h)
    made_holds c None i w = tt
    made_holds c (Some h) i w = host_holds c h (buffer_of h) refl i w

    call_holds : (c : Configuration) (g : Func) (f : ℕ) → slice_get p.functions f ≡ Some g → Paid (view c) → Good (call c g)
    call_holds c (hosted k t) f e w =
        let args = take (length t.params) c.frame.values in
        either (nat_le (length t.params) (length c.frame.values)) _ _ (made_holds (with_values c (drop (length t.params) c.frame.values)) (option_and_then (λ r. made r.form (reverse (map (low w32) args))) (slice_get host_rows k)) (f, k, t, e) w) (tt {0})
    call_holds c (defined t locals body) f e w =
        either (nat_le (length t.params) (length c.frame.values)) _ _ (either (has_room c locals) _ _ (r.stays (view c) _ (omega arith) w) (r.ends_paid (view c) w, tt {0})) (tt {0})

    found_holds : (c : Configuration) (f : ℕ) (o : Option Func) → slice_get p.functions f ≡ o → Paid (view c) → Good (elim o [ None ↦ stuck | Some g ↦ call c g ])
    found_holds c f None e w = tt
    found_holds c f (Some g) e w = call_holds c g f e w

    typed_holds : (c : Configuration) (t : FuncType) (f : ℕ) (o : Option Func) → slice_get p.functions f ≡ o → Paid (view c) → Good (elim o [ None ↦ stuck | Some g ↦ control.call_typed c t g ])
    typed_holds c t f None e w = tt
    typed_holds c t f (Some g) e w = either (same_type _ t) _ _ (call_holds c g f e w) (r.ends_paid (view c) w, tt {0})

    element_holds : (c : Configuration) (t : FuncType) (e : Option (Option ℕ)) → Paid (view c) → Good (control.call_element p c t e)
    element_holds c t None w = (r.ends_paid (view c) w, tt)
    element_holds c t (Some None) w = (r.ends_paid (view c) w, tt)
    element_holds c t (Some (Some f)) w = typed_holds c t f (slice_get p.functions f) refl w

    indirect_holds : (c : Configuration) (t x : ℕ) → Paid (view c) → Good (call_indirect p c t x)
    indirect_holds c t x w = by (slice_get p.types t)
      where
        by : (o : Option FuncType) → Good (elim o [ None ↦ stuck | Some type ↦ control.call_element p c type (slice_get c.table (low w32 x)) ])
        by None = tt
        by (Some type) = element_holds c type _ w

    load_begins : (c : Configuration) (op offset : ℕ) (vs : List ℕ) → Paid (view c) → Good (begin_load c op offset vs)
    load_begins c op offset [] h = tt
    load_begins c op offset (x ∷ vs) h = by (load_of op)
      where
        by : (o : Option bytes.Load) → Good (elim o [ None ↦ stuck | Some l ↦ access.load_at c l (low w32 x + offset) ])
        by None = tt
        by (Some l) = when Good (lies_in c.memory (low w32 x + offset) (load_size l)) _ _ (λ in_. r.loads c l (low w32 x + offset) in_ h) (λ out. (r.ends_paid (view c) h, tt {0}))

    store_begins : (c : Configuration) (op offset : ℕ) (vs : List ℕ) → Paid (view c) → Good (begin_store p c op offset vs)
    store_begins c op offset [] h = tt
    store_begins c op offset (v ∷ []) h = tt
    store_begins c op offset (v ∷ x ∷ vs) h = by (store_of op) refl
      where
        by : (o : Option ℕ) → store_of op ≡ o → Good (elim o [ None ↦ stuck | Some k ↦ access.store_at p c (low w32 x + offset) (bytes_of k v) ])
        by None e = tt
        by (Some k) e =
            let at = low w32 x + offset in
            let bs = bytes_of k v in
            let over = r.ends_paid (view c) h in
            let few = store_small op k e in
            when Good (lies_in c.memory at (length bs)) _ _ (λ in_. either (all_granted p.grants Write (shared_pieces c.memory at (length bs))) _ _ (r.stores c at bs (omega (arith, bytes_many k v)) in_ h) (over, tt {0})) (λ out. (over, tt {0}))

    some_holds : (c : Configuration) (o : Option ℕ) → Paid (view c) → Good (rules.push_some c o)
    some_holds c None h = tt
    some_holds c (Some v) h = pushed c v h

    gives_holds : (c : Configuration) (vs : List ℕ) (o : Result ℕ Trap) → Paid (view c) → Good (rules.gives c vs o)
    gives_holds c vs (Ok v) h = kept c h
    gives_holds c vs (Err t) h = (r.ends_paid (view c) h, tt)

    numeric_holds : (c : Configuration) (o : Option Numeric) (vs : List ℕ) → Paid (view c) → Good (numeric c o vs)
    numeric_holds c (Some (test w)) (x ∷ vs) h = kept c h
    numeric_holds c (Some (compare f w)) (y ∷ x ∷ vs) h = kept c h
    numeric_holds c (Some (unary f w)) (x ∷ vs) h = kept c h
    numeric_holds c (Some (binary f w)) (y ∷ x ∷ vs) h = gives_holds c vs (binary_row f w x y) h
    numeric_holds c (Some (convert f)) (x ∷ vs) h = kept c h
    numeric_holds c _ vs h = tt

    plain_holds : (c : Configuration) (i : Instr) (vs : List ℕ) → Paid (view c) → Good (plain_step p c i vs)
    plain_holds c Unreachable vs h = (r.ends_paid (view c) h, tt)
    plain_holds c Nop vs h = kept c h
    plain_holds c (Br k) vs h = branch_holds c k c.frame.labels (omega arith) h
    plain_holds c (BrIf k) (x ∷ vs) h = choice x _ _ (branch_holds (with_values c vs) k c.frame.labels (omega arith) h) (kept c h)
    plain_holds c (BrTable ks k) (x ∷ vs) h = branch_holds (with_values c vs) _ c.frame.labels (omega arith) h
    plain_holds c Return vs h = frame_holds c (may_leave c h)
    plain_holds c (Call f) vs h = found_holds c f (slice_get p.functions f) refl h
    plain_holds c (CallIndirect t) (x ∷ vs) h = indirect_holds (with_values c vs) t x h
    plain_holds c Drop (v ∷ vs) h = kept c h
    plain_holds c Select (x ∷ b ∷ a ∷ vs) h = choice x _ _ (kept c h) (kept c h)
    plain_holds c (LocalGet k) vs h = some_holds c (slice_get c.frame.locals k) h
    plain_holds c (LocalSet k) (v ∷ vs) h = either (nat_lt k (length c.frame.locals)) _ _ (kept c h) (tt {0})
    plain_holds c (LocalTee k) (v ∷ vs) h = either (nat_lt k (length c.frame.locals)) _ _ (kept c h) (tt {0})
    plain_holds c (GlobalGet k) vs h = some_holds c (slice_get c.globals k) h
    plain_holds c (GlobalSet k) (v ∷ vs) h = either (nat_lt k (length c.globals)) _ _ (kept c h) (tt {0})
    plain_holds c (Load op a o) vs h = load_begins c op o vs h
    plain_holds c (Store op a o) vs h = store_begins c op o vs h
    plain_holds c MemorySize vs h = pushed c _ h
    plain_holds c MemoryGrow (x ∷ vs) h = when Good (may_grow c.memory (low w32 x) p.most_pages) _ _ (λ may. r.grows (view c) (low w32 x) may h) (λ not. kept c h)
    plain_holds c (I32Const v) vs h = pushed c _ h
    plain_holds c (I64Const v) vs h = pushed c _ h
    plain_holds c (Num op) vs h = numeric_holds c (numeric_of op) vs h
    plain_holds c _ vs h = tt

    if_holds : (c : Configuration) (k : ℕ) (a b : Tree) (vs : List ℕ) → Paid (view c) → Good (if_step c k a b vs)
    if_holds c k a b [] h = tt
    if_holds c k a b (x ∷ vs) h = choice x _ _ (enter_holds (with_values c vs) k None a h) (enter_holds (with_values c vs) k None b h)

    begin_holds : (c : Configuration) (e : Tree) → Paid (view c) → Good (begin p c e)
    begin_holds c stop h = leave_holds c c.frame.labels refl (may_leave c h)
    begin_holds c (plain i e) h = plain_holds (with_rest c e) i c.frame.values h
    begin_holds c (block t b e) h = enter_holds (with_rest c e) (arity_of t) None b h
    begin_holds c (loop t b e) h = enter_holds (with_rest c e) 0 (Some b) b h
    begin_holds c (if_then t b e) h = if_holds (with_rest c e) (arity_of t) b stop c.frame.values h
    begin_holds c (if_else t b d e) h = if_holds (with_rest c e) (arity_of t) b d c.frame.values h

    paid_holds : (c : Configuration) (k : ℕ) (e : Tree) → Before (view c) → Before (record (view c) { fuel = k }) → Good (paid c k (λ d. begin p d e))
    paid_holds c zero e h w = (r.ends_before (view c) h, tt)
    paid_holds c (suc k) e h w = begin_holds (record c { fuel = k }) e (r.pays (view c) k w)

    at_holds : (c : Configuration) (e : Tree) → Before (view c) → Good (step_at p c e)
    at_holds c stop h = leave_holds c c.frame.labels refl (r.ends_before (view c) h, λ k lt. r.leaves (view c) k lt h)
    at_holds c (plain i e) h = paid_holds c c.fuel (plain i e) h h
    at_holds c (block t b e) h = paid_holds c c.fuel (block t b e) h h
    at_holds c (loop t b e) h = paid_holds c c.fuel (loop t b e) h h
    at_holds c (if_then t b e) h = paid_holds c c.fuel (if_then t b e) h h
    at_holds c (if_else t b d e) h = paid_holds c c.fuel (if_else t b d e) h h

    pub step_holds : (c : Configuration) → Before (view c) → Good (step p c)
    step_holds c h = at_holds c c.frame.rest h

    -- ---- Many steps, where what a step leaves is enough for the next.

    then_holds : (x : Next) (go : Configuration → Next) → Good x → ((d : Configuration) → Kept (view d) → Good (go d)) → Good (then_go x go)
    then_holds (goes d) go h k = k d h
    then_holds (ends d o) go h k = h
    then_holds (touches d b) go h k = h
    then_holds (calls d b) go h k = h
    then_holds stuck go h k = h

    pub steps_hold : ((v : View) → Kept v → Before v) → (n : ℕ) (c : Configuration) → Kept (view c) → Good (steps p n c)
    steps_hold again zero c h = h
    steps_hold again (suc n) c h = then_holds (step p c) (steps p n) (step_holds c (again (view c) h)) (steps_hold again n)
