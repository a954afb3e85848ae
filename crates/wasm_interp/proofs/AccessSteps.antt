-- Loads and stores of private bytes, the size of memory and its growth.
use Rattle.std.proofs.Common.{◌≡◌, ℕ, ◌+◌, ◌-◌, ◌*◌, ◌<◌, ◌≤◌, ◌^◌, ◌/◌, Bool, true, false, List, [], ◌∷◌, ◌++◌, length, take, drop, refl, ap, arith, ◌∙◌, sym, subst, Some, None, Option, length-append}
use Rattle.std.specs.Prelude.{◌≢◌, slice_get, if◌then◌else◌}
use Rattle.std.specs.Int.{w32}
use Rattle.std.proofs.lemmas.List.{drop-append-le, length-drop, length-take}
use Rattle.faaslet_meaning.specs.declared.grant.Mode.TheVariants.{Write as write_mode}
use Rattle.faaslet_meaning.specs.declared.outcome.Outcome.{Outcome}
use Rattle.faaslet_meaning.specs.declared.outcome.Trap.TheVariants as trap
use Rattle.faaslet_meaning.specs.declared.instr.Instr.TheVariants as instr
use Rattle.faaslet_meaning.specs.Integers.{low}
use Rattle.faaslet_meaning.specs.LoadStore.{Load, load_of, load_size, loaded, number, store_of, bytes_of}
use Rattle.faaslet_meaning.specs.Memory.{Memory, IsMemory, reads, writes, write_on, writing, reading, put, over, pieces, shared_pieces, lies_in, read_bytes, size_of, pages_of, may_grow, grown}
use Rattle.faaslet_meaning.specs.MemoryRules.{under, load_on, load_at, store_at, stored, begin_load, begin_store, all_granted}
use Rattle.faaslet_meaning.specs.Configuration.{Program, Configuration, Next, goes, ends, touches, calls, stuck}
use Rattle.faaslet_meaning.specs.Limits.{with_values, traps}
use Rattle.faaslet_meaning.specs.Step.{plain_step}
use Rattle.wasm_interp.specs.declared.machine.Stage.{Stage}
use Rattle.wasm_interp.specs.declared.machine.Stage.TheVariants as stage
use Rattle.wasm_interp.specs.declared.thread.Thread.{Thread}
use Rattle.wasm_interp.specs.Parts.{extended, left_to_write}
use Rattle.wasm_interp.specs.Stands.{Stands, Follows}
use Rattle.wasm_interp.specs.StandsFor.{StageStands}
use Rattle.wasm_interp.proofs.Values.{under_own, values_stand}
use Rattle.wasm_interp.proofs.PieceLists.{write_all, inside_is}
use Rattle.faaslet_meaning.proofs.WordBytes.{bytes_many}

-- ---- where the machine is

pub over_follows : (memory : Memory) (t : Thread) (n : Next) (o : Outcome) → Follows memory t n (Some o) → StageStands memory t (stage.Over o) n
over_follows memory t (goes c) o f = absurd f
over_follows memory t (ends c p) o f = f
over_follows memory t (touches c b) o f = absurd f
over_follows memory t (calls c h) o f = absurd f
over_follows memory t stuck o f = absurd f

on_follows : (memory : Memory) (t : Thread) (n : Next) → Follows memory t n None → StageStands memory t stage.Runs n
on_follows memory t (goes c) f = f
on_follows memory t (ends c p) f = absurd f
on_follows memory t (touches c b) f = absurd f
on_follows memory t (calls c h) f = absurd f
on_follows memory t stuck f = absurd f

pub still_follows : (memory : Memory) (t : Thread) (n : Next) (st : Stage) → st ≡ stage.Runs → Follows memory t n None → StageStands memory t st n
still_follows memory t n st e f = subst (λ (x : Stage). StageStands memory t x n) (sym e) (on_follows memory t n f)

pub still_runs : (memory : Memory) (t : Thread) (c : Configuration) (st : Stage) → st ≡ stage.Runs → Stands memory t c → StageStands memory t st (goes c)
still_runs memory t c st e s = subst (λ (x : Stage). StageStands memory t x (goes c)) (sym e) s

pub put_over : (memory : Memory) (t : Thread) (n : Next) (r : Option Outcome) (o : Outcome) → r ≡ Some o → Follows memory t n r → StageStands memory t (stage.Over o) n
put_over memory t n r o e f = over_follows memory t n o (subst (Follows memory t n) e f)

pub put_still : (memory : Memory) (t : Thread) (n : Next) (r : Option Outcome) (st : Stage) → r ≡ None → st ≡ stage.Runs → Follows memory t n r → StageStands memory t st n
put_still memory t n r st e runs f = still_follows memory t n st runs (subst (Follows memory t n) e f)

-- ---- the operands

-- values of the frame dropped off the stack
pub dropped : (memory : Memory) (t : Thread) (c : Configuration) (n : ℕ) → Stands memory t c → n ≤ length c.frame.values → drop n t.values ≡ drop n c.frame.values ++ under_own c
dropped memory t c n s h = ap (drop n) s.values ∙ drop-append-le n c.frame.values (under_own c) h

pub there : (memory : Memory) (t : Thread) (c : Configuration) (n : ℕ) → Stands memory t c → n ≤ length c.frame.values → n ≤ length t.values
there memory t c n s h = omega (arith, ap length s.values, length-append c.frame.values (under_own c))

top_of : (vs low : List ℕ) (x : ℕ) → slice_get (vs ++ low) 0 ≡ Some x → 0 < length vs → vs ≡ x ∷ drop 1 vs
top_of [] low x e h = absurd (omega arith)
top_of (y ∷ vs) low x e h = let f : y ≡ x = cc in ap (λ z. z ∷ vs) f

pub top_is : (memory : Memory) (t : Thread) (c : Configuration) (x : ℕ) → Stands memory t c → slice_get t.values 0 ≡ Some x → 0 < length c.frame.values → c.frame.values ≡ x ∷ drop 1 c.frame.values
top_is memory t c x s e h = top_of c.frame.values (under_own c) x (ap (λ vs. slice_get vs 0) (sym s.values) ∙ e) h

two_of : (vs low : List ℕ) (v x : ℕ) → slice_get (vs ++ low) 0 ≡ Some v → slice_get (vs ++ low) 1 ≡ Some x → 2 ≤ length vs → vs ≡ v ∷ (x ∷ drop 2 vs)
two_of [] low v x e f h = absurd (omega arith)
two_of (a ∷ []) low v x e f h = absurd (omega arith)
two_of (a ∷ b ∷ vs) low v x e f h = let i : a ≡ v = cc in let j : b ≡ x = cc in ap (λ z. z ∷ (b ∷ vs)) i ∙ ap (λ z. v ∷ (z ∷ vs)) j

pub two_are : (memory : Memory) (t : Thread) (c : Configuration) (v x : ℕ) → Stands memory t c → slice_get t.values 0 ≡ Some v → slice_get t.values 1 ≡ Some x → 2 ≤ length c.frame.values → c.frame.values ≡ v ∷ (x ∷ drop 2 c.frame.values)
two_are memory t c v x s e f h = two_of c.frame.values (under_own c) v x (ap (λ vs. slice_get vs 0) (sym s.values) ∙ e) (ap (λ vs. slice_get vs 1) (sym s.values) ∙ f) h

-- another value in place of the topmost
pub replaced : (memory : Memory) (t : Thread) (c : Configuration) (v : ℕ) (new : List ℕ) → Stands memory t c → 0 < length c.frame.values → new ≡ v ∷ drop 1 t.values → Stands memory (record t { values = new }) (with_values c (v ∷ under 1 c))
replaced memory t c v new s h e = values_stand memory t c new (v ∷ under 1 c) (e ∙ ap (λ vs. v ∷ vs) (dropped memory t c 1 s h)) s

-- other values, over another memory
pub changed : (memory new n : Memory) (t : Thread) (c : Configuration) (values vs : List ℕ) → Stands memory t c → values ≡ vs ++ under_own c → new ≡ n → Stands new (record t { values = values }) (record (with_values c vs) { memory = n })
changed memory new n t c values vs s e m =
    record { values = e; frames = s.frames; kept = record { globals_are = s.kept.globals_are; table_is = s.kept.table_is; memory_is = m; fuel_is = s.kept.fuel_is } }

-- ---- the growth of memory

grow_there : (p : Program) (c : Configuration) (vs : List ℕ) → plain_step p c instr.MemoryGrow vs ≢ stuck → 0 < length vs
grow_there p c [] ok = absurd (ok refl)
grow_there p c (x ∷ vs) ok = omega arith

pub grow_needs : (p : Program) (memory : Memory) (t : Thread) (c : Configuration) → Stands memory t c → plain_step p c instr.MemoryGrow c.frame.values ≢ stuck → 0 < length t.values
grow_needs p memory t c s ok = there memory t c 1 s (grow_there p c c.frame.values ok)

grow_allowed : (memory new : Memory) (t : Thread) (c : Configuration) (p : Program) (x : ℕ) (values : List ℕ) (b : Bool) → Stands memory t c → 0 < length c.frame.values → b ≡ true → values ≡ pages_of memory.segments ∷ drop 1 t.values → new ≡ grown memory (low w32 x) → StageStands new (record t { values = values }) stage.Runs (if b then goes (record (with_values c (pages_of c.memory.segments ∷ drop 1 c.frame.values)) { memory = grown c.memory (low w32 x) }) else goes (with_values c ((2 ^ 32 - 1) ∷ drop 1 c.frame.values)))
grow_allowed memory new t c p x values b s h may e n =
    let m = s.kept.memory_is in
    let v : values ≡ (pages_of c.memory.segments ∷ drop 1 c.frame.values) ++ under_own c =
    e ∙ ap (λ (k : Memory). pages_of k.segments ∷ drop 1 t.values) m ∙ ap (λ vs. pages_of c.memory.segments ∷ vs) (dropped memory t c 1 s h) in
    let r = changed memory new (grown c.memory (low w32 x)) t c values (pages_of c.memory.segments ∷ drop 1 c.frame.values) s v (n ∙ ap (λ k. grown k (low w32 x)) m) in
    subst (λ k. StageStands new (record t { values = values }) stage.Runs (if k then goes (record (with_values c (pages_of c.memory.segments ∷ drop 1 c.frame.values)) { memory = grown c.memory (low w32 x) }) else goes (with_values c ((2 ^ 32 - 1) ∷ drop 1 c.frame.values)))) (sym may) r

pub grow_done : (memory new : Memory) (t : Thread) (c : Configuration) (p : Program) (x most : ℕ) (values : List ℕ) (st : Stage) → Stands memory t c → st ≡ stage.Runs → plain_step p c instr.MemoryGrow c.frame.values ≢ stuck → slice_get t.values 0 ≡ Some x → most ≡ p.most_pages → may_grow memory (low w32 x) most ≡ true → new ≡ grown memory (low w32 x) → values ≡ pages_of memory.segments ∷ drop 1 t.values → StageStands new (record t { values = values }) st (plain_step p c instr.MemoryGrow c.frame.values)
grow_done memory new t c p x most values st s runs ok top most_is may n e =
    let h = grow_there p c c.frame.values ok in
    let m = s.kept.memory_is in
    let b : may_grow c.memory (low w32 x) p.most_pages ≡ true = sym (ap (λ k. may_grow k (low w32 x) most) m ∙ ap (may_grow c.memory (low w32 x)) most_is) ∙ may in
    let r = grow_allowed memory new t c p x values (may_grow c.memory (low w32 x) p.most_pages) s h b e n in
    subst (λ (k : Stage). StageStands new (record t { values = values }) k (plain_step p c instr.MemoryGrow c.frame.values)) (sym runs)
    (subst (λ vs. StageStands new (record t { values = values }) stage.Runs (plain_step p c instr.MemoryGrow vs)) (sym (top_is memory t c x s top h)) r)

grow_denied : (memory new : Memory) (t : Thread) (c : Configuration) (p : Program) (x : ℕ) (values : List ℕ) (b : Bool) → Stands memory t c → 0 < length c.frame.values → b ≡ false → values ≡ 4294967295 ∷ drop 1 t.values → new ≡ memory → StageStands new (record t { values = values }) stage.Runs (if b then goes (record (with_values c (pages_of c.memory.segments ∷ drop 1 c.frame.values)) { memory = grown c.memory (low w32 x) }) else goes (with_values c ((2 ^ 32 - 1) ∷ drop 1 c.frame.values)))
grow_denied memory new t c p x values b s h may e n =
    let v : values ≡ (4294967295 ∷ drop 1 c.frame.values) ++ under_own c = e ∙ ap (λ vs. 4294967295 ∷ vs) (dropped memory t c 1 s h) in
    let r = changed memory new c.memory t c values (4294967295 ∷ drop 1 c.frame.values) s v (n ∙ s.kept.memory_is) in
    subst (λ k. StageStands new (record t { values = values }) stage.Runs (if k then goes (record (with_values c (pages_of c.memory.segments ∷ drop 1 c.frame.values)) { memory = grown c.memory (low w32 x) }) else goes (with_values c ((2 ^ 32 - 1) ∷ drop 1 c.frame.values)))) (sym may) r

pub grow_refused : (memory new : Memory) (t : Thread) (c : Configuration) (p : Program) (x most : ℕ) (values : List ℕ) (st : Stage) → Stands memory t c → st ≡ stage.Runs → plain_step p c instr.MemoryGrow c.frame.values ≢ stuck → slice_get t.values 0 ≡ Some x → most ≡ p.most_pages → may_grow memory (low w32 x) most ≡ false → new ≡ memory → values ≡ 4294967295 ∷ drop 1 t.values → StageStands new (record t { values = values }) st (plain_step p c instr.MemoryGrow c.frame.values)
grow_refused memory new t c p x most values st s runs ok top most_is may n e =
    let h = grow_there p c c.frame.values ok in
    let m = s.kept.memory_is in
    let b : may_grow c.memory (low w32 x) p.most_pages ≡ false = sym (ap (λ k. may_grow k (low w32 x) most) m ∙ ap (may_grow c.memory (low w32 x)) most_is) ∙ may in
    let r = grow_denied memory new t c p x values (may_grow c.memory (low w32 x) p.most_pages) s h b e n in
    subst (λ (k : Stage). StageStands new (record t { values = values }) k (plain_step p c instr.MemoryGrow c.frame.values)) (sym runs)
    (subst (λ vs. StageStands new (record t { values = values }) stage.Runs (plain_step p c instr.MemoryGrow vs)) (sym (top_is memory t c x s top h)) r)

-- ---- a load

pub record LoadThere (c : Configuration) (op offset : ℕ) : Type 0 where
  pub row : Load
  pub row_is : load_of op ≡ Some row
  pub some : 0 < length c.frame.values
  pub is : (x : ℕ) → c.frame.values ≡ x ∷ drop 1 c.frame.values → begin_load c op offset c.frame.values ≡ load_at c row (low w32 x + offset)

load_row : (c : Configuration) (at : ℕ) (o : Option Load) → elim o as (λ _. Next) [ None ↦ stuck | Some l ↦ load_at c l at ] ≢ stuck → (l : Load) × (o ≡ Some l)
load_row c at None ok = absurd (ok refl)
load_row c at (Some l) ok = (l, refl)

load_some : (c : Configuration) (op offset : ℕ) (vs : List ℕ) → begin_load c op offset vs ≢ stuck → (0 < length vs) × ((l : Load) × (load_of op ≡ Some l))
load_some c op offset [] ok = absurd (ok refl)
load_some c op offset (x ∷ vs) ok = (omega arith, load_row c (low w32 x + offset) (load_of op) ok)

pub load_there : (c : Configuration) (op offset : ℕ) → begin_load c op offset c.frame.values ≢ stuck → LoadThere c op offset
load_there c op offset ok =
    let k = load_some c op offset c.frame.values ok in
    record {
      row = k.1.0;
      row_is = k.1.1;
      some = k.0;
      is = λ x e. ap (begin_load c op offset) e ∙ ap (λ o. elim o as (λ _. Next) [ None ↦ stuck | Some l ↦ load_at c l (low w32 x + offset) ]) k.1.1;
    }

-- a load of private bytes
pub load_private : (memory : Memory) (t : Thread) (c : Configuration) (l : Load) (addr size v n : ℕ) (values : List ℕ) → Stands memory t c → 0 < length c.frame.values → size ≡ load_size l → lies_in memory addr size ≡ true → shared_pieces memory addr size ≡ [] → n ≡ number (read_bytes addr size memory.bytes) → v ≡ extended l n → values ≡ v ∷ drop 1 t.values → StageStands memory (record t { values = values }) stage.Runs (load_at c l addr)
load_private memory t c l addr size v n values s h z inside alone is ext e =
    let m = s.kept.memory_is in
    let i : lies_in c.memory addr (load_size l) ≡ true = sym (ap (λ k. lies_in k addr size) m ∙ ap (lies_in c.memory addr) z) ∙ inside in
    let a : shared_pieces c.memory addr (load_size l) ≡ [] = sym (ap (λ k. shared_pieces k addr size) m ∙ ap (shared_pieces c.memory addr) z) ∙ alone in
    let b : read_bytes addr size memory.bytes ≡ read_bytes addr (load_size l) c.memory.bytes = ap (λ (k : Memory). read_bytes addr size k.bytes) m ∙ ap (λ k. read_bytes addr k c.memory.bytes) z in
    let w : v ≡ loaded l (read_bytes addr (load_size l) c.memory.bytes) = ext ∙ ap (extended l) (is ∙ ap number b) in
    let r = replaced memory t c (loaded l (read_bytes addr (load_size l) c.memory.bytes)) values s h (e ∙ ap (λ k. k ∷ drop 1 t.values) w) in
    subst (λ k. StageStands memory (record t { values = values }) stage.Runs (if k then load_on c l (reading c.memory addr (load_size l)) else traps c trap.OutOfBounds)) (sym i)
    (subst (λ ps. StageStands memory (record t { values = values }) stage.Runs (load_on c l (reads addr (load_size l) ps c.memory.bytes))) (sym a) r)

-- ---- a store

pub record StoreThere (p : Program) (c : Configuration) (op offset : ℕ) : Type 0 where
  pub size : ℕ
  pub row_is : store_of op ≡ Some size
  pub some : 2 ≤ length c.frame.values
  pub is : (v x : ℕ) → c.frame.values ≡ v ∷ (x ∷ drop 2 c.frame.values) → begin_store p c op offset c.frame.values ≡ store_at p c (low w32 x + offset) (bytes_of size v)

store_row : (p : Program) (c : Configuration) (at v : ℕ) (o : Option ℕ) → elim o as (λ _. Next) [ None ↦ stuck | Some n ↦ store_at p c at (bytes_of n v) ] ≢ stuck → (n : ℕ) × (o ≡ Some n)
store_row p c at v None ok = absurd (ok refl)
store_row p c at v (Some n) ok = (n, refl)

store_some : (p : Program) (c : Configuration) (op offset : ℕ) (vs : List ℕ) → begin_store p c op offset vs ≢ stuck → (2 ≤ length vs) × ((n : ℕ) × (store_of op ≡ Some n))
store_some p c op offset [] ok = absurd (ok refl)
store_some p c op offset (v ∷ []) ok = absurd (ok refl)
store_some p c op offset (v ∷ x ∷ vs) ok = (omega arith, store_row p c (low w32 x + offset) v (store_of op) ok)

pub store_there : (p : Program) (c : Configuration) (op offset : ℕ) → begin_store p c op offset c.frame.values ≢ stuck → StoreThere p c op offset
store_there p c op offset ok =
    let k = store_some p c op offset c.frame.values ok in
    record {
      size = k.1.0;
      row_is = k.1.1;
      some = k.0;
      is = λ v x e. ap (begin_store p c op offset) e ∙ ap (λ o. elim o as (λ _. Next) [ None ↦ stuck | Some n ↦ store_at p c (low w32 x + offset) (bytes_of n v) ]) k.1.1;
    }

-- there were bytes up to an address where others were put
long_enough : (old new : Memory) (at : ℕ) (bs : List ℕ) → new ≡ put old at bs → IsMemory new → at + length bs ≤ size_of old → at ≤ length old.bytes
long_enough old new at bs e sound inside =
    let l : length (over old.bytes at bs) ≡ size_of new = sym (ap (λ (m : Memory). length m.bytes) e) ∙ sound.long in
    let z : size_of new ≡ size_of old = ap size_of e in
    let rest = drop (at + length bs) old.bytes in
    let n = length-append (take at old.bytes) (bs ++ rest) in
    let k = length-append bs rest in
    let f = length-take at old.bytes in
    let d = length-drop (at + length bs) old.bytes in
    omega arith

-- a store of private bytes
pub store_private : (memory new : Memory) (t : Thread) (c : Configuration) (p : Program) (addr size v : ℕ) (values : List ℕ) → Stands memory t c → 2 ≤ length c.frame.values → lies_in memory addr size ≡ true → shared_pieces memory addr size ≡ [] → new ≡ put memory addr (bytes_of size v) → IsMemory new → values ≡ drop 2 t.values → StageStands new (record t { values = values }) stage.Runs (store_at p c addr (bytes_of size v))
store_private memory new t c p addr size v values s h inside alone is sound e =
    let m = s.kept.memory_is in
    let bs = bytes_of size v in
    let len : size ≡ length bs = sym (bytes_many size v) in
    let i : lies_in c.memory addr (length bs) ≡ true = sym (ap (λ k. lies_in k addr size) m ∙ ap (lies_in c.memory addr) len) ∙ inside in
    let a : shared_pieces c.memory addr (length bs) ≡ [] = sym (ap (λ k. shared_pieces k addr size) m ∙ ap (shared_pieces c.memory addr) len) ∙ alone in
    let n : new ≡ put c.memory addr bs = is ∙ ap (λ k. put k addr bs) m in
    let high = inside_is c.memory addr (length bs) i in
    let long = long_enough c.memory new addr bs n sound high in
    let w : writing c.memory addr bs ≡ record { memory = put c.memory addr bs; access = writes [] [] } = write_all c.memory.segments 0 addr (length bs) c.memory bs refl (omega arith) (omega arith) long a in
    let r = changed memory new (put c.memory addr bs) t c values (under 2 c) s (e ∙ dropped memory t c 2 s h) n in
    let T : Thread = record t { values = values } in
    subst (λ k. StageStands new T stage.Runs (if k then (if all_granted p.grants write_mode (shared_pieces c.memory addr (length bs)) then stored c (writing c.memory addr bs) else traps c trap.Denied) else traps c trap.OutOfBounds)) (sym i)
    (subst (λ ps. StageStands new T stage.Runs (if all_granted p.grants write_mode ps then stored c (writing c.memory addr bs) else traps c trap.Denied)) (sym a)
    (subst (λ k. StageStands new T stage.Runs (stored c k)) (sym w) r))

top_some : (vs low : List ℕ) → 0 < length vs → (x : ℕ) × (slice_get (vs ++ low) 0 ≡ Some x)
top_some [] low h = absurd (omega arith)
top_some (x ∷ vs) low h = (x, refl)

pub top_there : (memory : Memory) (t : Thread) (c : Configuration) → Stands memory t c → 0 < length c.frame.values → (x : ℕ) × (slice_get t.values 0 ≡ Some x)
top_there memory t c s h = let (x, e) = top_some c.frame.values (under_own c) h in (x, ap (λ vs. slice_get vs 0) s.values ∙ e)

second_some : (vs low : List ℕ) → 2 ≤ length vs → (x : ℕ) × (slice_get (vs ++ low) 1 ≡ Some x)
second_some [] low h = absurd (omega arith)
second_some (x ∷ []) low h = absurd (omega arith)
second_some (x ∷ y ∷ vs) low h = (y, refl)

pub second_there : (memory : Memory) (t : Thread) (c : Configuration) → Stands memory t c → 2 ≤ length c.frame.values → (x : ℕ) × (slice_get t.values 1 ≡ Some x)
second_there memory t c s h = let (x, e) = second_some c.frame.values (under_own c) h in (x, ap (λ vs. slice_get vs 1) s.values ∙ e)

-- ---- the effective address, and what begins there

pub load_from : (memory old : Memory) (new t : Thread) (st : Stage) (c : Configuration) (op offset addr : ℕ) → (k : LoadThere c op offset) → Stands old t c → ((x : ℕ) → slice_get t.values 0 ≡ Some x → addr ≡ low w32 x + offset) → StageStands memory new st (load_at c k.row addr) → StageStands memory new st (begin_load c op offset c.frame.values)
load_from memory old new t st c op offset addr k s sum r =
    let (x, top) = top_there old t c s k.some in
    let e : load_at c k.row addr ≡ begin_load c op offset c.frame.values = ap (load_at c k.row) (sum x top) ∙ sym (k.is x (top_is old t c x s top k.some)) in
    subst (StageStands memory new st) e r

pub store_from : (memory old : Memory) (new t : Thread) (st : Stage) (p : Program) (c : Configuration) (op offset addr size v : ℕ) → (k : StoreThere p c op offset) → Stands old t c → size ≡ k.size → slice_get t.values 0 ≡ Some v → ((x : ℕ) → slice_get t.values 1 ≡ Some x → addr ≡ low w32 x + offset) → StageStands memory new st (store_at p c addr (bytes_of size v)) → StageStands memory new st (begin_store p c op offset c.frame.values)
store_from memory old new t st p c op offset addr size v k s same first sum r =
    let (x, second) = second_there old t c s k.some in
    let e : store_at p c addr (bytes_of size v) ≡ begin_store p c op offset c.frame.values =
    ap (λ a. store_at p c a (bytes_of size v)) (sum x second) ∙ ap (λ n. store_at p c (low w32 x + offset) (bytes_of n v)) same
    ∙ sym (k.is v x (two_are old t c v x s first second k.some)) in
    subst (StageStands memory new st) e r

pub load_begins : (memory new : Memory) (t u : Thread) (st : Stage) (c : Configuration) (l : Load) (addr size : ℕ) → Stands memory t c → size ≡ load_size l → lies_in memory addr size ≡ true → StageStands new u st (load_on c l (reads addr size (shared_pieces memory (addr + 0) (size - 0)) c.memory.bytes)) → StageStands new u st (load_at c l addr)
load_begins memory new t u st c l addr size s z inside r =
    let m = s.kept.memory_is in
    let i : lies_in c.memory addr (load_size l) ≡ true = sym (ap (λ k. lies_in k addr size) m ∙ ap (lies_in c.memory addr) z) ∙ inside in
    let a : addr + 0 ≡ addr = omega arith in
    let b : size - 0 ≡ size = omega arith in
    let e : shared_pieces memory (addr + 0) (size - 0) ≡ shared_pieces c.memory addr size = ap (λ k. shared_pieces memory k (size - 0)) a ∙ ap (shared_pieces memory addr) b ∙ ap (λ k. shared_pieces k addr size) m in
    let f : load_on c l (reads addr size (shared_pieces memory (addr + 0) (size - 0)) c.memory.bytes) ≡ load_on c l (reading c.memory addr (load_size l)) =
    ap (λ ps. load_on c l (reads addr size ps c.memory.bytes)) e ∙ ap (λ n. load_on c l (reading c.memory addr n)) z in
    subst (λ k. StageStands new u st (if k then load_on c l (reading c.memory addr (load_size l)) else traps c trap.OutOfBounds)) (sym i) (subst (StageStands new u st) f r)

pub store_begins : (memory new : Memory) (t u : Thread) (st : Stage) (p : Program) (c : Configuration) (addr size v : ℕ) → Stands memory t c → lies_in memory addr size ≡ true → all_granted p.grants write_mode (shared_pieces memory addr size) ≡ true → StageStands new u st (stored c (write_on (pieces memory (addr + 0) (size - 0)) memory (left_to_write size 0 v))) → StageStands new u st (store_at p c addr (bytes_of size v))
store_begins memory new t u st p c addr size v s inside granted r =
    let m = s.kept.memory_is in
    let bs = bytes_of size v in
    let len : size ≡ length bs = sym (bytes_many size v) in
    let i : lies_in c.memory addr (length bs) ≡ true = sym (ap (λ k. lies_in k addr size) m ∙ ap (lies_in c.memory addr) len) ∙ inside in
    let g : all_granted p.grants write_mode (shared_pieces c.memory addr (length bs)) ≡ true =
    sym (ap (λ k. all_granted p.grants write_mode (shared_pieces k addr size)) m ∙ ap (λ k. all_granted p.grants write_mode (shared_pieces c.memory addr k)) len) ∙ granted in
    let a : addr + 0 ≡ addr = omega arith in
    let b : size - 0 ≡ size = omega arith in
    let w : v / 2 ^ (8 * 0) ≡ v = omega arith in
    let left : left_to_write size 0 v ≡ bs = ap (λ k. bytes_of k (v / 2 ^ (8 * 0))) b ∙ ap (bytes_of size) w in
    let e : write_on (pieces memory (addr + 0) (size - 0)) memory (left_to_write size 0 v) ≡ writing c.memory addr bs =
    ap (write_on (pieces memory (addr + 0) (size - 0)) memory) left
    ∙ ap (λ k. write_on (pieces memory k (size - 0)) memory bs) a ∙ ap (λ k. write_on (pieces memory addr k) memory bs) (b ∙ len) ∙ ap (λ k. write_on (pieces k addr (length bs)) k bs) m in
    subst (λ k. StageStands new u st (if k then (if all_granted p.grants write_mode (shared_pieces c.memory addr (length bs)) then stored c (writing c.memory addr bs) else traps c trap.Denied) else traps c trap.OutOfBounds)) (sym i)
    (subst (λ k. StageStands new u st (if k then stored c (writing c.memory addr bs) else traps c trap.Denied)) (sym g)
    (subst (λ k. StageStands new u st (stored c k)) e r))
