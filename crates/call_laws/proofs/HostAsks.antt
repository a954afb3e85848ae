-- Where a machine stands at a host call, the call's numbers are below 2 ^ 32 and its buffer is no longer than it may be.
use Rattle.std.proofs.Common.{◌≡◌, ℕ, zero, suc, ◌^◌, ◌<◌, ◌≤◌, Bool, true, false, cond, List, [], ◌∷◌, length, map, reverse, take, drop, Option, Some, None, refl, sym, subst}
use Rattle.std.specs.Prelude.{◌+◌, ◌-◌, ◌/◌, slice_get, nat_lt, nat_le, option_and_then, Result, Ok, Err}
use Rattle.std.specs.Int.{w32}
use Rattle.std.proofs.lemmas.Bool.{leb-true}
use Rattle.faaslet_meaning.specs.declared.instr.Instr.{Instr}
use Rattle.faaslet_meaning.specs.declared.instr.Instr.TheVariants.{Unreachable, Nop, Br, BrIf, BrTable, Return, Call, CallIndirect, Drop, Select, LocalGet, LocalSet, LocalTee, GlobalGet, GlobalSet, Load, Store, MemorySize, MemoryGrow, I32Const, I64Const, Num}
use Rattle.faaslet_meaning.specs.declared.module.FuncType.{FuncType}
use Rattle.faaslet_meaning.specs.declared.outcome.Trap.{Trap}
use Rattle.faaslet_meaning.specs.declared.outcome.Outcome.TheVariants as outcome
use Rattle.faaslet_meaning.specs.declared.outcome.Trap.TheVariants as trap
use Rattle.faaslet_meaning.specs.declared.grant.Mode.TheVariants.{Write}
use Rattle.faaslet_meaning.specs.Integers.{low, Numeric, test, compare, unary, binary, convert, numeric_of, binary_row}
use Rattle.faaslet_meaning.specs.LoadStore.{load_of, store_of, bytes_of, load_size}
use Rattle.faaslet_meaning.specs.LoadStore as bytes
use Rattle.faaslet_meaning.specs.Tree.{Tree, stop, plain, block, loop, if_then, if_else, arity_of}
use Rattle.faaslet_meaning.specs.Memory.{Access, reads, writes, lies_in, may_grow, reading, writing, shared_pieces}
use Rattle.faaslet_meaning.specs.HostCalls.{HostCall, Form, of_none, of_one, of_two, of_three, of_four, made, HostRow, host_rows, Buffer, buffer_of}
use Rattle.faaslet_meaning.specs.Configuration.{Program, Func, hosted, defined, Label, Frame, Configuration, Next, ends, calls, stuck, labels_held, values_held}
use Rattle.faaslet_meaning.specs.Limits.{push, enter, with_values, has_room, label_limit, value_limit}
use Rattle.faaslet_meaning.specs.ControlRules.{choose, results_to, leave_frame, leave, branch_to, branch, host_by, host_made, buffer_limit, call, call_indirect, call_element, call_typed, same_type}
use Rattle.faaslet_meaning.specs.MemoryRules.{load_on, store_on, load_at, store_at, begin_load, begin_store, all_granted}
use Rattle.faaslet_meaning.specs.Step as rules
use Rattle.faaslet_meaning.specs.Step.{numeric, plain_step, if_step, with_rest, begin, paid, step_at, step}
use Rattle.call_laws.specs.HostAsks.{call_numbers, IsHostAsk}
use Rattle.faaslet_meaning.proofs.CallParts.{Each, all_each, each_append}
use mir.Val.{bits}
use Rattle.std.proofs.lemmas.Nat.{pow_pos, mod_below}
use Rattle.std.proofs.lemmas.List.{reverse-append}

abbrev Small : ℕ → Type 0
Small n = n < 2 ^ 32

-- a buffer is no longer than it may be
abbrev Short : Option Buffer → Type 0
Short None = Unit {0}
Short (Some b) = b.len ≤ buffer_limit

abbrev Good : Next → Type 0
Good (calls c h) = Each Small (call_numbers h) × Short (buffer_of h)
Good _ = Unit {0}

either : (b : Bool) (x y : Next) → Good x → Good y → Good (cond b x y)
either true x y h k = h
either false x y h k = k

-- ---- A host call is made of numbers that are small.

abbrev FormOk : Form → Type 0
FormOk (of_none h) = Each Small (call_numbers h)
FormOk (of_one f) = (x : ℕ) → Small x → Each Small (call_numbers (f x))
FormOk (of_two f) = (x y : ℕ) → Small x → Small y → Each Small (call_numbers (f x y))
FormOk (of_three f) = (x y z : ℕ) → Small x → Small y → Small z → Each Small (call_numbers (f x y z))
FormOk (of_four f) = (x y z u : ℕ) → Small x → Small y → Small z → Small u → Each Small (call_numbers (f x y z u))

rows_ok : Each (λ r. FormOk r.form) host_rows
rows_ok =
    ((λ k a. (a, tt)), ((λ k a. (a, tt)), ((λ k a. (a, tt)), ((λ k x y z a b c d. (a, (b, (c, (d, tt))))), ((λ k x y z a b c d. (a, (b, (c, (d, tt))))), ((λ k a. (a, tt)), ((λ k a. (a, tt)), ((λ k x y a b c. (a, (b, (c, tt)))), ((λ k x y a b c. (a, (b, (c, tt)))), ((λ k x y a b c. (a, (b, (c, tt)))), ((λ k a. (a, tt)), ((λ k a. (a, tt)), ((λ k a. (a, tt)), ((λ k a. (a, tt)), ((λ k a. (a, tt)), ((λ k a. (a, tt)), (tt, ((λ k x y a b c. (a, (b, (c, tt)))), ((λ k x a b. (a, (b, tt))), ((λ k x y a b c. (a, (b, (c, tt)))), ((λ k a. (a, tt)), ((λ k a. (a, tt)), ((λ k x y z a b c d. (a, (b, (c, (d, tt))))), tt)))))))))))))))))))))))

each_get : {A : Type 0} (P : A → Type 0) (xs : List A) (k : ℕ) (x : A) → Each P xs → slice_get xs k ≡ Some x → P x
each_get P [] k x h e = absurd cc
each_get P (y ∷ xs) zero x h e = let same : y ≡ x = cc in subst P same h.0
each_get P (y ∷ xs) (suc k) x h e = each_get P xs k x h.1 e

some_same : {A : Type 0} {x y : A} → Some x ≡ Some y → x ≡ y
some_same e = cc

made_small : (form : Form) (args : List ℕ) (h : HostCall) → FormOk form → Each Small args → made form args ≡ Some h → Each Small (call_numbers h)
made_small (of_none g) [] h ok small e = subst (λ x. Each Small (call_numbers x)) (some_same e) ok
made_small (of_one g) (x ∷ []) h ok small e = subst (λ c. Each Small (call_numbers c)) (some_same e) (ok x small.0)
made_small (of_two g) (x ∷ y ∷ []) h ok small e = subst (λ c. Each Small (call_numbers c)) (some_same e) (ok x y small.0 small.1.0)
made_small (of_three g) (x ∷ y ∷ z ∷ []) h ok small e = subst (λ c. Each Small (call_numbers c)) (some_same e) (ok x y z small.0 small.1.0 small.1.1.0)
made_small (of_four g) (x ∷ y ∷ z ∷ u ∷ []) h ok small e = subst (λ c. Each Small (call_numbers c)) (some_same e) (ok x y z u small.0 small.1.0 small.1.1.0 small.1.1.1.0)
made_small _ args h ok small e = absurd cc

lows_small : (xs : List ℕ) → Each Small (map (low w32) xs)
lows_small [] = tt
lows_small (x ∷ xs) = (mod_below x (2 ^ bits w32) (pow_pos (bits w32)), lows_small xs)

each_reverse : (xs : List ℕ) → Each Small xs → Each Small (reverse xs)
each_reverse [] h = tt
each_reverse (x ∷ xs) h = subst (Each Small) (sym (reverse-append (x ∷ []) xs)) (each_append Small (reverse xs) (x ∷ []) (each_reverse xs h.1) (h.0, tt))

by_row : (args : List ℕ) (o : Option HostRow) (n : ℕ) → slice_get host_rows n ≡ o → Each Small args → (h : HostCall) → option_and_then (λ r. made r.form args) o ≡ Some h → Each Small (call_numbers h)
by_row args None n e small h m = absurd cc
by_row args (Some r) n e small h m = made_small r.form args h (each_get (λ r. FormOk r.form) host_rows n r rows_ok e) small m

host_ok : (c : Configuration) (h : HostCall) (b : Option Buffer) → b ≡ buffer_of h → Each Small (call_numbers h) → Good (host_by c h b)
host_ok c h None e small = (small, subst Short e tt)
host_ok c h (Some b) e small = by (nat_le b.len buffer_limit) refl
  where
    by : (t : Bool) → nat_le b.len buffer_limit ≡ t → Good (cond t (cond (nat_le (b.len / 64) c.fuel) (calls (record c { fuel = c.fuel - b.len / 64 }) h) (ends c outcome.FuelOut)) (ends c (outcome.Trap trap.BufferTooLong)))
    by true t = either (nat_le (b.len / 64) c.fuel) (calls (record c { fuel = c.fuel - b.len / 64 }) h) (ends c outcome.FuelOut) (small, subst Short e (leb-true b.len buffer_limit t)) tt
    by false t = tt

made_ok : (c : Configuration) (o : Option HostCall) → ((h : HostCall) → o ≡ Some h → Each Small (call_numbers h)) → Good (host_made c o)
made_ok c None h = tt
made_ok c (Some k) h = host_ok c k (buffer_of k) refl (h k refl)

-- ---- The rules.

push_ok : (c : Configuration) (v : ℕ) → Good (push c v)
push_ok c v = either (nat_lt (values_held c) value_limit) _ _ tt tt

results_ok : (c : Configuration) (vs : List ℕ) (fs : List Frame) → Good (results_to c vs fs)
results_ok c vs [] = tt
results_ok c vs (f ∷ fs) = tt

frame_ok : (c : Configuration) → Good (leave_frame c)
frame_ok c = either (nat_le c.frame.arity (length c.frame.values)) _ stuck (results_ok c (take c.frame.arity c.frame.values) c.callers) tt

leave_ok : (c : Configuration) (ls : List Label) → Good (leave c ls)
leave_ok c [] = frame_ok c
leave_ok c (l ∷ ls) = tt

choice : (x : ℕ) (a b : Next) → Good a → Good b → Good (choose x a b)
choice x a b h k = by (low w32 x)
  where
    by : (y : ℕ) → Good (elim y [ zero ↦ b | suc m ↦ a ])
    by zero = k
    by (suc m) = h

enter_ok : (c : Configuration) (k : ℕ) (again : Option Tree) (body : Tree) → Good (enter c k again body)
enter_ok c k again body = either (nat_lt (labels_held c) label_limit) _ _ tt tt

to_ok : (c : Configuration) (l : Label) (again : Option Tree) (ls : List Label) → Good (branch_to c l again ls)
to_ok c l None ls = tt
to_ok c l (Some body) ls = tt

branch_ok : (c : Configuration) (k : ℕ) (ls : List Label) → Good (branch c k ls)
branch_ok c zero [] = frame_ok c
branch_ok c zero (l ∷ ls) = either (nat_le l.arity (length c.frame.values)) _ _ (to_ok c l l.again ls) tt
branch_ok c (suc k) [] = tt
branch_ok c (suc k) (l ∷ ls) = branch_ok c k ls

call_ok : (c : Configuration) (g : Func) → Good (call c g)
call_ok c (hosted k t) =
    let args = take (length t.params) c.frame.values in
    either (nat_le (length t.params) (length c.frame.values)) _ _
    (made_ok (with_values c (drop (length t.params) c.frame.values)) (option_and_then (λ r. made r.form (reverse (map (low w32) args))) (slice_get host_rows k)) (by_row (reverse (map (low w32) args)) (slice_get host_rows k) k refl (each_reverse (map (low w32) args) (lows_small args))))
    tt
call_ok c (defined t locals body) = either (nat_le (length t.params) (length c.frame.values)) _ _ (either (has_room c locals) _ _ tt tt) tt

found_ok : (c : Configuration) (o : Option Func) → Good (elim o [ None ↦ stuck | Some g ↦ call c g ])
found_ok c None = tt
found_ok c (Some g) = call_ok c g

typed_ok : (c : Configuration) (t : FuncType) (o : Option Func) → Good (elim o [ None ↦ stuck | Some g ↦ call_typed c t g ])
typed_ok c t None = tt
typed_ok c t (Some g) = either (same_type _ t) _ _ (call_ok c g) tt

element_ok : (p : Program) (c : Configuration) (t : FuncType) (e : Option (Option ℕ)) → Good (call_element p c t e)
element_ok p c t None = tt
element_ok p c t (Some None) = tt
element_ok p c t (Some (Some f)) = typed_ok c t (slice_get p.functions f)

indirect_ok : (p : Program) (c : Configuration) (t x : ℕ) → Good (call_indirect p c t x)
indirect_ok p c t x = by (slice_get p.types t)
  where
    by : (o : Option FuncType) → Good (elim o [ None ↦ stuck | Some type ↦ call_element p c type (slice_get c.table (low w32 x)) ])
    by None = tt
    by (Some type) = element_ok p c type _

load_on_ok : (c : Configuration) (l : bytes.Load) (a : Access) → Good (load_on c l a)
load_on_ok c l (reads at n [] copy) = tt
load_on_ok c l (reads at n (p ∷ ps) copy) = tt
load_on_ok c l (writes left bs) = tt

store_on_ok : (c : Configuration) (a : Access) → Good (store_on c a)
store_on_ok c (writes [] bs) = tt
store_on_ok c (writes (p ∷ ps) bs) = tt
store_on_ok c (reads at n left copy) = tt

load_ok : (c : Configuration) (op offset : ℕ) (vs : List ℕ) → Good (begin_load c op offset vs)
load_ok c op offset [] = tt
load_ok c op offset (x ∷ vs) = by (load_of op)
  where
    by : (o : Option bytes.Load) → Good (elim o [ None ↦ stuck | Some l ↦ load_at c l (low w32 x + offset) ])
    by None = tt
    by (Some l) = either (lies_in c.memory (low w32 x + offset) (load_size l)) _ _ (load_on_ok c l (reading c.memory (low w32 x + offset) (load_size l))) tt

store_ok : (p : Program) (c : Configuration) (op offset : ℕ) (vs : List ℕ) → Good (begin_store p c op offset vs)
store_ok p c op offset [] = tt
store_ok p c op offset (v ∷ []) = tt
store_ok p c op offset (v ∷ x ∷ vs) = by (store_of op)
  where
    at : ℕ
    at = low w32 x + offset

    by : (o : Option ℕ) → Good (elim o [ None ↦ stuck | Some k ↦ store_at p c (low w32 x + offset) (bytes_of k v) ])
    by None = tt
    by (Some k) =
        let w = writing c.memory (low w32 x + offset) (bytes_of k v) in
        either (lies_in c.memory (low w32 x + offset) (length (bytes_of k v))) _ _ (either (all_granted p.grants Write (shared_pieces c.memory (low w32 x + offset) (length (bytes_of k v)))) _ _ (store_on_ok (record c { memory = w.memory }) w.access) tt) tt

some_ok : (c : Configuration) (o : Option ℕ) → Good (rules.push_some c o)
some_ok c None = tt
some_ok c (Some v) = push_ok c v

gives_ok : (c : Configuration) (vs : List ℕ) (o : Result ℕ Trap) → Good (rules.gives c vs o)
gives_ok c vs (Ok v) = tt
gives_ok c vs (Err t) = tt

numeric_ok : (c : Configuration) (o : Option Numeric) (vs : List ℕ) → Good (numeric c o vs)
numeric_ok c (Some (test w)) (x ∷ vs) = tt
numeric_ok c (Some (compare f w)) (y ∷ x ∷ vs) = tt
numeric_ok c (Some (unary f w)) (x ∷ vs) = tt
numeric_ok c (Some (binary f w)) (y ∷ x ∷ vs) = gives_ok c vs (binary_row f w x y)
numeric_ok c (Some (convert f)) (x ∷ vs) = tt
numeric_ok c _ vs = tt

plain_ok : (p : Program) (c : Configuration) (i : Instr) (vs : List ℕ) → Good (plain_step p c i vs)
plain_ok p c Unreachable vs = tt
plain_ok p c Nop vs = tt
plain_ok p c (Br k) vs = branch_ok c k c.frame.labels
plain_ok p c (BrIf k) (x ∷ vs) = choice x _ _ (branch_ok (with_values c vs) k c.frame.labels) tt
plain_ok p c (BrTable ks k) (x ∷ vs) = branch_ok (with_values c vs) _ c.frame.labels
plain_ok p c Return vs = frame_ok c
plain_ok p c (Call f) vs = found_ok c (slice_get p.functions f)
plain_ok p c (CallIndirect t) (x ∷ vs) = indirect_ok p (with_values c vs) t x
plain_ok p c Drop (v ∷ vs) = tt
plain_ok p c Select (x ∷ b ∷ a ∷ vs) = choice x _ _ tt tt
plain_ok p c (LocalGet k) vs = some_ok c (slice_get c.frame.locals k)
plain_ok p c (LocalSet k) (v ∷ vs) = either (nat_lt k (length c.frame.locals)) _ _ tt tt
plain_ok p c (LocalTee k) (v ∷ vs) = either (nat_lt k (length c.frame.locals)) _ _ tt tt
plain_ok p c (GlobalGet k) vs = some_ok c (slice_get c.globals k)
plain_ok p c (GlobalSet k) (v ∷ vs) = either (nat_lt k (length c.globals)) _ _ tt tt
plain_ok p c (Load op a o) vs = load_ok c op o vs
plain_ok p c (Store op a o) vs = store_ok p c op o vs
plain_ok p c MemorySize vs = push_ok c _
plain_ok p c MemoryGrow (x ∷ vs) = either (may_grow c.memory (low w32 x) p.most_pages) _ _ tt tt
plain_ok p c (I32Const v) vs = push_ok c _
plain_ok p c (I64Const v) vs = push_ok c _
plain_ok p c (Num op) vs = numeric_ok c (numeric_of op) vs
plain_ok p c _ vs = tt

if_ok : (c : Configuration) (k : ℕ) (a b : Tree) (vs : List ℕ) → Good (if_step c k a b vs)
if_ok c k a b [] = tt
if_ok c k a b (x ∷ vs) = choice x _ _ (enter_ok (with_values c vs) k None a) (enter_ok (with_values c vs) k None b)

begin_ok : (p : Program) (c : Configuration) (e : Tree) → Good (begin p c e)
begin_ok p c stop = leave_ok c c.frame.labels
begin_ok p c (plain i e) = plain_ok p (with_rest c e) i c.frame.values
begin_ok p c (block t b e) = enter_ok (with_rest c e) (arity_of t) None b
begin_ok p c (loop t b e) = enter_ok (with_rest c e) 0 (Some b) b
begin_ok p c (if_then t b e) = if_ok (with_rest c e) (arity_of t) b stop c.frame.values
begin_ok p c (if_else t b d e) = if_ok (with_rest c e) (arity_of t) b d c.frame.values

paid_ok : (p : Program) (c : Configuration) (k : ℕ) (e : Tree) → Good (paid c k (λ d. begin p d e))
paid_ok p c zero e = tt
paid_ok p c (suc k) e = begin_ok p (record c { fuel = k }) e

at_ok : (p : Program) (c : Configuration) (e : Tree) → Good (step_at p c e)
at_ok p c stop = leave_ok c c.frame.labels
at_ok p c (plain i e) = paid_ok p c c.fuel (plain i e)
at_ok p c (block t b e) = paid_ok p c c.fuel (block t b e)
at_ok p c (loop t b e) = paid_ok p c c.fuel (loop t b e)
at_ok p c (if_then t b e) = paid_ok p c c.fuel (if_then t b e)
at_ok p c (if_else t b d e) = paid_ok p c c.fuel (if_else t b d e)

short_of : (o : Option Buffer) (b : Buffer) → Short o → o ≡ Some b → b.len ≤ buffer_limit
short_of o b h e = subst Short e h

pub host_asks_carried : (p : Program) (c d : Configuration) (h : HostCall) → step p c ≡ calls d h → IsHostAsk h
host_asks_carried p c d h e =
    let g = subst Good e (at_ok p c c.frame.rest) in
    record { numbers = all_each Small (call_numbers h) g.0; buffer = λ b is. short_of (buffer_of h) b g.1 is }
