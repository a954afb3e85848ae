-- A step of a typed configuration is not stuck, and leads to a typed one.
use Rattle.std.proofs.Common.{◌≡◌, ℕ, zero, suc, ◌+◌, ◌<◌, List, [], ◌∷◌, ◌++◌, length, refl, sym, ap, ◌∙◌, subst, arith, None, Some, Option, Result, Ok, Err, length-append, length-drop}
use Rattle.std.specs.Prelude.{slice_get, slice_set, slice_index_or, nat_lt, is_some, true}
use Rattle.std.specs.Int.{w32}
use Rattle.std.proofs.lemmas.Bool.{lt-ltb}
use Rattle.std.proofs.lemmas.List.{length-reverse, length-set}
use Rattle.std.proofs.lemmas.Option.{slice_get_within, slice_get-get_or}
use Rattle.faaslet_meaning.specs.declared.instr.ValType.{ValType}
use Rattle.faaslet_meaning.specs.declared.instr.ValType.TheVariants.{I32, I64}
use Rattle.faaslet_meaning.specs.declared.instr.Instr.{Instr}
use Rattle.faaslet_meaning.specs.declared.instr.Instr.TheVariants.{Unreachable, Nop, Block, Loop, If, Else, End, Br, BrIf, BrTable, Return, Call, CallIndirect, Drop, Select, LocalGet, LocalSet, LocalTee, GlobalGet, GlobalSet, Load, Store, MemorySize, MemoryGrow, I32Const, I64Const, F32Const, F64Const, Num}
use Rattle.faaslet_meaning.specs.declared.module.GlobalType.{GlobalType}
use Rattle.faaslet_meaning.specs.declared.outcome.Trap.{Trap}
use Rattle.faaslet_meaning.specs.declared.outcome.Trap.TheVariants as trap
use Rattle.faaslet_meaning.specs.Integers.{low, Numeric, test, compare, unary, binary, convert, wrap, extend_s, extend_u, binary_row}
use Rattle.faaslet_meaning.specs.LoadStore.{load_of, store_of, bytes_of}
use Rattle.faaslet_meaning.specs.LoadStore as bytes
use Rattle.faaslet_meaning.specs.Tree.{Tree, stop, plain, block, loop, if_then, if_else, arity_of}
use Rattle.faaslet_meaning.specs.Memory.{may_grow}
use Rattle.faaslet_meaning.specs.Configuration.{Program, Configuration, stuck, values_held}
use Rattle.faaslet_meaning.specs.Limits.{traps, with_values, value_limit}
use Rattle.faaslet_meaning.specs.MemoryRules.{under, begin_load, begin_store, load_at, store_at}
use Rattle.faaslet_meaning.specs.Step.{push_some, set_local, set_global, gives, numeric, plain_step, with_rest, if_step, begin, paid, step_at, step, finished}
use Rattle.faaslet_meaning.specs.Typing.{Context, operands_of, Effect, with_label, Typed}
use Rattle.faaslet_meaning.specs.Tree.{types_of}
use Rattle.faaslet_meaning.specs.Fine.{Ground, Waits, ConfigOk, Keeps, ProgramOk, count, NextOk}
use Rattle.faaslet_meaning.proofs.Sound.{AroundConfig, Around, config_ok, either_ok, sure_ok, frame_ok, branch_ok, table_ok, push_ok, enter_ok, leave_ok, choose_ok}
use Rattle.faaslet_meaning.proofs.SoundCalls.{call_at_ok, indirect_ok}
use Rattle.faaslet_meaning.proofs.SoundMemory.{load_at_ok, store_at_ok}

counts : (c : Context) (i : Instr) (ts us : List ValType) (f : Effect c i ts us) → (length ts ≡ length f.takes + length f.under) × (length us ≡ length f.leaves + length f.under)
counts c i ts us f = (ap length f.before ∙ length-append f.takes f.under, ap length f.after ∙ length-append f.leaves f.under)

-- one more operand than there was
grows : (c : Context) (i : Instr) (ts us : List ValType) (f : Effect c i ts us) (t : ValType) → f.takes ≡ [] → f.leaves ≡ t ∷ [] → us ≡ t ∷ ts
grows c i ts us f t e h = f.after ∙ ap (λ l. l ++ f.under) h ∙ ap (λ l. t ∷ l) (sym (f.before ∙ ap (λ l. l ++ f.under) e))

arity_types : (t : Option ValType) → arity_of t ≡ length (types_of t)
arity_types None = refl
arity_types (Some t) = refl

module _ (g : Ground) where
  -- a list has what stands within it
  some_ok : (c : Configuration) (x : Context) (rs ts : List ValType) (vs : List ℕ) (i : ℕ) (o : Option ℕ) (t : ValType) → o ≡ slice_get vs i → i < length vs → AroundConfig g c x rs → length c.frame.values ≡ length ts → Typed c.frame.rest x rs (t ∷ ts) → NextOk g (push_some c o)
  some_ok c x rs ts vs i None t e lt a n h = let f : None ≡ Some (slice_index_or vs i 0) = e ∙ slice_get-get_or vs i 0 lt in absurd (cc)
  some_ok c x rs ts vs i (Some v) t e lt a n h = push_ok g c x rs ts v t a n h

  -- the operands are there, and any number may take their place
  numeric_ok : (c : Configuration) (n : Numeric) (vs : List ℕ) (k : ℕ) → Keeps g c → length vs ≡ length (operands_of n) + k → ((v : ℕ) (ws : List ℕ) → length ws ≡ k → ConfigOk g (with_values c (v ∷ ws))) → NextOk g (numeric c (Some n) vs)
  numeric_ok c (test w) [] k keeps n h = absurd (omega (arith, n))
  numeric_ok c (test w) (x ∷ vs) k keeps n h = h _ vs (omega (arith, n))
  numeric_ok c (compare f w) [] k keeps n h = absurd (omega (arith, n))
  numeric_ok c (compare f w) (y ∷ []) k keeps n h = absurd (omega (arith, n))
  numeric_ok c (compare f w) (y ∷ x ∷ vs) k keeps n h = h _ vs (omega (arith, n))
  numeric_ok c (unary f w) [] k keeps n h = absurd (omega (arith, n))
  numeric_ok c (unary f w) (x ∷ vs) k keeps n h = h _ vs (omega (arith, n))
  numeric_ok c (binary f w) [] k keeps n h = absurd (omega (arith, n))
  numeric_ok c (binary f w) (y ∷ []) k keeps n h = absurd (omega (arith, n))
  numeric_ok c (binary f w) (y ∷ x ∷ vs) k keeps n h = by (binary_row f w x y)
    where
      by : (r : Result ℕ Trap) → NextOk g (gives c vs r)
      by (Ok v) = h v vs (omega (arith, n))
      by (Err t) = keeps
  numeric_ok c (convert wrap) [] k keeps n h = absurd (omega (arith, n))
  numeric_ok c (convert extend_s) [] k keeps n h = absurd (omega (arith, n))
  numeric_ok c (convert extend_u) [] k keeps n h = absurd (omega (arith, n))
  numeric_ok c (convert wrap) (x ∷ vs) k keeps n h = h _ vs (omega (arith, n))
  numeric_ok c (convert extend_s) (x ∷ vs) k keeps n h = h _ vs (omega (arith, n))
  numeric_ok c (convert extend_u) (x ∷ vs) k keeps n h = h _ vs (omega (arith, n))

  set_local_ok : (c : Configuration) (x : Context) (rs us : List ValType) (i v : ℕ) (t : ValType) → slice_get x.locals i ≡ Some t → AroundConfig g c x rs → length c.frame.values ≡ length us → Typed c.frame.rest x rs us → NextOk g (set_local c i v)
  set_local_ok c x rs us i v t found a n h =
      let b : nat_lt i (length c.frame.locals) ≡ true = lt-ltb _ _ (omega (arith, a.locals_are, slice_get_within x.locals i t found)) in
      let same : length (slice_set c.frame.locals i v) ≡ length x.locals = length-set c.frame.locals i v ∙ a.locals_are in
      let around : Around g c.frame.labels c.frame.arity (slice_set c.frame.locals i v) c.callers c.globals c.table x rs = record { grounded = a.grounded; labels_ok = a.labels_ok; arity_is = a.arity_is; locals_are = same; callers_ok = a.callers_ok; globals_are = a.globals_are; table_ok = a.table_ok } in
      sure_ok g _ _ stuck b (config_ok g x rs us around n h)

  -- a global of the context is one of the configuration
  within_globals : (c : Configuration) (x : Context) (rs : List ValType) (i : ℕ) (t : GlobalType) → slice_get x.globals i ≡ Some t → AroundConfig g c x rs → i < length c.globals
  within_globals c x rs i t found a =
      let same : length x.globals ≡ length g.globals = ap (λ (k : Ground). length k.globals) a.grounded in
      omega (arith, same, a.globals_are, slice_get_within x.globals i t found)

  set_global_ok : (c : Configuration) (x : Context) (rs us : List ValType) (i v : ℕ) (t : GlobalType) → slice_get x.globals i ≡ Some t → AroundConfig g c x rs → length c.frame.values ≡ length us → Typed c.frame.rest x rs us → NextOk g (set_global c i v)
  set_global_ok c x rs us i v t found a n h =
      let b : nat_lt i (length c.globals) ≡ true = lt-ltb _ _ (within_globals c x rs i t found a) in
      let same : length (slice_set c.globals i v) ≡ length g.globals = length-set c.globals i v ∙ a.globals_are in
      let around : Around g c.frame.labels c.frame.arity c.frame.locals c.callers (slice_set c.globals i v) c.table x rs = record { grounded = a.grounded; labels_ok = a.labels_ok; arity_is = a.arity_is; locals_are = a.locals_are; callers_ok = a.callers_ok; globals_are = same; table_ok = a.table_ok } in
      sure_ok g _ _ stuck b (config_ok g x rs us around n h)

  load_begins : (c : Configuration) (op offset : ℕ) (l : bytes.Load) (x : ℕ) (vs : List ℕ) → load_of op ≡ Some l → ConfigOk g (with_values c (0 ∷ under 1 c)) → NextOk g (begin_load c op offset (x ∷ vs))
  load_begins c op offset l x vs e h = subst (λ o. NextOk g (elim o [ None ↦ stuck | Some m ↦ load_at c m (low w32 x + offset) ])) (sym e) (load_at_ok g c l (low w32 x + offset) h)

  store_begins : (p : Program) (c : Configuration) (op offset n v x : ℕ) (vs : List ℕ) → store_of op ≡ Some n → ConfigOk g (with_values c (under 2 c)) → NextOk g (begin_store p c op offset (v ∷ x ∷ vs))
  store_begins p c op offset n v x vs e h = subst (λ o. NextOk g (elim o [ None ↦ stuck | Some m ↦ store_at p c (low w32 x + offset) (bytes_of m v) ])) (sym e) (store_at_ok g p c (low w32 x + offset) (bytes_of n v) h)

  module _ (p : Program) (ok : ProgramOk p g) where
    -- a configuration in which an instruction without blocks is begun, and the rest follows it
    plain_ok : (c : Configuration) (x : Context) (rs ts us : List ValType) (i : Instr) (vs : List ℕ) → vs ≡ c.frame.values → AroundConfig g c x rs → length vs ≡ length ts → Effect x i ts us → Typed c.frame.rest x rs us → NextOk g (plain_step p c i vs)
    plain_ok c x rs ts us Unreachable vs e a n f h = (a.globals_are, a.table_ok)
    plain_ok c x rs ts us Nop vs e a n f h =
        let z = counts x Nop ts us f in
        config_ok g x rs us a (omega (arith, z, n, ap length e, ap length f.type.0, ap length f.type.1)) h
    plain_ok c x rs ts us (Br l) vs e a n f h =
        let z = counts x (Br l) ts us f in
        branch_ok g c x l c.frame.labels x.labels rs f.type.0 a f.type.2 (omega (arith, z, n, ap length e, ap length f.type.3, length-append f.type.0 f.type.1))
    plain_ok c x rs ts us (BrIf l) [] e a n f h = let z = counts x (BrIf l) ts us f in absurd (omega (arith, z, n, ap length f.type.2.0))
    plain_ok c x rs ts us (BrIf l) (v ∷ vs) e a n f h =
        let z = counts x (BrIf l) ts us f in
        choose_ok g v _ _
        (branch_ok g (with_values c vs) x l c.frame.labels x.labels rs f.type.0 a f.type.1 (omega (arith, z, n, ap length f.type.2.0)))
        (config_ok g x rs us a (omega (arith, z, n, ap length f.type.2.0, ap length f.type.2.1)) h)
    plain_ok c x rs ts us (BrTable ls l) [] e a n f h = let z = counts x (BrTable ls l) ts us f in absurd (omega (arith, z, n, ap length f.type.4))
    plain_ok c x rs ts us (BrTable ls l) (v ∷ vs) e a n f h =
        let z = counts x (BrTable ls l) ts us f in
        table_ok g (with_values c vs) x ls l v rs f.type.0 a f.type.2 f.type.3 (omega (arith, z, n, ap length f.type.4, length-append f.type.0 f.type.1))
    plain_ok c x rs ts us Return vs e a n f h =
        let z = counts x Return ts us f in
        frame_ok g c c.frame.labels x rs a (omega (arith, z, n, ap length e, ap length f.type.1, length-append x.results f.type.0))
    plain_ok c x rs ts us (Call k) vs e a n f h =
        let z = counts x (Call k) ts us f in
        let t = f.type.0 in
        call_at_ok g p ok c x rs us (length f.under) k t f.type.1 a (omega (arith, z, n, ap length e, ap length f.type.2.0, length-reverse t.params)) (omega (arith, z, ap length f.type.2.1)) h
    plain_ok c x rs ts us (CallIndirect k) [] e a n f h = let z = counts x (CallIndirect k) ts us f in absurd (omega (arith, z, n, ap length f.type.3.0))
    plain_ok c x rs ts us (CallIndirect k) (v ∷ vs) e a n f h =
        let z = counts x (CallIndirect k) ts us f in
        let t = f.type.0 in
        indirect_ok g p ok (with_values c vs) x rs us (length f.under) k v t f.type.1 a (omega (arith, z, n, ap length f.type.3.0, length-reverse t.params)) (omega (arith, z, ap length f.type.3.1)) h
    plain_ok c x rs ts us Drop [] e a n f h = let z = counts x Drop ts us f in absurd (omega (arith, z, n, ap length f.type.1.0))
    plain_ok c x rs ts us Drop (v ∷ vs) e a n f h = let z = counts x Drop ts us f in config_ok g x rs us a (omega (arith, z, n, ap length f.type.1.0, ap length f.type.1.1)) h
    plain_ok c x rs ts us Select [] e a n f h = let z = counts x Select ts us f in absurd (omega (arith, z, n, ap length f.type.1.0))
    plain_ok c x rs ts us Select (v ∷ []) e a n f h = let z = counts x Select ts us f in absurd (omega (arith, z, n, ap length f.type.1.0))
    plain_ok c x rs ts us Select (v ∷ w ∷ []) e a n f h = let z = counts x Select ts us f in absurd (omega (arith, z, n, ap length f.type.1.0))
    plain_ok c x rs ts us Select (v ∷ w ∷ u ∷ vs) e a n f h =
        let z = counts x Select ts us f in
        choose_ok g v _ _
        (config_ok g x rs us a (omega (arith, z, n, ap length f.type.1.0, ap length f.type.1.1)) h)
        (config_ok g x rs us a (omega (arith, z, n, ap length f.type.1.0, ap length f.type.1.1)) h)
    plain_ok c x rs ts us (LocalGet i) vs e a n f h =
        let t = f.type.0 in
        let same = grows x (LocalGet i) ts us f t f.type.2.0 f.type.2.1 in
        some_ok c x rs ts c.frame.locals i (slice_get c.frame.locals i) t refl (omega (arith, a.locals_are, slice_get_within x.locals i t f.type.1)) a (omega (arith, n, ap length e)) (subst (λ l. Typed c.frame.rest x rs l) same h)
    plain_ok c x rs ts us (LocalSet i) [] e a n f h = let z = counts x (LocalSet i) ts us f in absurd (omega (arith, z, n, ap length f.type.2.0))
    plain_ok c x rs ts us (LocalSet i) (v ∷ vs) e a n f h =
        let z = counts x (LocalSet i) ts us f in
        set_local_ok (with_values c vs) x rs us i v f.type.0 f.type.1 a (omega (arith, z, n, ap length f.type.2.0, ap length f.type.2.1)) h
    plain_ok c x rs ts us (LocalTee i) [] e a n f h = let z = counts x (LocalTee i) ts us f in absurd (omega (arith, z, n, ap length f.type.2.0))
    plain_ok c x rs ts us (LocalTee i) (v ∷ vs) e a n f h =
        let z = counts x (LocalTee i) ts us f in
        set_local_ok c x rs us i v f.type.0 f.type.1 a (omega (arith, z, n, ap length e, ap length f.type.2.0, ap length f.type.2.1)) h
    plain_ok c x rs ts us (GlobalGet i) vs e a n f h =
        let t = f.type.0 in
        let same = grows x (GlobalGet i) ts us f t.value f.type.2.0 f.type.2.1 in
        some_ok c x rs ts c.globals i (slice_get c.globals i) t.value refl (within_globals c x rs i t f.type.1 a) a (omega (arith, n, ap length e)) (subst (λ l. Typed c.frame.rest x rs l) same h)
    plain_ok c x rs ts us (GlobalSet i) [] e a n f h = let z = counts x (GlobalSet i) ts us f in absurd (omega (arith, z, n, ap length f.type.3.0))
    plain_ok c x rs ts us (GlobalSet i) (v ∷ vs) e a n f h =
        let z = counts x (GlobalSet i) ts us f in
        set_global_ok (with_values c vs) x rs us i v f.type.0 f.type.1 a (omega (arith, z, n, ap length f.type.3.0, ap length f.type.3.1)) h
    plain_ok c x rs ts us (Load op align offset) [] e a n f h = let z = counts x (Load op align offset) ts us f in absurd (omega (arith, z, n, ap length f.type.4.0))
    plain_ok c x rs ts us (Load op align offset) (v ∷ vs) e a n f h =
        let z = counts x (Load op align offset) ts us f in
        load_begins c op offset f.type.0 v vs f.type.1 (config_ok g x rs us a (omega (arith, z, n, ap length e, length-drop 1 c.frame.values, ap length f.type.4.0, ap length f.type.4.1)) h)
    plain_ok c x rs ts us (Store op align offset) [] e a n f h = let z = counts x (Store op align offset) ts us f in absurd (omega (arith, z, n, ap length f.type.4.0))
    plain_ok c x rs ts us (Store op align offset) (v ∷ []) e a n f h = let z = counts x (Store op align offset) ts us f in absurd (omega (arith, z, n, ap length f.type.4.0))
    plain_ok c x rs ts us (Store op align offset) (v ∷ w ∷ vs) e a n f h =
        let z = counts x (Store op align offset) ts us f in
        store_begins p c op offset f.type.0 v w vs f.type.1 (config_ok g x rs us a (omega (arith, z, n, ap length e, length-drop 2 c.frame.values, ap length f.type.4.0, ap length f.type.4.1)) h)
    plain_ok c x rs ts us MemorySize vs e a n f h =
        let same = grows x MemorySize ts us f I32 f.type.1.0 f.type.1.1 in
        push_ok g c x rs ts _ I32 a (omega (arith, n, ap length e)) (subst (λ l. Typed c.frame.rest x rs l) same h)
    plain_ok c x rs ts us MemoryGrow [] e a n f h = let z = counts x MemoryGrow ts us f in absurd (omega (arith, z, n, ap length f.type.1.0))
    plain_ok c x rs ts us MemoryGrow (v ∷ vs) e a n f h =
        let z = counts x MemoryGrow ts us f in
        either_ok g (may_grow c.memory (low w32 v) p.most_pages) _ _
        (config_ok g x rs us a (omega (arith, z, n, ap length f.type.1.0, ap length f.type.1.1)) h)
        (config_ok g x rs us a (omega (arith, z, n, ap length f.type.1.0, ap length f.type.1.1)) h)
    plain_ok c x rs ts us (I32Const k) vs e a n f h =
        let same = grows x (I32Const k) ts us f I32 f.type.0 f.type.1 in
        push_ok g c x rs ts _ I32 a (omega (arith, n, ap length e)) (subst (λ l. Typed c.frame.rest x rs l) same h)
    plain_ok c x rs ts us (I64Const k) vs e a n f h =
        let same = grows x (I64Const k) ts us f I64 f.type.0 f.type.1 in
        push_ok g c x rs ts _ I64 a (omega (arith, n, ap length e)) (subst (λ l. Typed c.frame.rest x rs l) same h)
    plain_ok c x rs ts us (F32Const k) vs e a n f h = absurd f.type
    plain_ok c x rs ts us (F64Const k) vs e a n f h = absurd f.type
    plain_ok c x rs ts us (Num op) vs e a n f h =
        let z = counts x (Num op) ts us f in
        subst (λ o. NextOk g (numeric c o vs)) (sym f.type.1)
        (numeric_ok c f.type.0 vs (length f.under) (a.globals_are, a.table_ok) (omega (arith, z, n, ap length f.type.2.0)) (λ v ws m. config_ok g x rs us a (omega (arith, z, m, ap length f.type.2.1)) h))
    plain_ok c x rs ts us (Block t) vs e a n f h = absurd f.type
    plain_ok c x rs ts us (Loop t) vs e a n f h = absurd f.type
    plain_ok c x rs ts us (If t) vs e a n f h = absurd f.type
    plain_ok c x rs ts us Else vs e a n f h = absurd f.type
    plain_ok c x rs ts us End vs e a n f h = absurd f.type

    if_ok : (c : Configuration) (x : Context) (rs ts : List ValType) (t : Option ValType) (b d : Tree) (vs : List ℕ) → AroundConfig g c x rs → length vs ≡ suc (length ts) → Typed c.frame.rest x rs (types_of t ++ ts) → Typed b (with_label x (types_of t)) (types_of t) [] → Typed d (with_label x (types_of t)) (types_of t) [] → NextOk g (if_step c (arity_of t) b d vs)
    if_ok c x rs ts t b d [] a n h k l = absurd (omega (arith, n))
    if_ok c x rs ts t b d (v ∷ vs) a n h k l =
        choose_ok g v _ _
        (enter_ok g (with_values c vs) x rs ts None b (arity_of t) (types_of t) (types_of t) a (omega (arith, n)) h (arity_types t) refl k)
        (enter_ok g (with_values c vs) x rs ts None d (arity_of t) (types_of t) (types_of t) a (omega (arith, n)) h (arity_types t) refl l)

    begin_ok : (c : Configuration) (x : Context) (rs ts : List ValType) (e : Tree) → AroundConfig g c x rs → length c.frame.values ≡ length ts → Typed e x rs ts → NextOk g (begin p c e)
    begin_ok c x rs ts stop a n h = leave_ok g c x rs c.frame.labels x.labels a (n ∙ ap length h)
    begin_ok c x rs ts (plain i e) a n h = plain_ok (with_rest c e) x rs ts h.0 i c.frame.values refl a n h.1 h.2
    begin_ok c x rs ts (block t b e) a n h = enter_ok g (with_rest c e) x rs ts None b (arity_of t) (types_of t) (types_of t) a n h.1 (arity_types t) refl h.0
    begin_ok c x rs ts (loop t b e) a n h = enter_ok g (with_rest c e) x rs ts (Some b) b 0 [] (types_of t) a n h.1 refl (refl, h.0) h.0
    begin_ok c x rs ts (if_then t b e) a n h = if_ok (with_rest c e) x rs h.0 t b stop c.frame.values a (omega (arith, n, ap length h.1)) h.4 h.3 (ap types_of (sym h.2))
    begin_ok c x rs ts (if_else t b d e) a n h = if_ok (with_rest c e) x rs h.0 t b d c.frame.values a (omega (arith, n, ap length h.1)) h.4 h.2 h.3

    paid_ok : (c : Configuration) (x : Context) (rs ts : List ValType) (e : Tree) (n : ℕ) → AroundConfig g c x rs → length c.frame.values ≡ length ts → Typed e x rs ts → NextOk g (paid c n (λ d. begin p d e))
    paid_ok c x rs ts e zero a l h = (a.globals_are, a.table_ok)
    paid_ok c x rs ts e (suc n) a l h = begin_ok (record c { fuel = n }) x rs ts e a l h

    at_ok : (c : Configuration) (x : Context) (rs ts : List ValType) (e : Tree) → AroundConfig g c x rs → length c.frame.values ≡ length ts → Typed e x rs ts → NextOk g (step_at p c e)
    at_ok c x rs ts stop a n h = begin_ok c x rs ts stop a n h
    at_ok c x rs ts (plain i e) a n h = paid_ok c x rs ts (plain i e) c.fuel a n h
    at_ok c x rs ts (block t b e) a n h = paid_ok c x rs ts (block t b e) c.fuel a n h
    at_ok c x rs ts (loop t b e) a n h = paid_ok c x rs ts (loop t b e) c.fuel a n h
    at_ok c x rs ts (if_then t b e) a n h = paid_ok c x rs ts (if_then t b e) c.fuel a n h
    at_ok c x rs ts (if_else t b d e) a n h = paid_ok c x rs ts (if_else t b d e) c.fuel a n h

    pub step_ok : (c : Configuration) → ConfigOk g c → NextOk g (step p c)
    step_ok c h =
        let f = h.0.0 in
        let around : AroundConfig g c f.context f.results = record { grounded = f.grounded; labels_ok = f.labels; arity_is = f.arity; locals_are = f.locals; callers_ok = h.0.1; globals_are = h.1.0; table_ok = h.1.1 } in
        at_ok c f.context f.results f.types c.frame.rest around (omega (arith, f.values)) f.rest

  -- after a host call, where it has the result that is awaited
  pub finished_ok : (c : Configuration) (r : Result (Option ℕ) Trap) → Keeps g c → ((o : Option ℕ) → r ≡ Ok o → Waits g c (count (is_some o))) → NextOk g (finished c r)
  finished_ok c (Ok None) keeps w = w None refl
  finished_ok c (Ok (Some v)) keeps w =
      let h = w (Some v) refl in
      let f = h.0.0 in
      either_ok g (nat_lt (values_held c) value_limit) _ (traps c trap.StackExhausted)
      ((record { context = f.context; grounded = f.grounded; results = f.results; types = f.types; values = omega (arith, f.values); rest = f.rest; labels = f.labels; arity = f.arity; locals = f.locals }, h.0.1), h.1) keeps
  finished_ok c (Err t) keeps w = keeps
