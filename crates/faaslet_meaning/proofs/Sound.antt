-- No step of a typed configuration lacks what it needs: frames, labels and calls.
use Rattle.std.proofs.Common.{◌≡◌, ℕ, zero, suc, ◌+◌, ◌<◌, ◌≤◌, List, [], ◌∷◌, ◌++◌, length, take, refl, sym, ap, subst, arith, None, Some, Option, Bool, true, false, cond, length-append}
use Rattle.std.specs.Prelude.{slice_get, nat_lt, nat_le, unwrap_or}
use Rattle.std.specs.Int.{w32}
use Rattle.std.proofs.lemmas.Bool.{le-leb}
use Rattle.std.proofs.lemmas.List.{length-take}
use Rattle.std.proofs.lemmas.Option.{slice_get_within}
use Rattle.faaslet_meaning.specs.declared.instr.ValType.{ValType}
use Rattle.faaslet_meaning.specs.Integers.{low}
use Rattle.faaslet_meaning.specs.Tree.{Tree}
use Rattle.faaslet_meaning.specs.Configuration.{Label, Frame, Configuration, Next, stuck, labels_held, values_held}
use Rattle.faaslet_meaning.specs.Limits.{traps, push, enter, label_limit, value_limit}
use Rattle.faaslet_meaning.specs.ControlRules.{choose, results_to, leave_frame, leave, branch_to, branch, br_table}
use Rattle.faaslet_meaning.specs.Typing.{Context, LabelIs, LabelsAre, Typed, with_label}
use Rattle.faaslet_meaning.specs.Fine.{Ground, ground, AgainOk, LabelOk, LabelsOk, FramesOk, TableOk, NextOk}

-- what stands round the values and the instructions of a frame
pub record Around (g : Ground) (labels : List Label) (arity : ℕ) (locals : List ℕ) (callers : List Frame) (globals : List ℕ) (table : List (Option ℕ)) (context : Context) (results : List ValType) : Type 0 where
  pub grounded : ground context ≡ g
  pub labels_ok : LabelsOk labels context context.labels results
  pub arity_is : arity ≡ length context.results
  pub locals_are : length locals ≡ length context.locals
  pub callers_ok : FramesOk g callers arity
  pub globals_are : length globals ≡ length g.globals
  pub table_ok : TableOk g table

abbrev pub AroundConfig : Ground → Configuration → Context → List ValType → Type 0
AroundConfig g c x rs = Around g c.frame.labels c.frame.arity c.frame.locals c.callers c.globals c.table x rs

-- round a frame with these labels
abbrev pub AroundLabels : Ground → Configuration → List Label → Context → List ValType → Type 0
AroundLabels g c ls x rs = Around g ls c.frame.arity c.frame.locals c.callers c.globals c.table x rs

module _ (g : Ground) where
  pub waits : {f : Frame} {callers : List Frame} {globals : List ℕ} {table : List (Option ℕ)} (x : Context) (rs ts : List ValType) (more : ℕ) → Around g f.labels f.arity f.locals callers globals table x rs → length f.values + more ≡ length ts → Typed f.rest x rs ts → FramesOk g (f ∷ callers) more × ((length globals ≡ length g.globals) × TableOk g table)
  waits x rs ts more a n h =
      ((record { context = x; grounded = a.grounded; results = rs; types = ts; values = n; rest = h; labels = a.labels_ok; arity = a.arity_is; locals = a.locals_are }, a.callers_ok), (a.globals_are, a.table_ok))

  pub config_ok : {f : Frame} {callers : List Frame} {globals : List ℕ} {table : List (Option ℕ)} (x : Context) (rs ts : List ValType) → Around g f.labels f.arity f.locals callers globals table x rs → length f.values ≡ length ts → Typed f.rest x rs ts → FramesOk g (f ∷ callers) 0 × ((length globals ≡ length g.globals) × TableOk g table)
  config_ok x rs ts a n h = waits x rs ts 0 a (omega (arith, n)) h

  pub either_ok : (b : Bool) (p q : Next) → NextOk g p → NextOk g q → NextOk g (cond b p q)
  either_ok true p q h k = h
  either_ok false p q h k = k

  pub sure_ok : (b : Bool) (p q : Next) → b ≡ true → NextOk g p → NextOk g (cond b p q)
  sure_ok b p q e h = subst (λ t. NextOk g (cond t p q)) (sym e) h

  results_ok : (c : Configuration) (vs : List ℕ) (callers : List Frame) → length c.globals ≡ length g.globals → TableOk g c.table → FramesOk g callers (length vs) → NextOk g (results_to c vs callers)
  results_ok c vs [] n t h = (n, t)
  results_ok c vs (f ∷ rest) n t h =
      let o = h.0 in
      ((record { context = o.context; grounded = o.grounded; results = o.results; types = o.types; values = omega (arith, o.values, length-append vs f.values); rest = o.rest; labels = o.labels; arity = o.arity; locals = o.locals }, h.1), (n, t))

  pub frame_ok : (c : Configuration) (ls : List Label) (x : Context) (rs : List ValType) → AroundLabels g c ls x rs → length x.results ≤ length c.frame.values → NextOk g (leave_frame c)
  frame_ok c ls x rs a le =
      let b : nat_le c.frame.arity (length c.frame.values) ≡ true = le-leb _ _ (omega (arith, a.arity_is)) in
      let n : c.frame.arity ≡ length (take c.frame.arity c.frame.values) = omega (arith, length-take c.frame.arity c.frame.values, a.arity_is) in
      sure_ok _ (results_to c (take c.frame.arity c.frame.values) c.callers) stuck b (results_ok c (take c.frame.arity c.frame.values) c.callers a.globals_are a.table_ok (subst (λ k. FramesOk g c.callers k) n a.callers_ok))

  -- without its innermost label
  outside : (c : Configuration) (l : Label) (ls : List Label) (x : Context) (t : List ValType) (ts : List (List ValType)) (rs : List ValType) (a : AroundLabels g c (l ∷ ls) (record x { labels = t ∷ ts }) rs) → AroundLabels g c ls (record x { labels = ts }) a.labels_ok.0
  outside c l ls x t ts rs a = record { grounded = a.grounded; labels_ok = a.labels_ok.2; arity_is = a.arity_is; locals_are = a.locals_are; callers_ok = a.callers_ok; globals_are = a.globals_are; table_ok = a.table_ok }

  to_ok : (c : Configuration) (x : Context) (l : Label) (again : Option Tree) (ls : List Label) (t : List ValType) (ts : List (List ValType)) (rs outer : List ValType) → l.again ≡ again → AroundLabels g c ls (record x { labels = ts }) outer → LabelOk l (record x { labels = ts }) t rs outer → l.arity ≤ length c.frame.values → NextOk g (branch_to c l again ls)
  to_ok c x l None ls t ts rs outer e a o le =
      let again = subst (λ (b : Option Tree). AgainOk b (record x { labels = ts }) t rs) e o.again in
      config_ok (record x { labels = ts }) outer (rs ++ o.types) a (omega (arith, length-append (take l.arity c.frame.values) l.under, length-take l.arity c.frame.values, length-append rs o.types, o.under, o.arity, ap length again)) o.after
  to_ok c x l (Some body) ls t ts rs outer e a o le =
      let again = subst (λ (b : Option Tree). AgainOk b (record x { labels = ts }) t rs) e o.again in
      let b : AroundLabels g c (l ∷ ls) (record x { labels = t ∷ ts }) rs = record { grounded = a.grounded; labels_ok = (outer, o, a.labels_ok); arity_is = a.arity_is; locals_are = a.locals_are; callers_ok = a.callers_ok; globals_are = a.globals_are; table_ok = a.table_ok } in
      config_ok (record x { labels = t ∷ ts }) rs [] b (omega (arith, length-take l.arity c.frame.values, o.arity, ap length again.0)) again.1

  pub branch_ok : (c : Configuration) (x : Context) (n : ℕ) (ls : List Label) (ts : List (List ValType)) (rs : List ValType) (carried : List ValType) → AroundLabels g c ls (record x { labels = ts }) rs → slice_get ts n ≡ Some carried → length carried ≤ length c.frame.values → NextOk g (branch c n ls)
  branch_ok c x zero [] (t ∷ []) rs carried a e le =
      let same : t ≡ carried = cc in
      frame_ok c [] (record x { labels = t ∷ [] }) rs a (omega (arith, ap length same, ap length a.labels_ok.0))
  branch_ok c x (suc n) [] (t ∷ []) rs carried a e le = let none : n < 0 = slice_get_within {A = List ValType} [] n carried e in absurd (omega arith)
  branch_ok c x n [] [] rs carried a e le = absurd a.labels_ok
  branch_ok c x n [] (t ∷ (w ∷ ts)) rs carried a e le = absurd a.labels_ok
  branch_ok c x n (l ∷ ls) [] rs carried a e le = absurd a.labels_ok
  branch_ok c x zero (l ∷ ls) (t ∷ ts) rs carried a e le =
      let same : t ≡ carried = cc in
      let h = a.labels_ok in
      let b : nat_le l.arity (length c.frame.values) ≡ true = le-leb _ _ (omega (arith, h.1.arity, ap length same)) in
      sure_ok _ (branch_to c l l.again ls) stuck b (to_ok c x l l.again ls t ts rs h.0 refl (outside c l ls x t ts rs a) h.1 (omega (arith, h.1.arity, ap length same)))
  branch_ok c x (suc n) (l ∷ ls) (t ∷ ts) rs carried a e le = branch_ok c x n ls ts a.labels_ok.0 carried (outside c l ls x t ts rs a) e le

  -- one of the labels of a table
  one_label : (x : Context) (ns : List ℕ) (n k : ℕ) (ls : List ValType) → LabelsAre x ns ls → LabelIs x n ls → LabelIs x (unwrap_or (slice_get ns k) n) ls
  one_label x [] n k ls h e = e
  one_label x (m ∷ ns) n zero ls h e = h.0
  one_label x (m ∷ ns) n (suc k) ls h e = one_label x ns n k ls h.1 e

  pub table_ok : (c : Configuration) (x : Context) (ns : List ℕ) (n v : ℕ) (rs carried : List ValType) → AroundConfig g c x rs → LabelsAre x ns carried → LabelIs x n carried → length carried ≤ length c.frame.values → NextOk g (br_table c ns n v)
  table_ok c x ns n v rs carried a h e le = branch_ok c x (unwrap_or (slice_get ns (low w32 v)) n) c.frame.labels x.labels rs carried a (one_label x ns n (low w32 v) carried h e) le

  pub push_ok : (c : Configuration) (x : Context) (rs ts : List ValType) (v : ℕ) (t : ValType) → AroundConfig g c x rs → length c.frame.values ≡ length ts → Typed c.frame.rest x rs (t ∷ ts) → NextOk g (push c v)
  push_ok c x rs ts v t a n h = either_ok (nat_lt (values_held c) value_limit) _ (traps c _) (config_ok x rs (t ∷ ts) a (omega (arith, n)) h) (a.globals_are, a.table_ok)

  pub enter_ok : (c : Configuration) (x : Context) (rs ts : List ValType) (again : Option Tree) (body : Tree) (n : ℕ) (ls bs : List ValType) → AroundConfig g c x rs → length c.frame.values ≡ length ts → Typed c.frame.rest x rs (bs ++ ts) → n ≡ length ls → AgainOk again x ls bs → Typed body (with_label x ls) bs [] → NextOk g (enter c n again body)
  enter_ok c x rs ts again body n ls bs a e h m o b =
      let l : Label = record { arity = n; again = again; under = c.frame.values; after = c.frame.rest } in
      let ok : LabelOk l x ls bs rs = record { arity = m; again = o; types = ts; under = e; after = h } in
      let around : AroundLabels g c (l ∷ c.frame.labels) (with_label x ls) bs = record { grounded = a.grounded; labels_ok = (rs, ok, a.labels_ok); arity_is = a.arity_is; locals_are = a.locals_are; callers_ok = a.callers_ok; globals_are = a.globals_are; table_ok = a.table_ok } in
      either_ok (nat_lt (labels_held c) label_limit) _ (traps c _) (config_ok (with_label x ls) bs [] around refl b) (a.globals_are, a.table_ok)

  pub leave_ok : (c : Configuration) (x : Context) (rs : List ValType) (ls : List Label) (ts : List (List ValType)) → AroundLabels g c ls (record x { labels = ts }) rs → length c.frame.values ≡ length rs → NextOk g (leave c ls)
  leave_ok c x rs [] (t ∷ []) a n = frame_ok c [] (record x { labels = t ∷ [] }) rs a (omega (arith, n, ap length a.labels_ok.1))
  leave_ok c x rs [] [] a n = absurd a.labels_ok
  leave_ok c x rs [] (t ∷ (w ∷ ts)) a n = absurd a.labels_ok
  leave_ok c x rs (l ∷ ls) [] a n = absurd a.labels_ok
  leave_ok c x rs (l ∷ ls) (t ∷ ts) a n =
      let h = a.labels_ok in
      config_ok (record x { labels = ts }) h.0 (rs ++ h.1.types) (outside c l ls x t ts rs a) (omega (arith, n, length-append c.frame.values l.under, length-append rs h.1.types, h.1.under)) h.1.after

  pub choose_ok : (x : ℕ) (a b : Next) → NextOk g a → NextOk g b → NextOk g (choose x a b)
  choose_ok x a b h k = by (low w32 x)
    where
      by : (y : ℕ) → NextOk g (elim y [ zero ↦ b | suc m ↦ a ])
      by zero = k
      by (suc m) = h
