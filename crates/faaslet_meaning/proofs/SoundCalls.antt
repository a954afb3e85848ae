-- No call of a typed configuration lacks what it needs, also by a table, and of a host call.
use Rattle.std.proofs.Common.{◌≡◌, ℕ, zero, suc, ◌+◌, ◌/◌, List, [], ◌∷◌, ◌++◌, length, take, drop, refl, sym, ap, ◌∙◌, subst, arith, None, Some, Option, Bool, true, false, cond, length-append, length-drop, map}
use Rattle.std.specs.Prelude.{slice_get, nat_le, bytes_eq, ◌&&◌, reverse, replicate, option_and_then, is_some}
use Rattle.std.specs.Int.{w32}
use Rattle.std.proofs.lemmas.Bool.{le-leb, and_parts}
use Rattle.std.proofs.lemmas.Slice.Eq.{bytes_eq-Decides}
use Rattle.std.proofs.lemmas.List.{length-take, length-reverse, length-replicate, length-map}
use Rattle.faaslet_meaning.specs.declared.instr.ValType.{ValType}
use Rattle.faaslet_meaning.specs.declared.module.FuncType.{FuncType}
use Rattle.faaslet_meaning.specs.Integers.{low}
use Rattle.faaslet_meaning.specs.Tree.{Tree}
use Rattle.faaslet_meaning.specs.Memory.{Memory}
use Rattle.faaslet_meaning.specs.HostCalls.{HostCall, HostRow, Buffer, Form, of_none, of_one, of_two, of_three, of_four, arity, made, buffer_of, host_rows}
use Rattle.faaslet_meaning.specs.Configuration.{Program, Func, hosted, defined, type_of, Configuration, stuck}
use Rattle.faaslet_meaning.specs.Limits.{traps, with_values, has_room}
use Rattle.faaslet_meaning.specs.ControlRules.{entered, buffer_limit, host_by, host_made, host_call, call, call_at, same_type, call_typed, call_element, call_indirect}
use Rattle.faaslet_meaning.specs.declared.outcome.Trap.TheVariants as trap
use Rattle.faaslet_meaning.specs.Typing.{Context, Typed}
use Rattle.faaslet_meaning.specs.Fine.{Ground, LabelsOk, FrameOk, ConfigOk, TableOk, Waits, BodyOk, HostOk, FuncOk, ProgramOk, has_result, count, NextOk}
use Rattle.faaslet_meaning.specs.Tree.{types_of}
use Rattle.faaslet_meaning.proofs.Sound.{AroundConfig, waits, either_ok, sure_ok}

-- what a form makes has a result, or has none
abbrev Gives : Form → Bool → Type 0
Gives (of_none h) b = has_result h ≡ b
Gives (of_one f) b = (x : ℕ) → has_result (f x) ≡ b
Gives (of_two f) b = (x y : ℕ) → has_result (f x y) ≡ b
Gives (of_three f) b = (x y z : ℕ) → has_result (f x y z) ≡ b
Gives (of_four f) b = (x y z u : ℕ) → has_result (f x y z u) ≡ b

form_makes : (f : Form) (b : Bool) (xs : List ℕ) → Gives f b → length xs ≡ arity f → (h : HostCall) × (made f xs ≡ Some h) × (has_result h ≡ b)
form_makes (of_none h) b [] g n = (h, refl, g)
form_makes (of_none h) b (x ∷ xs) g n = absurd (omega (arith, n))
form_makes (of_one f) b [] g n = absurd (omega (arith, n))
form_makes (of_one f) b (x ∷ []) g n = (f x, refl, g x)
form_makes (of_one f) b (x ∷ y ∷ xs) g n = absurd (omega (arith, n))
form_makes (of_two f) b [] g n = absurd (omega (arith, n))
form_makes (of_two f) b (x ∷ []) g n = absurd (omega (arith, n))
form_makes (of_two f) b (x ∷ y ∷ []) g n = (f x y, refl, g x y)
form_makes (of_two f) b (x ∷ y ∷ z ∷ xs) g n = absurd (omega (arith, n))
form_makes (of_three f) b [] g n = absurd (omega (arith, n))
form_makes (of_three f) b (x ∷ []) g n = absurd (omega (arith, n))
form_makes (of_three f) b (x ∷ y ∷ []) g n = absurd (omega (arith, n))
form_makes (of_three f) b (x ∷ y ∷ z ∷ []) g n = (f x y z, refl, g x y z)
form_makes (of_three f) b (x ∷ y ∷ z ∷ u ∷ xs) g n = absurd (omega (arith, n))
form_makes (of_four f) b [] g n = absurd (omega (arith, n))
form_makes (of_four f) b (x ∷ []) g n = absurd (omega (arith, n))
form_makes (of_four f) b (x ∷ y ∷ []) g n = absurd (omega (arith, n))
form_makes (of_four f) b (x ∷ y ∷ z ∷ []) g n = absurd (omega (arith, n))
form_makes (of_four f) b (x ∷ y ∷ z ∷ u ∷ []) g n = (f x y z u, refl, g x y z u)
form_makes (of_four f) b (x ∷ y ∷ z ∷ u ∷ v ∷ xs) g n = absurd (omega (arith, n))

abbrev AllGive : List HostRow → Type 0
AllGive [] = Unit {0}
AllGive (r ∷ rs) = Gives r.form (is_some r.result) × AllGive rs

rows_give : AllGive host_rows
rows_give =
    (λ x. refl, (λ x. refl, (λ x. refl, (λ x y z u. refl, (λ x y z u. refl, (λ x. refl, (λ x. refl, (λ x y z. refl, (λ x y z. refl, (λ x y z. refl, (λ x. refl, (λ x. refl, (λ x. refl, (λ x. refl, (λ x. refl, (λ x. refl, (refl, (λ x y z. refl, (λ x y. refl, (λ x y z. refl, (λ x. refl, (λ x. refl, (λ x y z u. refl, tt)))))))))))))))))))))))

row_gives : (rs : List HostRow) (n : ℕ) (r : HostRow) → AllGive rs → slice_get rs n ≡ Some r → Gives r.form (is_some r.result)
row_gives [] n r a e = cc
row_gives (s ∷ rs) zero r a e = let same : s ≡ r = cc in subst (λ (q : HostRow). Gives q.form (is_some q.result)) same a.0
row_gives (s ∷ rs) (suc n) r a e = row_gives rs n r a.1 e

count_types : (o : Option ValType) → count (is_some o) ≡ length (types_of o)
count_types None = refl
count_types (Some t) = refl

same_lengths : (f : ValType → ℕ) (ps qs rs ss : List ValType) → (bytes_eq (map f ps) (map f qs) && bytes_eq (map f rs) (map f ss)) ≡ true → (length ps ≡ length qs) × (length rs ≡ length ss)
same_lengths f ps qs rs ss e =
    let both = and_parts (bytes_eq (map f ps) (map f qs)) (bytes_eq (map f rs) (map f ss)) e in
    (sym (length-map ps f) ∙ ap length ((bytes_eq-Decides (map f ps) (map f qs)).0 both.0) ∙ length-map qs f, sym (length-map rs f) ∙ ap length ((bytes_eq-Decides (map f rs) (map f ss)).0 both.1) ∙ length-map ss f)

module _ (g : Ground) where
  host_by_ok : (c : Configuration) (h : HostCall) (b : Option Buffer) → Waits g c (count (has_result h)) → NextOk g (host_by c h b)
  host_by_ok c h None w = w
  host_by_ok c h (Some b) w = either_ok g (nat_le b.len buffer_limit) _ _ (either_ok g (nat_le (b.len / 64) c.fuel) _ _ w w.1) w.1

  host_ok : (c : Configuration) (number : ℕ) (t : FuncType) (args : List ℕ) → HostOk number t → length args ≡ length t.params → Waits g c (length t.results) → NextOk g (host_call c number args)
  host_ok c number t args o n w =
      let gives = row_gives host_rows number o.row rows_give o.row_is in
      let many : length (reverse (map (low w32) args)) ≡ arity o.row.form = length-reverse (map (low w32) args) ∙ length-map args (low w32) ∙ n ∙ sym o.params in
      let m = form_makes o.row.form (is_some o.row.result) (reverse (map (low w32) args)) gives many in
      let results : length t.results ≡ count (has_result m.0) = sym o.results ∙ sym (count_types o.row.result) ∙ ap count (sym m.2) in
      subst (λ q. NextOk g (host_made c (option_and_then (λ r. made r.form (reverse (map (low w32) args))) q))) (sym o.row_is)
      (subst (λ q. NextOk g (host_made c q)) (sym m.1) (host_by_ok c m.0 (buffer_of m.0) (subst (λ k. Waits g c k) results w)))

  -- a call over at least as many values as it has parameters, where its results are expected above the others
  pub call_ok : (f : Func) → FuncOk g f → (c : Configuration) (x : Context) (rs ts : List ValType) (n : ℕ) → AroundConfig g c x rs → length c.frame.values ≡ length (type_of f).params + n → length ts ≡ length (type_of f).results + n → Typed c.frame.rest x rs ts → NextOk g (call c f)
  call_ok (hosted number t) o c x rs ts n a many after h =
      let k = length t.params in
      let vs = c.frame.values in
      let b : nat_le k (length vs) ≡ true = le-leb _ _ (omega (arith, many)) in
      let count : length (take k vs) ≡ k = omega (arith, length-take k vs, many) in
      sure_ok g _ (host_call (with_values c (drop k vs)) number (take k vs)) stuck b
      (host_ok (with_values c (drop k vs)) number t (take k vs) o count (waits g x rs ts (length t.results) a (omega (arith, length-drop k vs, many, after)) h))
  call_ok (defined t locals body) o c x rs ts n a many after h =
      let k = length t.params in
      let vs = c.frame.values in
      let b : nat_le k (length vs) ≡ true = le-leb _ _ (omega (arith, many)) in
      let count : length (reverse (take k vs) ++ replicate locals 0) ≡ length o.context.locals =
      omega (arith, length-append (reverse (take k vs)) (replicate locals 0), length-reverse (take k vs), length-take k vs, length-replicate {A = ℕ} locals 0, o.count, many) in
      let caller : FrameOk g (record c.frame { values = drop k vs }) (length t.results) =
      record { context = x; grounded = a.grounded; results = rs; types = ts; values = omega (arith, length-drop k vs, many, after); rest = h; labels = a.labels_ok; arity = a.arity_is; locals = a.locals_are } in
      let frame : FrameOk g (entered t locals body (take k vs)) 0 =
      record { context = o.context; grounded = o.grounded; results = t.results; types = []; values = omega arith; rest = o.typed; labels = subst (λ (l : List (List ValType)). LabelsOk [] o.context l t.results) (sym o.labels) (sym o.results, sym o.results); arity = ap length (sym o.results); locals = count } in
      sure_ok g _ (cond (has_room c locals) _ (traps c _)) stuck b
      (either_ok g (has_room c locals) _ (traps c _) ((frame, (caller, a.callers_ok)), (a.globals_are, a.table_ok)) (a.globals_are, a.table_ok))

  -- about to run a function without parameters
  pub entered_ok : (t : FuncType) (n : ℕ) (b : Tree) (globals : List ℕ) (table : List (Option ℕ)) (memory : Memory) (fuel : ℕ) → BodyOk g t n b → length t.params ≡ 0 → length globals ≡ length g.globals → TableOk g table → ConfigOk g (record { frame = entered t n b []; callers = []; globals = globals; table = table; memory = memory; fuel = fuel })
  entered_ok t n b globals table memory fuel o none m h =
      let count : length (reverse {A = ℕ} [] ++ replicate n 0) ≡ length o.context.locals = omega (arith, length-replicate {A = ℕ} n 0, o.count, none) in
      ((record { context = o.context; grounded = o.grounded; results = t.results; types = []; values = omega arith; rest = o.typed; labels = subst (λ (l : List (List ValType)). LabelsOk [] o.context l t.results) (sym o.labels) (sym o.results, sym o.results); arity = ap length (sym o.results); locals = count }, tt {0}), (m, h))

  typed_ok : (f : Func) → FuncOk g f → (c : Configuration) (x : Context) (rs ts : List ValType) (t : FuncType) (n : ℕ) → AroundConfig g c x rs → length c.frame.values ≡ length t.params + n → length ts ≡ length t.results + n → Typed c.frame.rest x rs ts → (b : Bool) → b ≡ same_type (type_of f) t → NextOk g (cond b (call c f) (traps c trap.TypeMismatch))
  typed_ok f o c x rs ts t n a many after h true e =
      let same = same_lengths _ (type_of f).params t.params (type_of f).results t.results (sym e) in
      call_ok f o c x rs ts n a (omega (arith, many, same.0)) (omega (arith, after, same.1)) h
  typed_ok f o c x rs ts t n a many after h false e = (a.globals_are, a.table_ok)

  module _ (p : Program) (ok : ProgramOk p g) where
    pub call_at_ok : (c : Configuration) (x : Context) (rs ts : List ValType) (n f : ℕ) (t : FuncType) → slice_get x.functions f ≡ Some t → AroundConfig g c x rs → length c.frame.values ≡ length t.params + n → length ts ≡ length t.results + n → Typed c.frame.rest x rs ts → NextOk g (call_at p c f)
    call_at_ok c x rs ts n f t found a many after h =
        let here : slice_get g.functions f ≡ Some t = subst (λ (k : Ground). slice_get k.functions f ≡ Some t) a.grounded found in
        let r = ok.functions f t here in
        subst (λ q. NextOk g (elim q [ None ↦ stuck | Some k ↦ call c k ])) (sym r.1)
        (call_ok r.0 r.3 c x rs ts n a (omega (arith, many, ap (λ (u : FuncType). length u.params) r.2)) (omega (arith, after, ap (λ (u : FuncType). length u.results) r.2)) h)

    element_ok : (c : Configuration) (x : Context) (rs ts : List ValType) (n k : ℕ) (t : FuncType) (e : Option (Option ℕ)) → e ≡ slice_get c.table k → AroundConfig g c x rs → length c.frame.values ≡ length t.params + n → length ts ≡ length t.results + n → Typed c.frame.rest x rs ts → NextOk g (call_element p c t e)
    element_ok c x rs ts n k t None e a many after h = (a.globals_are, a.table_ok)
    element_ok c x rs ts n k t (Some None) e a many after h = (a.globals_are, a.table_ok)
    element_ok c x rs ts n k t (Some (Some f)) e a many after h =
        let u = a.table_ok k f (sym e) in
        let r = ok.functions f u.0 u.1 in
        subst (λ q. NextOk g (elim q [ None ↦ stuck | Some j ↦ call_typed c t j ])) (sym r.1)
        (typed_ok r.0 r.3 c x rs ts t n a many after h (same_type (type_of r.0) t) refl)

    pub indirect_ok : (c : Configuration) (x : Context) (rs ts : List ValType) (n k v : ℕ) (t : FuncType) → slice_get x.types k ≡ Some t → AroundConfig g c x rs → length c.frame.values ≡ length t.params + n → length ts ≡ length t.results + n → Typed c.frame.rest x rs ts → NextOk g (call_indirect p c k v)
    indirect_ok c x rs ts n k v t found a many after h =
        let here : slice_get g.types k ≡ Some t = subst (λ (j : Ground). slice_get j.types k ≡ Some t) a.grounded found in
        let here_too : slice_get p.types k ≡ Some t = subst (λ (l : List FuncType). slice_get l k ≡ Some t) (sym ok.types) here in
        subst (λ q. NextOk g (elim q [ None ↦ stuck | Some type ↦ call_element p c type (slice_get c.table (low w32 v)) ])) (sym here_too)
        (element_ok c x rs ts n (low w32 v) t (slice_get c.table (low w32 v)) refl a many after h)

    -- a function of the program that has a body
    pub entry_ok : (k : ℕ) (t : FuncType) (n : ℕ) (b : Tree) (c : Configuration) → slice_get g.functions k ≡ Some t → slice_get p.functions k ≡ Some (defined t n b) → t.params ≡ [] → length c.globals ≡ length g.globals → TableOk g c.table → ConfigOk g (record c { frame = entered t n b []; callers = [] })
    entry_ok k t n b c type at none m h =
        let r = ok.functions k t type in
        let found = r.1 in
        let same : r.0 ≡ defined t n b = cc in
        entered_ok t n b c.globals c.table c.memory c.fuel (subst (FuncOk g) same r.3) (ap length none) m h
