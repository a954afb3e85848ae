-- What a runnable module enters is typed: the start function, `init` and `main`. So its fresh state is.
use Rattle.std.proofs.Common.{◌≡◌, ℕ, zero, suc, ◌+◌, ◌*◌, ◌≤◌, List, [], ◌∷◌, length, refl, sym, ap, ◌∙◌, subst, arith, None, Some, Option, Bool, true, false, cond}
use Rattle.std.specs.Prelude.{Contains, slice_get, find, bytes_eq, ◌&&◌, codes, option_map}
use Rattle.std.proofs.lemmas.Bool.{and_parts}
use Rattle.std.proofs.lemmas.Slice.Eq.{bytes_eq-Decides}
use Rattle.std.proofs.lemmas.Option.{same_Some}
use Rattle.faaslet_meaning.specs.declared.module.FuncType.{FuncType}
use Rattle.faaslet_meaning.specs.declared.module.Export.{Export}
use Rattle.faaslet_meaning.specs.declared.outcome.Outcome.TheVariants as outcome
use Rattle.faaslet_meaning.specs.HostCalls.{HostRow, host_rows, arity}
use Rattle.faaslet_meaning.specs.Configuration.{Func, hosted, defined, type_of, Configuration, Next, goes, ends, touches, calls, stuck}
use Rattle.faaslet_meaning.specs.Program.{export_of}
use Rattle.faaslet_meaning.specs.Tree.{types_of}
use Rattle.faaslet_meaning.specs.Valid.{StartOk, Valid}
use Rattle.faaslet_meaning.specs.IndexSpaces.{function_types}
use Rattle.faaslet_meaning.specs.Runnable.{HostImports, ExportsOwn, Runnable}
use Rattle.faaslet_meaning.specs.Bounds.{weight}
use Rattle.faaslet_meaning.specs.Step.{step}
use Rattle.faaslet_meaning.specs.Fresh.{Function, Store, Made, makes, breaks, nothing, instantiated, entry_by, entry, program, steps, then_go, after, through, fresh}
use Rattle.faaslet_meaning.specs.Fine.{Ground, ground_of, ConfigOk, FuncOk, ProgramOk, NextOk}
use Rattle.faaslet_meaning.proofs.Weight.{ends_by}
use Rattle.faaslet_meaning.proofs.SoundCalls.{entered_ok}
use Rattle.faaslet_meaning.proofs.SoundSteps.{step_ok}
use Rattle.faaslet_meaning.proofs.SoundModules.{Found, IsDefined, function_found, program_ok}
use Rattle.faaslet_meaning.proofs.Quiet.{Private, Quiet, step_quiet}
use Rattle.faaslet_meaning.proofs.SoundFresh.{MadeOk, then_ok, StoreOk, instantiated_ok}

-- a host call without parameters has a result
abbrev AllFull : List HostRow → Type 0
AllFull [] = Unit {0}
AllFull (r ∷ rs) = (arity r.form ≡ 0 → length (types_of r.result) ≡ 0 → ⊥) × AllFull rs

rows_full : AllFull host_rows
rows_full =
    (λ e k. omega (arith, e), (λ e k. omega (arith, e), (λ e k. omega (arith, e), (λ e k. omega (arith, e), (λ e k. omega (arith, e), (λ e k. omega (arith, e), (λ e k. omega (arith, e), (λ e k. omega (arith, e), (λ e k. omega (arith, e), (λ e k. omega (arith, e), (λ e k. omega (arith, e), (λ e k. omega (arith, e), (λ e k. omega (arith, e), (λ e k. omega (arith, e), (λ e k. omega (arith, e), (λ e k. omega (arith, e), (λ e k. omega (arith, k), (λ e k. omega (arith, e), (λ e k. omega (arith, e), (λ e k. omega (arith, e), (λ e k. omega (arith, e), (λ e k. omega (arith, e), (λ e k. omega (arith, e), tt)))))))))))))))))))))))

row_full : (rs : List HostRow) (n : ℕ) (r : HostRow) → AllFull rs → slice_get rs n ≡ Some r → arity r.form ≡ 0 → length (types_of r.result) ≡ 0 → ⊥
row_full [] n r h e a b = cc
row_full (s ∷ rs) zero r h e a b = let same : s ≡ r = cc in h.0 (ap (λ (q : HostRow). arity q.form) same ∙ a) (ap (λ (q : HostRow). length (types_of q.result)) same ∙ b)
row_full (s ∷ rs) (suc n) r h e a b = row_full rs n r h.1 e a b

-- so a function without parameters and results has a body
pub bare_defined : (g : Ground) (q : Func) → type_of q ≡ record { params = []; results = [] } → FuncOk g q → IsDefined q
bare_defined g (hosted n t) e o = absurd (row_full host_rows n o.row rows_full o.row_is (o.params ∙ ap (λ (u : FuncType). length u.params) e) (o.results ∙ ap (λ (u : FuncType). length u.results) e))
bare_defined g (defined t n b) e o = tt

-- what is found under a name has it
pub found_export : (name : List ℕ) (test : Export → Bool) (es : List Export) (k : ℕ) → option_map (λ (e : Export). e.index) (find (λ (e : Export). test e && bytes_eq e.name name) es) ≡ Some k → (e : Export) × Contains es e × (e.name ≡ name)
found_export name test [] k h = absurd (cc)
found_export name test (e ∷ es) k h = by (test e && bytes_eq e.name name) refl h (found_export name test es k)
  where
    by : (b : Bool) → (test e && bytes_eq e.name name) ≡ b → option_map (λ (e : Export). e.index) (cond b (Some e) (find (λ (e : Export). test e && bytes_eq e.name name) es)) ≡ Some k → (option_map (λ (e : Export). e.index) (find (λ (e : Export). test e && bytes_eq e.name name) es) ≡ Some k → (e : Export) × Contains es e × (e.name ≡ name)) → (x : Export) × Contains (e ∷ es) x × (x.name ≡ name)
    by true t h go = (e, (0, omega arith, refl), (bytes_eq-Decides e.name name).0 (and_parts (test e) (bytes_eq e.name name) t).1)
    by false t h go =
        let r = go h in
        (r.0, (suc r.1.0, omega (arith, r.1.1), r.1.2), r.2)

module _ (f : Function) (v : Valid f.code) (hosts : HostImports f.code) where
  abbrev here : Ground
  here = ground_of f.code

  -- a function that may be entered: it has a body and no parameters
  record CanEnter (k : ℕ) : Type 0 where
    type : FuncType
    found : Found f.code (program f).functions k k type
    params : length type.params ≡ 0
    own : IsDefined found.function

  -- about to run a function, within the bound on its steps
  record EntryOk (c : Configuration) : Type 0 where
    config : ConfigOk here c
    memory : Private c
    weighs : weight c ≤ 2 * f.fuel + 1

  entry_by_ok : (s : Store) → StoreOk here s → (h : Func) (t : FuncType) → type_of h ≡ t → length t.params ≡ 0 → FuncOk here h → IsDefined h → MadeOk EntryOk (entry_by f s (Some h))
  entry_by_ok s ok (hosted n u) t e p o d = absurd d
  entry_by_ok s ok (defined u n b) t e p o d =
      let none : length u.params ≡ 0 = ap (λ (q : FuncType). length q.params) e ∙ p in
      record {
        config = entered_ok here u n b s.globals s.table s.memory f.fuel o none ok.globals ok.table;
        memory = ok.memory;
        weighs = omega arith;
      }

  entry_ok : (s : Store) → StoreOk here s → (k : ℕ) → CanEnter k → MadeOk EntryOk (entry f s (Some k))
  entry_ok s ok k e = subst (λ q. MadeOk EntryOk (entry_by f s q)) (sym e.found.at) (entry_by_ok s ok e.found.function e.type e.found.type e.params e.found.ok e.own)

  typed : ProgramOk (program f) here
  typed = program_ok f.code v hosts f.grants

  steps_ok : (n : ℕ) (c : Configuration) → ConfigOk here c → Private c → NextOk here (steps (program f) n c) × Quiet (steps (program f) n c)
  steps_ok zero c h q = (h, q)
  steps_ok (suc n) c h q = by (step (program f) c) (step_ok here (program f) typed c h) (step_quiet (program f) c q) (steps_ok n)
    where
      by : (x : Next) → NextOk here x → Quiet x → ((c : Configuration) → ConfigOk here c → Private c → NextOk here (steps (program f) n c) × Quiet (steps (program f) n c)) → NextOk here (then_go x (steps (program f) n)) × Quiet (then_go x (steps (program f) n))
      by (goes d) h q go = go d h q
      by (ends d o) h q go = (h, q)
      by (touches d b) h q go = absurd q
      by (calls d b) h q go = (h, q)
      by stuck h q go = absurd h

  after_ok : (x : Next) → NextOk here x → Quiet x → ((d : Configuration) → x ≡ goes d → ⊥) → MadeOk (StoreOk here) (after x)
  after_ok (goes d) h q not = absurd (not d refl)
  after_ok (ends d (outcome.Done n)) h q not = record { globals = h.0; table = h.1; memory = q.0 }
  after_ok (ends d (outcome.Trap t)) h q not = tt
  after_ok (ends d outcome.FuelOut) h q not = tt
  after_ok (ends d (outcome.Broken b)) h q not = absurd q.1
  after_ok (ends d outcome.Want) h q not = absurd q.1
  after_ok (touches d b) h q not = absurd q
  after_ok (calls d b) h q not = tt
  after_ok stuck h q not = absurd h

  through_ok : (i : Option ℕ) → ((k : ℕ) → i ≡ Some k → CanEnter k) → (s : Store) → StoreOk here s → MadeOk (StoreOk here) (through f i s)
  through_ok None may s ok = ok
  through_ok (Some k) may s ok =
      then_ok EntryOk (StoreOk here) (entry f s (Some k)) _ (entry_ok s ok k (may k refl)) λ c e.
      let n = 2 * f.fuel + 1 in
      let r = steps_ok n c e.config e.memory in
      after_ok (steps (program f) n c) r.0 r.1 (λ d g. ends_by (program f) n c d e.weighs g)

  start_enters : (o : Option ℕ) → StartOk f.code o → (k : ℕ) → o ≡ Some k → CanEnter k
  start_enters None h k e = absurd (cc)
  start_enters (Some j) h k e =
      let same : j ≡ k = cc in
      let type : slice_get (function_types f.code) k ≡ Some (record { params = []; results = [] }) = subst (λ i. slice_get (function_types f.code) i ≡ Some (record { params = []; results = [] })) same h in
      let found = function_found f.code v hosts k (record { params = []; results = [] }) type in
      record { type = record { params = []; results = [] }; found = found; params = refl; own = bare_defined here found.function found.type found.ok }

  export_enters : (name : List ℕ) (t : FuncType) → length t.params ≡ 0 → ExportsOwn f.code name t → (k : ℕ) → export_of f.code name ≡ Some k → CanEnter k
  export_enters name t p x k e =
      let same : x.index ≡ k = same_Some _ _ (sym x.exported ∙ e) in
      let type : slice_get (function_types f.code) k ≡ Some t = subst (λ i. slice_get (function_types f.code) i ≡ Some t) same x.type in
      let found = function_found f.code v hosts k t type in
      record { type = t; found = found; params = p; own = found.own (omega (arith, x.own, same)) }

-- a runnable module comes to a typed state about to run `main`, or is broken
pub fresh_ok : (f : Function) → Valid f.code → Runnable f.code → MadeOk (ConfigOk (ground_of f.code)) (fresh f)
fresh_ok f v r =
    let hosts = r.imports in
    let g = ground_of f.code in
    let enters = export_enters f v hosts in
    then_ok (StoreOk g) (ConfigOk g) (instantiated f) _ (instantiated_ok f v hosts) λ s s_ok.
    then_ok (StoreOk g) (ConfigOk g) (through f f.code.start s) _ (through_ok f v hosts f.code.start (start_enters f v hosts f.code.start v.rules.start_ok) s s_ok) λ t t_ok.
    then_ok (StoreOk g) (ConfigOk g) (through f (export_of f.code (codes "init")) t) _ (through_ok f v hosts (export_of f.code (codes "init")) (λ k e. enters (codes "init") _ refl (r.init (found_export (codes "init") _ f.code.exports k e)) k e) t t_ok) λ u u_ok.
    weaker (entry f u (export_of f.code (codes "main"))) (subst (λ o. MadeOk (EntryOk f v hosts) (entry f u o)) (sym r.main.exported) (entry_ok f v hosts u u_ok r.main.index (enters (codes "main") _ refl r.main r.main.index r.main.exported)))
  where
    weaker : (a : Made Configuration) → MadeOk (EntryOk f v r.imports) a → MadeOk (ConfigOk (ground_of f.code)) a
    weaker (makes c) h = h.config
    weaker (breaks k) h = tt
    weaker nothing h = absurd h
