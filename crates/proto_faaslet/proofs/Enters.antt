-- The start function, `init` and `main` can be entered.
use Rattle.std.proofs.Common.{◌≡◌, ℕ, zero, suc, ◌+◌, ◌≤◌, Bool, true, false, List, [], ◌∷◌, ◌++◌, Option, Some, None, length, refl, sym, ap, ◌∙◌, subst, arith}
use Rattle.std.specs.Prelude.{slice_get, nat_lt, codes, ◌||◌, if◌then◌else◌}
use Rattle.std.proofs.lemmas.Option.{same_Some}
use Rattle.faaslet_meaning.specs.declared.instr.ValType.TheVariants.{I32}
use Rattle.faaslet_meaning.specs.declared.module.Export.{Export}
use Rattle.faaslet_meaning.specs.declared.module.Body.{Body}
use Rattle.faaslet_meaning.specs.declared.module.FuncType.{FuncType}
use Rattle.faaslet_meaning.specs.declared.module.Import.{Import}
use Rattle.faaslet_meaning.specs.declared.module.ImportKind.{ImportKind}
use Rattle.faaslet_meaning.specs.declared.module.ImportKind.TheVariants as import
use Rattle.faaslet_meaning.specs.declared.module.Module.{Module}
use Rattle.faaslet_meaning.specs.Configuration.{Func, hosted, defined, type_of}
use Rattle.faaslet_meaning.specs.Decoding.{some_locals, local_limit, passes, first_passed}
use Rattle.faaslet_meaning.specs.Decoding as decoding
use Rattle.faaslet_meaning.specs.Fine.{ground_of}
use Rattle.faaslet_meaning.specs.IndexSpaces.{function_types, type_at, local_count}
use Rattle.faaslet_meaning.specs.Program.{bodies_from, host_functions, host_number, functions_of, export_of, is_function}
use Rattle.faaslet_meaning.specs.Runnable.{HostImports, ExportsOwn, InitFits, MainFits}
use Rattle.faaslet_meaning.specs.Tree.{Tree}
use Rattle.faaslet_meaning.specs.Valid.{StartOk, Valid}
use Rattle.faaslet_meaning.proofs.SoundEntry.{bare_defined, found_export}
use Rattle.faaslet_meaning.proofs.SoundModules.{IsDefined, function_found}
use Rattle.proto_faaslet.specs.Entries.{CanEnter}

-- ---- Locals are few.

either : (a b : Bool) → (a || b) ≡ false → (a ≡ false) × (b ≡ false)
either false b e = (refl, e)
either true b e = let never : ⊥ = cc e in absurd never

-- of the bodies from here on, each has few locals
few_from : (m : Module) (ts : List ℕ) (bs : List Body) (i : ℕ) (t : FuncType) (n : ℕ) (e : Tree) → some_locals m ts bs ≡ false → slice_get (bodies_from m ts bs) i ≡ Some (defined t n e) → n ≤ local_limit
few_from m [] bs i t n e h f = let never : ⊥ = cc f in absurd never
few_from m (u ∷ ts) [] i t n e h f = let never : ⊥ = cc f in absurd never
few_from m (u ∷ ts) (b ∷ bs) zero t n e h f =
    let few : nat_lt local_limit (length (type_at m u).params + local_count b) ≡ false = (either _ _ h).0 in
    let at_most : length (type_at m u).params + local_count b ≤ local_limit = grind arith in
    let same : local_count b ≡ n = cc f in
    omega arith
few_from m (u ∷ ts) (b ∷ bs) (suc i) t n e h f = few_from m ts bs i t n e (either _ _ h).1 f

few_found : (m : Module) (is : List Import) (k : ℕ) (t : FuncType) (n : ℕ) (e : Tree) → some_locals m m.functions m.bodies ≡ false → slice_get (host_functions m is ++ bodies_from m m.functions m.bodies) k ≡ Some (defined t n e) → n ≤ local_limit
few_found m [] k t n e h f = few_from m m.functions m.bodies k t n e h f
few_found m (i ∷ is) k t n e h f = by i.kind k f (λ j g. few_found m is j t n e h g)
  where
    by : (kind : ImportKind) (k : ℕ)
        → slice_get (elim kind as (λ _. List Func) [ import.Function u ↦ hosted (host_number i.name) (type_at m u) ∷ host_functions m is | import.Table l ↦ host_functions m is | import.Memory l ↦ host_functions m is | import.Global g ↦ host_functions m is ] ++ bodies_from m m.functions m.bodies) k ≡ Some (defined t n e)
        → ((j : ℕ) → slice_get (host_functions m is ++ bodies_from m m.functions m.bodies) j ≡ Some (defined t n e) → n ≤ local_limit) → n ≤ local_limit
    by (import.Function u) zero g go = let never : ⊥ = cc g in absurd never
    by (import.Function u) (suc j) g go = go j g
    by (import.Table l) k g go = go k g
    by (import.Memory l) k g go = go k g
    by (import.Global l) k g go = go k g

within : (m : Module) → first_passed m ≡ None → some_locals m m.functions m.bodies ≡ false
within m e = by (passes m decoding.params) (some_locals m m.functions m.bodies) refl e
  where
    by : (p l : Bool) → some_locals m m.functions m.bodies ≡ l
        → (if p then Some decoding.params else if l then Some decoding.locals else if passes m decoding.table then Some decoding.table else if passes m decoding.globals then Some decoding.globals else None) ≡ None → some_locals m m.functions m.bodies ≡ false
    by true l s g = let never : ⊥ = cc g in absurd never
    by false true s g = let never : ⊥ = cc g in absurd never
    by false false s g = s

-- ---- What can be entered.

abbrev is_function_export : Export → Bool
is_function_export e = is_function e.kind

module _ (m : Module) (v : Valid m) (hosts : HostImports m) (limits : first_passed m ≡ None) where
  entered_by : (k : ℕ) (t : FuncType) (f : Func) → slice_get (functions_of m) k ≡ Some f → type_of f ≡ t → t.params ≡ [] → length t.results ≤ 1 → IsDefined f → CanEnter m k
  entered_by k t (hosted n u) at is p r own = absurd own
  entered_by k t (defined u n b) at is p r own = record {
    type = u;
    locals = n;
    body = b;
    entry = record {
      found = at;
      params = ap (λ (q : FuncType). q.params) is ∙ p;
      results = subst (λ (q : FuncType). length q.results ≤ 1) (sym is) r;
      few = omega (arith, few_found m m.imports k u n b (within m limits) at);
    };
  }

  pub export_enters : (name : List ℕ) (t : FuncType) → t.params ≡ [] → length t.results ≤ 1 → ExportsOwn m name t → (k : ℕ) → export_of m name ≡ Some k → CanEnter m k
  export_enters name t p r x k e =
      let same : x.index ≡ k = same_Some _ _ (sym x.exported ∙ e) in
      let type : slice_get (function_types m) k ≡ Some t = subst (λ i. slice_get (function_types m) i ≡ Some t) same x.type in
      let found = function_found m v hosts k t type in
      entered_by k t found.function found.at found.type p r (found.own (omega (arith, x.own, same)))

  pub start_enters : (o : Option ℕ) → StartOk m o → (k : ℕ) → o ≡ Some k → CanEnter m k
  start_enters None h k e = let never : ⊥ = cc e in absurd never
  start_enters (Some j) h k e =
      let same : j ≡ k = cc in
      let t : FuncType = record { params = []; results = [] } in
      let type : slice_get (function_types m) k ≡ Some t = subst (λ i. slice_get (function_types m) i ≡ Some t) same h in
      let found = function_found m v hosts k t type in
      entered_by k t found.function found.at found.type refl (omega arith) (bare_defined (ground_of m) found.function found.type found.ok)

  -- the start function, `init` and `main`
  pub init_enters : InitFits m → (k : ℕ) → export_of m (codes "init") ≡ Some k → CanEnter m k
  init_enters fits k e = export_enters (codes "init") (record { params = []; results = [] }) refl (omega arith) (fits (found_export (codes "init") is_function_export m.exports k e)) k e

  pub main_enters : MainFits m → (k : ℕ) → export_of m (codes "main") ≡ Some k → CanEnter m k
  main_enters fits k e = export_enters (codes "main") (record { params = []; results = I32 ∷ [] }) refl (omega arith) fits k e
