-- The program of a valid module that imports host calls alone is typed.
use Rattle.std.proofs.Common.{◌≡◌, ℕ, zero, suc, ◌≤◌, ◌+◌, List, [], ◌∷◌, ◌++◌, length, refl, sym, ap, ◌∙◌, subst, arith, Some, Option, length-append, map}
use Rattle.std.specs.Prelude.{All, slice_get, unwrap_or, replicate, filter_map, flat_map, fold}
use Rattle.std.specs.List.{cons_option}
use Rattle.std.proofs.lemmas.List.{length-replicate, map-append}
use Rattle.std.proofs.lemmas.Option.{same_Some}
use Rattle.faaslet_meaning.specs.declared.instr.ValType.TheVariants.{I32}
use Rattle.faaslet_meaning.specs.declared.module.Module.{Module}
use Rattle.faaslet_meaning.specs.declared.module.FuncType.{FuncType}
use Rattle.faaslet_meaning.specs.declared.module.Import.{Import}
use Rattle.faaslet_meaning.specs.declared.module.ImportKind.{ImportKind}
use Rattle.faaslet_meaning.specs.declared.module.ImportKind.TheVariants as import
use Rattle.faaslet_meaning.specs.declared.module.LocalGroup.{LocalGroup}
use Rattle.faaslet_meaning.specs.declared.module.Body.{Body}
use Rattle.faaslet_meaning.specs.declared.grant.Grant.{Grant}
use Rattle.faaslet_meaning.specs.Parse.{tree_of}
use Rattle.faaslet_meaning.specs.HostCalls.{host_rows, arity}
use Rattle.faaslet_meaning.specs.Configuration.{Func, hosted, defined, type_of}
use Rattle.faaslet_meaning.specs.Program.{bodies_from, functions_of, program_of}
use Rattle.faaslet_meaning.specs.Program as program
use Rattle.faaslet_meaning.specs.Valid.{locals_of, context_of, HasBody, Valid}
use Rattle.faaslet_meaning.specs.IndexSpaces.{imported_function, imported_functions, function_types, type_at, local_count}
use Rattle.faaslet_meaning.specs.Runnable.{IsHostCall}
use Rattle.faaslet_meaning.specs.HostCalls.{type_of_row}
use Rattle.faaslet_meaning.specs.Fine.{ground_of, BodyOk, HostOk, FuncOk, ProgramOk}
use Rattle.faaslet_meaning.proofs.Written.{typed_body}

counted : (gs : List LocalGroup) (n : ℕ) → n + length (flat_map (λ (g : LocalGroup). replicate g.count g.kind) gs) ≡ fold (λ (a : ℕ) (g : LocalGroup). a + g.count) n gs
counted [] n = omega arith
counted (g ∷ gs) n =
    let rest = counted gs (n + g.count) in
    omega (arith, rest, length-append (replicate g.count g.kind) (flat_map (λ (g : LocalGroup). replicate g.count g.kind) gs), length-replicate g.count g.kind)

abbrev pub IsDefined : Func → Type 0
IsDefined (hosted n t) = ⊥
IsDefined (defined t n b) = Unit {0}

-- function k of a module, at place i of a list, with its type; past the imports it has a body
pub record Found (m : Module) (fs : List Func) (k i : ℕ) (t : FuncType) : Type 0 where
  pub function : Func
  pub at : slice_get fs i ≡ Some function
  pub type : type_of function ≡ t
  pub ok : FuncOk (ground_of m) function
  pub own : length (imported_functions m) ≤ k → IsDefined function

module _ (m : Module) where
  abbrev EachHost : List Import → Type 0
  EachHost [] = Unit {0}
  EachHost (i ∷ is) = IsHostCall m i × EachHost is

  each_host : (is : List Import) → All (IsHostCall m) is → EachHost is
  each_host [] h = tt
  each_host (i ∷ is) h = (h 0 i (omega arith), each_host is (λ k d l. h (suc k) d (omega (arith, l))))

  host_ok : (i : Import) (h : IsHostCall m i) → HostOk (program.host_number i.name) (type_at m h.type)
  host_ok i h =
      let type : type_at m h.type ≡ type_of_row h.row = ap (λ (o : Option FuncType). unwrap_or o (record { params = []; results = [] })) h.type_is in
      let number : program.host_number i.name ≡ h.number = ap (λ o. unwrap_or o (length host_rows)) h.named in
      record {
        row = h.row;
        row_is = subst (λ k. slice_get host_rows k ≡ Some h.row) (sym number) h.row_is;
        params = sym (ap (λ (t : FuncType). length t.params) type ∙ length-replicate (arity h.row.form) I32);
        results = sym (ap (λ (t : FuncType). length t.results) type);
      }

  -- the bodies have the types that are listed for them
  own_found : (ts : List ℕ) (bs : List Body) (i : ℕ) (t : FuncType) → length bs ≡ length ts → slice_get (map (type_at m) ts) i ≡ Some t → (b : Body) × (slice_get bs i ≡ Some b) × (slice_get (bodies_from m ts bs) i ≡ Some (defined t (local_count b) (tree_of b.code)))
  own_found [] bs i t n e = absurd (cc)
  own_found (u ∷ ts) [] i t n e = absurd (omega (arith, n))
  own_found (u ∷ ts) (b ∷ bs) zero t n e = (b, refl, ap (λ (s : FuncType). Some (defined s (local_count b) (tree_of b.code))) (same_Some _ _ e))
  own_found (u ∷ ts) (b ∷ bs) (suc i) t n e = own_found ts bs i t (omega (arith, n)) e

  module _ (v : Valid m) where
    body_ok : (k : ℕ) (t : FuncType) (b : Body) → HasBody m k t b → BodyOk (ground_of m) t (local_count b) (tree_of b.code)
    body_ok k t b is =
        let all : length (locals_of t b) ≡ length t.params + local_count b = omega (arith, length-append t.params (flat_map (λ (g : LocalGroup). replicate g.count g.kind) b.locals), counted b.locals 0) in
        record { context = context_of m t b; grounded = refl; labels = refl; results = refl; count = all; typed = typed_body (context_of m t b) b.code (v.bodies_typed k t b is) }

    abbrev own : List FuncType
    own = map (type_at m) m.functions

    abbrev others : List Func
    others = bodies_from m m.functions m.bodies

    -- of the imports those from here on, and the bodies: past so many imports, function k is the one at i
    found_from : (is : List Import) → EachHost is → (k past i : ℕ) (t : FuncType) → k ≡ past + i → past + length (filter_map (λ (a : Import). imported_function a.kind) is) ≡ length (imported_functions m) → slice_get (function_types m) k ≡ Some t → slice_get (map (type_at m) (filter_map (λ (a : Import). imported_function a.kind) is) ++ own) i ≡ Some t → Found m (program.host_functions m is ++ others) k i t
    found_from [] h k past i t e n f here =
        let b = own_found m.functions m.bodies i t v.rules.as_many_bodies here in
        record { function = defined t (local_count b.0) (tree_of b.0.code); at = b.2; type = refl; ok = body_ok k t b.0 (record { place = i; behind_imports = omega (arith, e, n); type = f; body = b.1 }); own = λ l. tt {0} }
    found_from (x ∷ is) h k past i t e n f here = by x.kind h.0.kind i e n here (λ j e n here. found_from is h.1 k (suc past) j t e n f here)
      where
        by : (kind : ImportKind) → kind ≡ import.Function h.0.type → (i : ℕ) → k ≡ past + i → past + length (cons_option (imported_function kind) (filter_map (λ (a : Import). imported_function a.kind) is)) ≡ length (imported_functions m)
            → slice_get (map (type_at m) (cons_option (imported_function kind) (filter_map (λ (a : Import). imported_function a.kind) is)) ++ own) i ≡ Some t
            → ((j : ℕ) → k ≡ suc past + j → suc past + length (filter_map (λ (a : Import). imported_function a.kind) is) ≡ length (imported_functions m) → slice_get (map (type_at m) (filter_map (λ (a : Import). imported_function a.kind) is) ++ own) j ≡ Some t → Found m (program.host_functions m is ++ others) k j t)
            → Found m (elim kind as (λ _. List Func) [ import.Function u ↦ hosted (program.host_number x.name) (type_at m u) ∷ program.host_functions m is | import.Table l ↦ program.host_functions m is | import.Memory l ↦ program.host_functions m is | import.Global g ↦ program.host_functions m is ] ++ others) k i t
        by (import.Function u) same zero e n here go =
            let type : h.0.type ≡ u = cc in
            record { function = hosted (program.host_number x.name) (type_at m u); at = refl; type = same_Some _ _ here; ok = subst (λ w. HostOk (program.host_number x.name) (type_at m w)) type (host_ok x h.0); own = λ l. absurd (omega (arith, e, n, l)) }
        by (import.Function u) same (suc j) e n here go =
            let r = go j (omega (arith, e)) (omega (arith, n)) here in
            record { function = r.function; at = r.at; type = r.type; ok = r.ok; own = r.own }
        by (import.Table l) same i e n here go = absurd (cc)
        by (import.Memory l) same i e n here go = absurd (cc)
        by (import.Global g) same i e n here go = absurd (cc)

    pub function_found : All (IsHostCall m) m.imports → (k : ℕ) (t : FuncType) → slice_get (function_types m) k ≡ Some t → Found m (functions_of m) k k t
    function_found hosts k t e = found_from m.imports (each_host m.imports hosts) k 0 k t (omega arith) (omega arith) e (subst (λ l. slice_get l k ≡ Some t) (map-append (type_at m) (imported_functions m) m.functions) e)

    pub program_ok : All (IsHostCall m) m.imports → (grants : List Grant) → ProgramOk (program_of m grants) (ground_of m)
    program_ok hosts grants = record { types = refl; functions = λ k t e. let r = function_found hosts k t e in (r.function, r.at, r.type, r.ok) }
