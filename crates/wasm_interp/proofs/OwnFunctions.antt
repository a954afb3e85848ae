-- The functions of a module at their places.
use Rattle.std.proofs.Common.{◌≡◌, ℕ, zero, suc, ◌+◌, ◌-◌, ◌^◌, ◌<◌, ◌≤◌, List, [], ◌∷◌, length, refl, sym, ap, ◌∙◌, subst, arith, length-append, None, Some, ⊎_elim}
use Rattle.std.specs.Prelude.{All, slice_get, filter_map, option_map}
use Rattle.std.proofs.lemmas.Bool.{cases_lt}
use Rattle.std.proofs.lemmas.Option.{same_Some, slice_get-map, slice_get_within, get_or_from_slice_get}
use Rattle.faaslet_meaning.specs.declared.module.Module.{Module}
use Rattle.faaslet_meaning.specs.declared.module.FuncType.{FuncType}
use Rattle.faaslet_meaning.specs.declared.module.Import.{Import}
use Rattle.faaslet_meaning.specs.declared.module.ImportKind.TheVariants as import
use Rattle.faaslet_meaning.specs.declared.module.Body.{Body}
use Rattle.faaslet_meaning.specs.Parse.{part, parts, tree_of}
use Rattle.faaslet_meaning.specs.Configuration.{Func, hosted, defined, type_of}
use Rattle.faaslet_meaning.specs.IndexSpaces.{imported_function, imported_functions, functions, function_types, type_at, local_count}
use Rattle.faaslet_meaning.specs.Program.{functions_of, host_functions, bodies_from, host_number}
use Rattle.faaslet_meaning.specs.Runnable.{HostImports, IsHostCall}
use Rattle.faaslet_meaning.specs.Valid.{Valid}
use Rattle.wasm_validate.specs.Jumps.{JumpsFit}
use Rattle.faaslet_meaning.proofs.Appended.{get_above, get_within}
use Rattle.wasm_interp.specs.declared.functions.Own.{Own}
use Rattle.wasm_interp.specs.declared.functions.Callee.TheVariants as callee
use Rattle.wasm_interp.specs.Callees.{CalleeIs}
use Rattle.faaslet_meaning.proofs.Written.{parts_written, tree_written}

abbrev pub EachHost : Module → List Import → Type 0
EachHost m [] = Unit {0}
EachHost m (i ∷ is) = IsHostCall m i × EachHost m is

each_host : (m : Module) (is : List Import) → All (IsHostCall m) is → EachHost m is
each_host m [] h = tt
each_host m (i ∷ is) h = (h 0 i (omega arith), each_host m is (λ k d l. h (suc k) d (omega (arith, l))))

all_get : {A : Type 0} (P : A → Type 0) (xs : List A) (k : ℕ) (x : A) → All P xs → slice_get xs k ≡ Some x → P x
all_get P xs k x h e = subst P (get_or_from_slice_get xs k x x e) (h k x (slice_get_within xs k x e))

there : {A : Type 0} (xs : List A) (k : ℕ) → k < length xs → (x : A) × (slice_get xs k ≡ Some x)
there [] k lt = absurd (omega arith)
there (x ∷ xs) zero lt = (x, refl)
there (x ∷ xs) (suc k) lt = there xs k (omega arith)

host_count : (m : Module) (is : List Import) → EachHost m is → length (host_functions m is) ≡ length is
host_count m [] h = refl
host_count m (x ∷ is) h = rw h.0.kind (ap suc (host_count m is h.1))

import_count : (m : Module) (is : List Import) → EachHost m is → length (filter_map (λ (a : Import). imported_function a.kind) is) ≡ length is
import_count m [] h = refl
import_count m (x ∷ is) h = rw h.0.kind (ap suc (import_count m is h.1))

-- an import is a function of a type that is there
record Imported (m : Module) (is : List Import) (k : ℕ) (i : Import) : Type 0 where
  pub type : ℕ
  pub kind : i.kind ≡ import.Function type
  pub number : slice_get (filter_map (λ (a : Import). imported_function a.kind) is) k ≡ Some type
  pub found : slice_get (host_functions m is) k ≡ Some (hosted (host_number i.name) (type_at m type))

imported_at : (m : Module) (is : List Import) (k : ℕ) (i : Import) → EachHost m is → slice_get is k ≡ Some i → Imported m is k i
imported_at m [] k i h e = absurd (cc)
imported_at m (x ∷ is) zero i h e =
    let same : x ≡ i = same_Some _ _ e in
    let kind : i.kind ≡ import.Function h.0.type = ap (λ (a : Import). a.kind) (sym same) ∙ h.0.kind in
    record {
      type = h.0.type;
      kind = kind;
      number = rw h.0.kind refl;
      found = rw h.0.kind (ap (λ (a : Import). Some (hosted (host_number a.name) (type_at m h.0.type))) same);
    }
imported_at m (x ∷ is) (suc k) i h e =
    let r = imported_at m is k i h.1 e in
    record { type = r.type; kind = r.kind; number = rw h.0.kind r.number; found = rw h.0.kind r.found }

record Listed (m : Module) (ts : List ℕ) (bs : List Body) (k : ℕ) (g : Func) : Type 0 where
  pub type : ℕ
  pub body : Body
  pub number : slice_get ts k ≡ Some type
  pub at : slice_get bs k ≡ Some body
  pub is : g ≡ defined (type_at m type) (local_count body) (tree_of body.code)

listed : (m : Module) (ts : List ℕ) (bs : List Body) (k : ℕ) (g : Func) → length bs ≡ length ts → slice_get (bodies_from m ts bs) k ≡ Some g → Listed m ts bs k g
listed m [] bs k g n e = absurd (cc)
listed m (t ∷ ts) [] k g n e = absurd (omega (arith, n))
listed m (t ∷ ts) (b ∷ bs) zero g n e = record { type = t; body = b; number = refl; at = refl; is = sym (same_Some _ _ e) }
listed m (t ∷ ts) (b ∷ bs) (suc k) g n e =
    let r = listed m ts bs k g (omega (arith, n)) e in
    record { type = r.type; body = r.body; number = r.number; at = r.at; is = r.is }

body_count : (m : Module) (ts : List ℕ) (bs : List Body) → length bs ≡ length ts → length (bodies_from m ts bs) ≡ length ts
body_count m [] bs n = refl
body_count m (t ∷ ts) [] n = absurd (omega (arith, n))
body_count m (t ∷ ts) (b ∷ bs) n = ap suc (body_count m ts bs (omega (arith, n)))

-- a function that is imported
pub record HostAt (m : Module) (k : ℕ) (i : Import) (g : Func) : Type 0 where
  pub type : ℕ
  pub kind : i.kind ≡ import.Function type
  pub listed : slice_get (functions m) k ≡ Some type
  pub type_there : type < length m.types
  pub is : g ≡ hosted (host_number i.name) (type_at m type)

-- a function with a body
pub record OwnAt (m : Module) (k place : ℕ) (g : Func) : Type 0 where
  pub type : ℕ
  pub body : Body
  pub number : slice_get m.functions place ≡ Some type
  pub at : slice_get m.bodies place ≡ Some body
  pub listed : slice_get (functions m) k ≡ Some type
  pub type_there : type < length m.types
  pub is : g ≡ defined (type_at m type) (local_count body) (tree_of body.code)
  pub few_locals : local_count body < 2 ^ 32
  pub whole : parts body.code ≡ part (tree_of body.code) None ∷ []

module _ (m : Module) (v : Valid m) (imports : HostImports m) (k : ℕ) where
  hosts : EachHost m m.imports
  hosts = each_host m m.imports imports

  type_there : (t : ℕ) → slice_get (functions m) k ≡ Some t → t < length m.types
  type_there t e = all_get (λ n. n < length m.types) (functions m) k t v.rules.types_exist e

  pub host_at : (i : Import) (g : Func) → slice_get m.imports k ≡ Some i → slice_get (functions_of m) k ≡ Some g → HostAt m k i g
  host_at i g at e =
      let r = imported_at m m.imports k i hosts at in
      let near : k < length m.imports = slice_get_within m.imports k i at in
      let in_types : k < length (imported_functions m) = omega (arith, import_count m m.imports hosts) in
      let in_hosts : k < length (host_functions m m.imports) = omega (arith, host_count m m.imports hosts) in
      let in_list : slice_get (functions m) k ≡ Some r.type = get_within (imported_functions m) m.functions k in_types ∙ r.number in
      record {
        type = r.type;
        kind = r.kind;
        listed = in_list;
        type_there = type_there r.type in_list;
        is = same_Some _ _ (sym e ∙ get_within (host_functions m m.imports) (bodies_from m m.functions m.bodies) k in_hosts ∙ r.found);
      }

  pub own_at : (place : ℕ) (g : Func) → k ≡ length m.imports + place → slice_get (functions_of m) k ≡ Some g → OwnAt m k place g
  own_at place g p e =
      let hosts_are = host_count m m.imports hosts in
      let types_are = import_count m m.imports hosts in
      let past_hosts : k ≡ length (host_functions m m.imports) + place = omega (arith, hosts_are, p) in
      let past_types : k ≡ length (imported_functions m) + place = omega (arith, types_are, p) in
      let there : slice_get (bodies_from m m.functions m.bodies) place ≡ Some g =
      sym (get_above (host_functions m m.imports) (bodies_from m m.functions m.bodies) place) ∙ ap (slice_get (functions_of m)) (sym past_hosts) ∙ e in
      let r = listed m m.functions m.bodies place g v.rules.as_many_bodies there in
      let listed_type : slice_get (functions m) k ≡ Some r.type =
      ap (slice_get (functions m)) past_types ∙ get_above (imported_functions m) m.functions place ∙ r.number in
      let typed : slice_get (function_types m) k ≡ Some (type_at m r.type) = slice_get-map (type_at m) (functions m) k ∙ ap (option_map (type_at m)) listed_type in
      let written = v.bodies_typed k (type_at m r.type) r.body (record { place = place; behind_imports = past_types; type = typed; body = r.at }) in
      record {
        type = r.type;
        body = r.body;
        number = r.number;
        at = r.at;
        is = r.is;
        listed = listed_type;
        type_there = type_there r.type listed_type;
        few_locals = all_get (λ (b : Body). local_count b < 2 ^ 32) m.bodies place r.body v.rules.few_locals r.at;
        whole = parts_written r.body.code written.tree written.is_written ∙ ap (λ e. part e None ∷ []) (sym (tree_written r.body.code written.tree written.is_written));
      }

  -- how many there are
  pub function_there : (g : Func) → slice_get (functions_of m) k ≡ Some g → k < length m.imports + length m.functions
  function_there g e =
      omega (arith, slice_get_within (functions_of m) k g e, host_count m m.imports hosts, body_count m m.functions m.bodies v.rules.as_many_bodies, length-append (host_functions m m.imports) (bodies_from m m.functions m.bodies))

  pub host_type : (i : Import) (g : Func) (t : ℕ) → slice_get m.imports k ≡ Some i → i.kind ≡ import.Function t → slice_get (functions_of m) k ≡ Some g → (type_of g ≡ type_at m t) × (t < length m.types)
  host_type i g t at kind e =
      let r = host_at i g at e in
      let same : import.Function r.type ≡ import.Function t = sym r.kind ∙ kind in
      let is : r.type ≡ t = cc in
      (ap type_of r.is ∙ ap (type_at m) is, subst (λ n. n < length m.types) is r.type_there)

  pub own_type : (place : ℕ) (g : Func) (t : ℕ) → k ≡ length m.imports + place → slice_get m.functions place ≡ Some t → slice_get (functions_of m) k ≡ Some g → (type_of g ≡ type_at m t) × (t < length m.types)
  own_type place g t p at e =
      let r = own_at place g p e in
      let is : r.type ≡ t = same_Some _ _ (sym r.number ∙ at) in
      (ap type_of r.is ∙ ap (type_at m) is, subst (λ n. n < length m.types) is r.type_there)

  pub own_within : (g : Func) → length m.imports ≤ k → slice_get (functions_of m) k ≡ Some g → (k - length m.imports < length m.functions) × (k - length m.imports < length m.bodies)
  own_within g past e =
      let there = function_there g e in
      (omega (arith, there), omega (arith, there, v.rules.as_many_bodies))

  pub finds_host : (i : Import) (g : Func) (n params : ℕ) (t : FuncType) → slice_get m.imports k ≡ Some i → slice_get (functions_of m) k ≡ Some g → n ≡ host_number i.name → type_of g ≡ t → params ≡ length t.params → CalleeIs g (callee.Host n params)
  finds_host i g n params t at e number type count =
      let r = host_at i g at e in
      let same : t ≡ type_at m r.type = sym type ∙ ap type_of r.is in
      subst (λ f. CalleeIs f (callee.Host n params)) (sym r.is) (sym number, sym (count ∙ ap (λ (u : FuncType). length u.params) same))

  pub finds_own : (place : ℕ) (g : Func) (o : Own) (b : Body) (t : FuncType) → k ≡ length m.imports + place → slice_get (functions_of m) k ≡ Some g → slice_get m.bodies place ≡ Some b → type_of g ≡ t → length t.results ≤ 1
      → o.code.now ≡ b.code → JumpsFit b.code o.jumps.now → o.params ≡ length t.params → o.locals ≡ local_count b → o.results ≡ length t.results → CalleeIs g (callee.Own o)
  finds_own place g o b t p e at type few code fit params locals results =
      let r = own_at place g p e in
      let same : t ≡ type_at m r.type = sym type ∙ ap type_of r.is in
      let body : r.body ≡ b = same_Some _ _ (sym r.at ∙ at) in
      let code_is : r.body.code ≡ o.code.now = ap (λ (x : Body). x.code) body ∙ sym code in
      subst (λ f. CalleeIs f (callee.Own o)) (sym r.is) (record {
        params = sym (params ∙ ap (λ (u : FuncType). length u.params) same);
        results = sym (results ∙ ap (λ (u : FuncType). length u.results) same);
        few = omega (arith, few, results);
        locals_are = ap local_count body ∙ sym locals;
        whole = ap parts (sym code_is) ∙ r.whole;
        fit = subst (λ l. JumpsFit l o.jumps.now) (sym code) fit;
      })

  -- and its type
  pub function_typed : (g : Func) → slice_get (functions_of m) k ≡ Some g → slice_get (function_types m) k ≡ Some (type_of g)
  function_typed g e = slice_get-map (type_at m) (functions m) k ∙ ⊎_elim near far (cases_lt k (length m.imports))
    where
      near : k < length m.imports → option_map (type_at m) (slice_get (functions m) k) ≡ Some (type_of g)
      near lt =
          let i = there m.imports k lt in
          let r = host_at i.0 g i.1 e in
          ap (option_map (type_at m)) r.listed ∙ ap (λ (f : Func). Some (type_of f)) (sym r.is)

      far : length m.imports ≤ k → option_map (type_at m) (slice_get (functions m) k) ≡ Some (type_of g)
      far past =
          let r = own_at (k - length m.imports) g (omega arith) e in
          ap (option_map (type_at m)) r.listed ∙ ap (λ (f : Func). Some (type_of f)) (sym r.is)
