-- Functions with a body, where all imports are host calls.
use Rattle.std.proofs.Common.{◌≡◌, ℕ, suc, ◌+◌, ◌-◌, ◌<◌, ◌≤◌, All, List, [], ◌∷◌, Option, Some, None, length, refl, sym, ap, ◌∙◌, subst, arith}
use Rattle.std.specs.Prelude.{filter_map, option_map, slice_get, IfNone, IfSome}
use Rattle.std.specs.List.{cons_option}
use Rattle.std.proofs.lemmas.List.Elements.{All-head, All-tail}
use Rattle.std.proofs.lemmas.Option.{slice_get-map, same_Some}
use Rattle.faaslet_meaning.specs.declared.module.FuncType.{FuncType}
use Rattle.faaslet_meaning.specs.declared.module.Import.{Import}
use Rattle.faaslet_meaning.specs.declared.module.ImportKind.{ImportKind}
use Rattle.faaslet_meaning.specs.declared.module.ImportKind.TheVariants as import
use Rattle.faaslet_meaning.specs.declared.module.Module.{Module}
use Rattle.faaslet_meaning.specs.IndexSpaces.{imported_function, imported_functions, function_types, functions, type_at}
use Rattle.faaslet_meaning.specs.Runnable.{IsHostCall, HostImports}
use Rattle.faaslet_meaning.proofs.Appended.{get_above}
use Rattle.function_rules.specs.Exports.{IsOwn}

functions_of : (m : Module) (is : List Import) → All (IsHostCall m) is → length (filter_map (λ (i : Import). imported_function i.kind) is) ≡ length is
functions_of m [] all = refl
functions_of m (i ∷ is) all = by i.kind (All-head (IsHostCall m) i is all).kind (functions_of m is (All-tail (IsHostCall m) i is all))
  where
    by : {t : ℕ} (kind : ImportKind) → kind ≡ import.Function t → length (filter_map (λ (a : Import). imported_function a.kind) is) ≡ length is → length (cons_option (imported_function kind) (filter_map (λ (a : Import). imported_function a.kind) is)) ≡ suc (length is)
    by (import.Function u) e r = ap suc r
    by (import.Table l) e r = absurd (cc)
    by (import.Memory l) e r = absurd (cc)
    by (import.Global g) e r = absurd (cc)

-- all imports are functions
pub all_functions : (m : Module) → HostImports m → length (imported_functions m) ≡ length m.imports
all_functions m hosts = functions_of m m.imports hosts

own_found : (m : Module) (i n : ℕ) → HostImports m → n ≡ length m.imports → n ≤ i → slice_get (function_types m) i ≡ option_map (type_at m) (slice_get m.functions (i - n))
own_found m i n hosts e l =
    let above : i ≡ length (imported_functions m) + (i - n) = omega (arith, all_functions m hosts, e, l) in
    slice_get-map (type_at m) (functions m) i ∙ ap (option_map (type_at m)) (ap (slice_get (functions m)) above ∙ get_above (imported_functions m) m.functions (i - n))

module _ (m : Module) (i n : ℕ) (hosts : HostImports m) (e : n ≡ length m.imports) (l : n ≤ i) where
  pub is_own : (o : Option ℕ) → o ≡ slice_get m.functions (i - n) → IfSome o (λ t. IsOwn m i (type_at m t))
  is_own None f = tt
  is_own (Some t) f = record { own = omega (arith, all_functions m hosts, e, l); type = own_found m i n hosts e l ∙ ap (option_map (type_at m)) (sym f) }

  pub none_own : (o : Option ℕ) → o ≡ slice_get m.functions (i - n) → IfNone o ((t : FuncType) → IsOwn m i t → ⊥)
  none_own (Some t) f = tt
  none_own None f = λ t is. let none : slice_get (function_types m) i ≡ None = own_found m i n hosts e l ∙ ap (option_map (type_at m)) (sym f) in let some = is.type in let never : ⊥ = cc (none, some) in never

pub below_own : (m : Module) (i n : ℕ) (t : FuncType) → HostImports m → n ≡ length m.imports → i < n → IsOwn m i t → ⊥
below_own m i n t hosts e l is = omega (arith, all_functions m hosts, is.own)

pub own_as : (m : Module) (i : ℕ) (t u : FuncType) → IsOwn m i t → t ≡ u → IsOwn m i u
own_as m i t u is e = subst (IsOwn m i) e is

pub own_same : (m : Module) (i : ℕ) (t u : FuncType) → IsOwn m i t → IsOwn m i u → t ≡ u
own_same m i t u is other = same_Some _ _ (sym is.type ∙ other.type)
