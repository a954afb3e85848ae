-- How many globals a module has, its limits kept.
use Rattle.std.proofs.Common.{◌≡◌, ℕ, ◌≤◌, All, Bool, true, false, List, [], ◌∷◌, Some, None, length, map, refl, ap, arith}
use Rattle.std.specs.Prelude.{filter_map, nat_lt, if◌then◌else◌}
use Rattle.std.specs.List.{cons_option}
use Rattle.std.proofs.lemmas.List.{length-append, length-map}
use Rattle.std.proofs.lemmas.List.Elements.{All-head, All-tail}
use Rattle.faaslet_meaning.specs.declared.module.GlobalDef.{GlobalDef}
use Rattle.faaslet_meaning.specs.declared.module.Import.{Import}
use Rattle.faaslet_meaning.specs.declared.module.ImportKind.{ImportKind}
use Rattle.faaslet_meaning.specs.declared.module.ImportKind.TheVariants as import
use Rattle.faaslet_meaning.specs.declared.module.Module.{Module}
use Rattle.faaslet_meaning.specs.Decoding.{global_limit, passes, first_passed}
use Rattle.faaslet_meaning.specs.Decoding as decoding
use Rattle.faaslet_meaning.specs.IndexSpaces.{imported_global, imported_globals, globals}
use Rattle.faaslet_meaning.specs.Runnable.{IsHostCall, HostImports}

-- host calls are functions, so no global is imported
none_imported : (m : Module) (is : List Import) → All (IsHostCall m) is → filter_map (λ (i : Import). imported_global i.kind) is ≡ []
none_imported m [] h = refl
none_imported m (i ∷ is) h = by i.kind (All-head (IsHostCall m) i is h).kind (none_imported m is (All-tail (IsHostCall m) i is h))
  where
    by : {t : ℕ} (kind : ImportKind) → kind ≡ import.Function t → filter_map (λ (a : Import). imported_global a.kind) is ≡ [] → cons_option (imported_global kind) (filter_map (λ (a : Import). imported_global a.kind) is) ≡ []
    by (import.Function u) e r = r
    by (import.Table l) e r = absurd (cc)
    by (import.Memory l) e r = absurd (cc)
    by (import.Global g) e r = absurd (cc)

pub own_globals : (m : Module) → HostImports m → length (globals m) ≡ length m.globals
own_globals m hosts = omega (arith, length-append (imported_globals m) (map (λ (d : GlobalDef). d.kind) m.globals), length-map m.globals (λ (d : GlobalDef). d.kind), ap length (none_imported m m.imports hosts))

pub few_globals : (m : Module) → first_passed m ≡ None → length m.globals ≤ global_limit
few_globals m e = by (passes m decoding.params) (passes m decoding.locals) (passes m decoding.table) (nat_lt global_limit (length m.globals)) refl e
  where
    by : (p l t g : Bool) → nat_lt global_limit (length m.globals) ≡ g
        → (if p then Some decoding.params else if l then Some decoding.locals else if t then Some decoding.table else if g then Some decoding.globals else None) ≡ None → length m.globals ≤ global_limit
    by true l t g s h = let never : ⊥ = cc h in absurd never
    by false true t g s h = let never : ⊥ = cc h in absurd never
    by false false true g s h = let never : ⊥ = cc h in absurd never
    by false false false true s h = let never : ⊥ = cc h in absurd never
    by false false false false s h = grind arith
