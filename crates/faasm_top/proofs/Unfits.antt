-- A function may have a module, or there is one first reason against it.
use Rattle.std.proofs.Common.{◌≡◌, ℕ, ◌<◌, refl, ap, subst, ◌∙◌, arith}
use Rattle.std.proofs.lemmas.List.{get_or-take, length-take}
use Rattle.std.proofs.lemmas.Option.{get_or_from_slice_get, slice_get_within}
use Rattle.faaslet_meaning.specs.declared.module.Module.{Module}
use Rattle.faaslet_meaning.specs.Runnable.{IsHostCall, HostImports, Runnable, Unfit, bad_import, no_main, bad_init, FirstBadImport, IsUnfit}

-- a bad import lies behind those that are good
not_before : (m : Module) (j k : ℕ) → FirstBadImport m j → FirstBadImport m k → j < k → ⊥
not_before m j k p q less =
    let within = slice_get_within m.imports j p.one p.found in
    let here = get_or_from_slice_get m.imports j p.one p.one p.found in
    p.bad (subst (IsHostCall m) (get_or-take k m.imports j p.one less ∙ here) (q.first j p.one (omega (arith, length-take k m.imports))))

not_good : (m : Module) (k : ℕ) → FirstBadImport m k → HostImports m → ⊥
not_good m k p all = p.bad (subst (IsHostCall m) (get_or_from_slice_get m.imports k p.one p.one p.found) (all k p.one (slice_get_within m.imports k p.one p.found)))

pub one_reason : (m : Module) (u v : Unfit) → IsUnfit u m → IsUnfit v m → u ≡ v
one_reason m (bad_import j) (bad_import k) p q =
    let not_below : j < k → ⊥ = not_before m j k p q in
    let not_above : k < j → ⊥ = not_before m k j q p in
    let same : j ≡ k = omega (arith, not_below, not_above) in
    ap bad_import same
one_reason m (bad_import j) no_main p q = absurd (not_good m j p q.0)
one_reason m (bad_import j) bad_init p q = absurd (not_good m j p q.0)
one_reason m no_main (bad_import k) p q = absurd (not_good m k q p.0)
one_reason m no_main no_main p q = refl
one_reason m no_main bad_init p q = absurd (p.1 q.1)
one_reason m bad_init (bad_import k) p q = absurd (not_good m k q p.0)
one_reason m bad_init no_main p q = absurd (q.1 p.1)
one_reason m bad_init bad_init p q = refl

pub not_unfit : (m : Module) (u : Unfit) → Runnable m → IsUnfit u m → ⊥
not_unfit m (bad_import k) r p = not_good m k p r.imports
not_unfit m no_main r p = p.1 r.main
not_unfit m bad_init r p = p.2 r.init
