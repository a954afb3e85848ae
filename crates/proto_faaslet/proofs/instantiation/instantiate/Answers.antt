use Rattle.proto_faaslet.specs.Instances.{store_of}
use Rattle.std.proofs.Common.{◌∙◌, sym, subst}
use Rattle.faaslet_meaning.specs.Runnable.{HostImports}
use Rattle.proto_faaslet.proofs.Begun.{begun_in, begun_past, filled, unfilled, past, if_ok, if_err}
use Rattle.proto_faaslet.specs.Entries.{IsKept}
use Rattle.proto_faaslet.proofs.First.{kept_first}
use Rattle.proto_faaslet.proofs.instantiation.instantiate.Goals as goal

pub returns-in_ok-globals-in-Ok-clause-made : goal.returns-in_ok-globals-in-Ok-clause-made
returns-in_ok-globals-in-Ok-clause-made g c =
    let m = c.module-module.result.now in
    let memory = g.M.Linear.memory c.grow.new.self in
    let hosts = subst HostImports (sym c.module-module.ensures.same) c.requires.imports in
    let begun = begun_in _ memory c.limits_of-pages.result m c.requires.empty c.limits_of-pages.ensures c.in-Ok.ensures.grown.0 c.in-Ok.ensures.grown.1 in
    if_ok _ _ c.fill.result c.fill.ensures.filled (λ i h f is. filled f m memory.quota i _ (record { code = is.code ∙ sym c.module-module.ensures.same; quota_is = is.quota_is ∙ sym begun.1 }) c.module-module.ensures.valid hosts begun.0 h)

pub returns-in_ok-globals-in-Ok-clause-broken : goal.returns-in_ok-globals-in-Ok-clause-broken
returns-in_ok-globals-in-Ok-clause-broken g c =
    let m = c.module-module.result.now in
    let memory = g.M.Linear.memory c.grow.new.self in
    let hosts = subst HostImports (sym c.module-module.ensures.same) c.requires.imports in
    let begun = begun_in _ memory c.limits_of-pages.result m c.requires.empty c.limits_of-pages.ensures c.in-Ok.ensures.grown.0 c.in-Ok.ensures.grown.1 in
    if_err _ _ c.fill.result c.fill.ensures.cannot (λ e h f is. unfilled f m memory.quota e (record { code = is.code ∙ sym c.module-module.ensures.same; quota_is = is.quota_is ∙ sym begun.1 }) c.module-module.ensures.valid hosts begun.0 h)

pub returns-in-Err-clause-broken : goal.returns-in-Err-clause-broken
returns-in-Err-clause-broken g c =
    let m = c.module-module.result.now in
    let hosts = subst HostImports (sym c.module-module.ensures.same) c.requires.imports in
    let over = begun_past _ c.limits_of-pages.result m c.module-module.ensures.valid c.requires.empty c.limits_of-pages.ensures c.in-Err.ensures.full.0 in
    λ f is. past f m _ (record { code = is.code ∙ sym c.module-module.ensures.same; quota_is = is.quota_is }) c.module-module.ensures.valid hosts over

pub returns-in_ok-globals-in-Ok-clause-kept : goal.returns-in_ok-globals-in-Ok-clause-kept
returns-in_ok-globals-in-Ok-clause-kept g c =
    let m = c.module-module.result.now in
    let memory = g.M.Linear.memory c.grow.new.self in
    let hosts = subst HostImports (sym c.module-module.ensures.same) c.requires.imports in
    let begun = begun_in _ memory c.limits_of-pages.result m c.requires.empty c.limits_of-pages.ensures c.in-Ok.ensures.grown.0 c.in-Ok.ensures.grown.1 in
    if_ok _ _ c.fill.result c.fill.ensures.filled (λ i h. subst (λ q. IsKept c.args.module.now q (store_of i (g.M.Linear.memory c.fill.new.memory))) begun.1 (subst (λ n. IsKept n memory.quota (store_of i (g.M.Linear.memory c.fill.new.memory))) c.module-module.ensures.same (kept_first m memory.quota i _ c.module-module.ensures.valid hosts begun.0 h)))
