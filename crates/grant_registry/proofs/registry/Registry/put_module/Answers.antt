use Rattle.std.proofs.Common.{ap, ◌∙◌, length, Some, refl}
use Rattle.session_meaning.proofs.KeptLimits.{keeps_module}
use Rattle.session_meaning.specs.Draft.{DraftFunction}
use Rattle.session_meaning.proofs.Entries.{length-changed}
use Rattle.grant_registry.proofs.Pushed.{changed_made, changed_kept}
use Rattle.grant_registry.proofs.registry.Registry.put_module.Goals as goal

pub invariant_of-self : goal.invariant_of-self
invariant_of-self c =
    changed_kept c.self.inside.hosts c.self.inside.workers c.self.inside.keys.entries c.self.inside.functions.entries c.self.inside.requests.entries c.args.self.now c.self.view_is
    c.args.f c.index_mut.result.now (record c.index_mut.result.now { «module» = Some c.args.«module» }) c.index_mut.ensures.value
    (λ g. record g { code = Some c.args.«module» }) (λ k. refl) c.self.invariant.limits (λ h. keeps_module c.args.self.now c.args.f c.args.«module» h c.requires.fits)

pub returns-clause-ok : goal.returns-clause-ok
returns-clause-ok c =
    changed_made c.self.inside.hosts c.self.inside.workers c.self.inside.keys.entries c.self.inside.functions.entries c.self.inside.requests.entries c.args.self.now c.self.view_is
    c.args.f c.index_mut.result.now (record c.index_mut.result.now { «module» = Some c.args.«module» }) c.index_mut.ensures.value
    (λ g. record g { code = Some c.args.«module» }) (λ k. refl)

pub returns-clause-functions : goal.returns-clause-functions
returns-clause-functions c =
    ap (λ e. length e.functions)
    (changed_made c.self.inside.hosts c.self.inside.workers c.self.inside.keys.entries c.self.inside.functions.entries c.self.inside.requests.entries c.args.self.now c.self.view_is
    c.args.f c.index_mut.result.now (record c.index_mut.result.now { «module» = Some c.args.«module» }) c.index_mut.ensures.value
    (λ g. record g { code = Some c.args.«module» }) (λ k. refl))
    ∙ length-changed {A = DraftFunction} (λ g. record g { code = Some c.args.«module» }) c.args.self.now.functions c.args.f
