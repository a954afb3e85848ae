use Rattle.std.proofs.Common.{◌∙◌, length, ◌∷◌, ◌++◌, [], ap}
use Rattle.grant_registry.specs.Entries.{function_of}
use Rattle.grant_registry.proofs.Placed.{on_err}
use Rattle.session_meaning.specs.Draft.{DraftFunction}
use Rattle.session_meaning.proofs.Entries.{length-changed}
use Rattle.grant_registry.proofs.Pushed.{changed_made, changed_kept, unchanged, unchanged_kept}
use Rattle.grant_registry.proofs.registry.Registry.push_grant.Goals as goal

pub invariant_of-self : goal.invariant_of-self
invariant_of-self c =
    unchanged_kept c.self.inside.hosts c.self.inside.workers c.self.inside.keys.entries c.self.inside.functions.entries c.self.inside.requests.entries c.args.self.now c.self.view_is
    c.args.f c.index_mut.result.now (record c.index_mut.result.now { grants = c.push_onto.new.grants }) c.index_mut.ensures.value
    (λ k. ap (λ gs. record (function_of (k, c.index_mut.result.now)) { grants = gs }) c.in_err-push_onto.ensures) c.self.invariant.limits

pub returns-in_err-push_onto-clause-err : goal.returns-in_err-push_onto-clause-err
returns-in_err-push_onto-clause-err c =
    on_err c.from_residual.result
    (unchanged c.self.inside.hosts c.self.inside.workers c.self.inside.keys.entries c.self.inside.functions.entries c.self.inside.requests.entries c.args.self.now c.self.view_is
    c.args.f c.index_mut.result.now (record c.index_mut.result.now { grants = c.push_onto.new.grants }) c.index_mut.ensures.value
    (λ k. ap (λ gs. record (function_of (k, c.index_mut.result.now)) { grants = gs }) c.in_err-push_onto.ensures))

pub invariant_of-self-2 : goal.invariant_of-self-2
invariant_of-self-2 c =
    changed_kept c.self.inside.hosts c.self.inside.workers c.self.inside.keys.entries c.self.inside.functions.entries c.self.inside.requests.entries c.args.self.now c.self.view_is
    c.args.f c.index_mut.result.now (record c.index_mut.result.now { grants = c.push_onto.new.grants }) c.index_mut.ensures.value
    (λ g. record g { grants = g.grants ++ c.args.grant ∷ [] })
    (λ k. ap (λ gs. record (function_of (k, c.index_mut.result.now)) { grants = gs }) c.in_ok-push_onto.ensures) c.self.invariant.limits c.requires.keeps

pub returns-clause-ok : goal.returns-clause-ok
returns-clause-ok c =
    changed_made c.self.inside.hosts c.self.inside.workers c.self.inside.keys.entries c.self.inside.functions.entries c.self.inside.requests.entries c.args.self.now c.self.view_is
    c.args.f c.index_mut.result.now (record c.index_mut.result.now { grants = c.push_onto.new.grants }) c.index_mut.ensures.value
    (λ g. record g { grants = g.grants ++ c.args.grant ∷ [] })
    (λ k. ap (λ gs. record (function_of (k, c.index_mut.result.now)) { grants = gs }) c.in_ok-push_onto.ensures)

pub returns-clause-functions : goal.returns-clause-functions
returns-clause-functions c =
    ap (λ e. length e.functions)
    (changed_made c.self.inside.hosts c.self.inside.workers c.self.inside.keys.entries c.self.inside.functions.entries c.self.inside.requests.entries c.args.self.now c.self.view_is
    c.args.f c.index_mut.result.now (record c.index_mut.result.now { grants = c.push_onto.new.grants }) c.index_mut.ensures.value
    (λ g. record g { grants = g.grants ++ c.args.grant ∷ [] })
    (λ k. ap (λ gs. record (function_of (k, c.index_mut.result.now)) { grants = gs }) c.in_ok-push_onto.ensures))
    ∙ length-changed {A = DraftFunction} (λ g. record g { grants = g.grants ++ c.args.grant ∷ [] }) c.args.self.now.functions c.args.f

pub returns-in_err-push_onto-clause-functions : goal.returns-in_err-push_onto-clause-functions
returns-in_err-push_onto-clause-functions c =
    ap (λ e. length e.functions)
    (unchanged c.self.inside.hosts c.self.inside.workers c.self.inside.keys.entries c.self.inside.functions.entries c.self.inside.requests.entries c.args.self.now c.self.view_is
    c.args.f c.index_mut.result.now (record c.index_mut.result.now { grants = c.push_onto.new.grants }) c.index_mut.ensures.value
    (λ k. ap (λ gs. record (function_of (k, c.index_mut.result.now)) { grants = gs }) c.in_err-push_onto.ensures))
