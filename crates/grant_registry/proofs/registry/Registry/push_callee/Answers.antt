use Rattle.std.proofs.Common.{◌∙◌, length, ◌∷◌, ◌++◌, [], ap}
use Rattle.grant_registry.specs.Entries.{function_of}
use Rattle.grant_registry.proofs.Placed.{on_err}
use Rattle.session_meaning.specs.Draft.{DraftFunction}
use Rattle.session_meaning.proofs.Entries.{length-changed}
use Rattle.grant_registry.proofs.Pushed.{changed_made, changed_kept, unchanged, unchanged_kept}
use Rattle.grant_registry.proofs.registry.Registry.push_callee.Goals as goal

pub invariant_of-self : goal.invariant_of-self
invariant_of-self c =
    unchanged_kept c.self.inside.hosts c.self.inside.workers c.self.inside.keys.entries c.self.inside.functions.entries c.self.inside.requests.entries c.args.self.now c.self.view_is
    c.args.f c.index_mut.result.now (record c.index_mut.result.now { callees = c.push.new.self }) c.index_mut.ensures.value
    (λ k. ap (λ gs. record (function_of (k, c.index_mut.result.now)) { callees = gs }) c.in_err-push.ensures.items) c.self.invariant.limits

pub returns-in_err-push-clause-err : goal.returns-in_err-push-clause-err
returns-in_err-push-clause-err c =
    on_err c.from_residual.result
    (unchanged c.self.inside.hosts c.self.inside.workers c.self.inside.keys.entries c.self.inside.functions.entries c.self.inside.requests.entries c.args.self.now c.self.view_is
    c.args.f c.index_mut.result.now (record c.index_mut.result.now { callees = c.push.new.self }) c.index_mut.ensures.value
    (λ k. ap (λ gs. record (function_of (k, c.index_mut.result.now)) { callees = gs }) c.in_err-push.ensures.items))

pub invariant_of-self-2 : goal.invariant_of-self-2
invariant_of-self-2 c =
    changed_kept c.self.inside.hosts c.self.inside.workers c.self.inside.keys.entries c.self.inside.functions.entries c.self.inside.requests.entries c.args.self.now c.self.view_is
    c.args.f c.index_mut.result.now (record c.index_mut.result.now { callees = c.push.new.self }) c.index_mut.ensures.value
    (λ g. record g { callees = g.callees ++ c.args.callee ∷ [] })
    (λ k. ap (λ gs. record (function_of (k, c.index_mut.result.now)) { callees = gs }) c.in_ok-push.ensures.items) c.self.invariant.limits c.requires.keeps

pub returns-clause-ok : goal.returns-clause-ok
returns-clause-ok c =
    changed_made c.self.inside.hosts c.self.inside.workers c.self.inside.keys.entries c.self.inside.functions.entries c.self.inside.requests.entries c.args.self.now c.self.view_is
    c.args.f c.index_mut.result.now (record c.index_mut.result.now { callees = c.push.new.self }) c.index_mut.ensures.value
    (λ g. record g { callees = g.callees ++ c.args.callee ∷ [] })
    (λ k. ap (λ gs. record (function_of (k, c.index_mut.result.now)) { callees = gs }) c.in_ok-push.ensures.items)

pub returns-clause-functions : goal.returns-clause-functions
returns-clause-functions c =
    ap (λ e. length e.functions)
    (changed_made c.self.inside.hosts c.self.inside.workers c.self.inside.keys.entries c.self.inside.functions.entries c.self.inside.requests.entries c.args.self.now c.self.view_is
    c.args.f c.index_mut.result.now (record c.index_mut.result.now { callees = c.push.new.self }) c.index_mut.ensures.value
    (λ g. record g { callees = g.callees ++ c.args.callee ∷ [] })
    (λ k. ap (λ gs. record (function_of (k, c.index_mut.result.now)) { callees = gs }) c.in_ok-push.ensures.items))
    ∙ length-changed {A = DraftFunction} (λ g. record g { callees = g.callees ++ c.args.callee ∷ [] }) c.args.self.now.functions c.args.f

pub returns-in_err-push-clause-functions : goal.returns-in_err-push-clause-functions
returns-in_err-push-clause-functions c =
    ap (λ e. length e.functions)
    (unchanged c.self.inside.hosts c.self.inside.workers c.self.inside.keys.entries c.self.inside.functions.entries c.self.inside.requests.entries c.args.self.now c.self.view_is
    c.args.f c.index_mut.result.now (record c.index_mut.result.now { callees = c.push.new.self }) c.index_mut.ensures.value
    (λ k. ap (λ gs. record (function_of (k, c.index_mut.result.now)) { callees = gs }) c.in_err-push.ensures.items))
