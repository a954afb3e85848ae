use Rattle.std.proofs.Common.{◌∙◌}
use Rattle.grant_registry.proofs.Pushed.{lent_fits, module_there, module_fits}
use Rattle.grant_registry.proofs.registry.Registry.module.Goals as goal

pub returns-clause-value : goal.returns-clause-value
returns-clause-value c = c.as_ref.ensures.value ∙ module_there c.self.inside.hosts c.self.inside.workers c.self.inside.keys.entries c.self.inside.functions.entries c.self.inside.requests.entries c.args.self.now c.self.view_is c.args.f c.index.result.now c.index.result.now c.index.ensures

pub returns-clause-fits : goal.returns-clause-fits
returns-clause-fits c =
    lent_fits c.as_ref.result c.index.result.now.«module» c.as_ref.ensures.value
    (module_fits c.self.inside.hosts c.self.inside.workers c.self.inside.keys.entries c.self.inside.functions.entries c.self.inside.requests.entries c.args.self.now c.self.view_is c.args.f c.index.result.now c.index.result.now c.index.ensures c.self.invariant.limits)
