use Rattle.std.proofs.Common.{◌≡◌, Ok, rules, subst}
use Rattle.session_meaning.specs.WellFormed.{KeepsLimits}
use Rattle.session_meaning.specs.Registry as registry
use Rattle.session_meaning.proofs.KeptLimits.{passes_budget}
use Rattle.grant_registry.proofs.registry.Registry.check_budget.Goals as goal

pub returns-clause-well_formed : goal.returns-clause-well_formed
returns-clause-well_formed c =
    let ok : registry.check_budget c.args.self.now ≡ Ok c.args.self.now = search rules in
    (passes_budget c.args.self.now c.args.self.now (subst KeepsLimits c.self.view_is c.self.invariant.limits) ok).1
