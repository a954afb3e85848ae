use Rattle.std.proofs.Common.{subst, ◌∙◌, ap}
use Rattle.session_meaning.specs.Draft.{draft_of}
use Rattle.session_meaning.specs.WellFormed.{WellFormed}
use Rattle.protos.proofs.Plans.{draft_again, well_formed}
use Rattle.protos.proofs.protos.Protos.registry.Goals as goal

pub returns-clause-plan : goal.returns-clause-plan
returns-clause-plan c = draft_again c.self.inside.registry.now c.self.invariant.modules ∙ ap draft_of c.self.view_is

pub returns-clause-formed : goal.returns-clause-formed
returns-clause-formed c = subst WellFormed c.self.view_is (well_formed c.self.inside.registry.now c.self.invariant.formed c.self.invariant.modules)
