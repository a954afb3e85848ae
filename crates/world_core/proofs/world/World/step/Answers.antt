-- The theorem on two worlds, for this event.
use Rattle.std.proofs.Common.{subst}
use Rattle.session_meaning.specs.Cut.{CutStep}
use Rattle.session_meaning.specs.Plan.{Closed, Names}
use Rattle.world_core.specs.Whole.{world_after}
use Rattle.world_core.proofs.TwoWorlds.{event_cut}
use Rattle.world_core.proofs.world.World.step.Goals as goal

pub returns-in_err-step-clause-two_worlds : goal.returns-in_err-step-clause-two_worlds
returns-in_err-step-clause-two_worlds c =
    subst (λ s. (functions keys : Names) → Closed s.plan functions keys → CutStep s.plan functions keys (world_after s) c.args.event) c.self.view_is
    (event_cut c.self.inside.running c.self.invariant c.args.event)

pub returns-clause-two_worlds : goal.returns-clause-two_worlds
returns-clause-two_worlds c =
    subst (λ s. (functions keys : Names) → Closed s.plan functions keys → CutStep s.plan functions keys (world_after s) c.args.event) c.self.view_is
    (event_cut c.self.inside.running c.self.invariant c.args.event)
