use Rattle.std.proofs.Common.{length, ap, ◌∙◌}
use Rattle.session_meaning.specs.Schedule.{offered}
use Rattle.world_core.specs.Whole.{world_after}
use Rattle.world_core.proofs.Readers.{offered_here}
use Rattle.world_core.proofs.world.World.enabled.Goals as goal

pub returns : goal.returns
returns c = c.count.ensures ∙ ap length (offered_here c.self.inside.running c.self.invariant) ∙ ap (λ s. length (offered s.plan (world_after s))) c.self.view_is
