use Rattle.std.proofs.Common.{◌<◌, length, slice_get, ap, ◌∙◌, subst, sym}
use Rattle.session_meaning.specs.Schedule.{offered}
use Rattle.world_core.specs.Whole.{world_after}
use Rattle.world_core.proofs.Readers.{offered_here}
use Rattle.world_core.proofs.world.World.enabled_at.Goals as goal

pub at-requires : goal.at-requires
at-requires c =
    subst (λ es. c.args.i < length es) (sym (offered_here c.self.inside.running c.self.invariant ∙ ap (λ s. offered s.plan (world_after s)) c.self.view_is)) c.requires

pub returns : goal.returns
returns c =
    ap (λ es. slice_get es c.args.i) (sym (offered_here c.self.inside.running c.self.invariant ∙ ap (λ s. offered s.plan (world_after s)) c.self.view_is)) ∙ c.at.ensures
