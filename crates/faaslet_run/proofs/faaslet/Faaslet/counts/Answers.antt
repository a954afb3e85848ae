use Rattle.std.proofs.Common.{◌∙◌}
use Rattle.faaslet_run.proofs.faaslet.Faaslet.counts.Goals as goal

pub returns : goal.returns
returns c = λ j start t p a. c.as_slice.ensures ∙ a.counts
