use Rattle.std.proofs.Common.{sym, ◌∙◌}
use Rattle.faaslet_run.proofs.Standing.{read_at}
use Rattle.faaslet_run.proofs.faaslet.Faaslet.output.Goals as goal

pub returns : goal.returns
returns c = λ j start t p s a e. c.as_slice.ensures ∙ sym (read_at c.args.self.now j start t p s a e).output
