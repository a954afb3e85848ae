use Rattle.std.proofs.Common.{◌+◌, ap, sym, ◌∙◌}
use Rattle.faaslet_run.proofs.Standing.{read_at}
use Rattle.faaslet_run.proofs.faaslet.Faaslet.used.Goals as goal

pub returns : goal.returns
returns c = λ j start t p s a e.
    let (code, grants, next, d, stands, at, same) = (read_at c.args.self.now j start t p s a e).fuel in
    ap (λ n. c.used.result + n) (sym same) ∙ c.used.ensures code grants start.config.fuel next d stands at
