-- The rest decides: at its end the best of all pairs is the first of the fewest.
use Rattle.std.proofs.Common.{◌∙◌, ap, sym, arith}
use Rattle.std.proofs.lemmas.List.{drop_all}
use Rattle.host_scheduler.proofs.Leader.{leader, leader_is}
use Rattle.host_scheduler.proofs.loads.fewest.Goals as goal

pub returns : goal.returns
returns c =
    let done = drop_all c.loop-pair.pair-index c.args.warm.now (omega arith) in
    sym (ap (leader c.args.queued.now c.args.function c.loop-pair.best) done) ∙ c.loop-pair.invariant.0
    ∙ leader_is c.args.queued.now c.args.warm.now c.args.function c.requires
