use Rattle.std.proofs.Common.{◌+◌, arith}
use Rattle.region_map.proofs.Spread.{lengthened, last_small, each_longer}
use Rattle.region_map.proofs.segments.lengthen.Goals as goal

pub overflow_add-behind : goal.overflow_add-behind
overflow_add-behind c =
    let small = rw (← c.in-Some.ensures.items) at (last_small c.args.first c.pop.new.self.items c.in-Some.last) in
    omega (arith, c.unwrap_or.ensures)

pub returns-in-Ok-clause-segments : goal.returns-in-Ok-clause-segments
returns-in-Ok-clause-segments c =
    rw (c.in-Ok.ensures.items, c.in-Some.ensures.items, c.unwrap_or.ensures) (lengthened c.args.first c.pop.new.self.items c.in-Some.last c.args.n)

pub returns-in-Ok-clause-each : goal.returns-in-Ok-clause-each
returns-in-Ok-clause-each c =
    rw c.in-Ok.ensures.items (each_longer c.pop.new.self.items c.in-Some.last (c.unwrap_or.result + c.args.n) (rw c.in-Some.ensures.items at c.requires.each))
