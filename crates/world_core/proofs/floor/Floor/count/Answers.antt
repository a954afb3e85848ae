-- Takes, Asks and Ends each are counted.
use Rattle.std.proofs.Common.{arith}
use Rattle.world_core.proofs.Counting.{count_so}
use Rattle.world_core.proofs.floor.Floor.count.Goals as goal

pub returns : goal.returns
returns c = grind (arith, count_so c.args.self.now)
