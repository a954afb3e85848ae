-- A Take is at its place, and behind the Takes come the others.
use Rattle.std.proofs.Common.{sym, ◌∙◌}
use Rattle.world_core.specs.Floor.{takes_on}
use Rattle.world_core.proofs.Counting.{ends_before, take_there}
use Rattle.world_core.proofs.floor.Floor.at.Goals as goal

pub behind_takes-requires-clause-behind : goal.behind_takes-requires-clause-behind
behind_takes-requires-clause-behind c = ends_before (takes_on c.args.self.now) c.args.i (sym c.take_at.ensures ∙ c.in-None.is)

pub returns-in-Some : goal.returns-in-Some
returns-in-Some c = take_there c.args.self.now c.args.i c.in-Some.take (sym c.take_at.ensures ∙ c.in-Some.is)
