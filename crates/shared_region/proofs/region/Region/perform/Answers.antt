-- An Append leaves and is answered the same for each maker.
use Rattle.shared_region.proofs.region.Region.perform.Goals as goal

pub returns-in-Append-clause-after : goal.returns-in-Append-clause-after
returns-in-Append-clause-after c = rw c.in-Append.is (c.append.ensures.after c.args.maker)

pub returns-in-Append-clause-reply : goal.returns-in-Append-clause-reply
returns-in-Append-clause-reply c = rw c.in-Append.is (c.append.ensures.reply c.args.maker c.args.scratch.now)
