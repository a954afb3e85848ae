-- A tier that finds no memory ends with the passes that it had.
use Rattle.std.proofs.Common.{ap}
use Rattle.region_tier.specs.Tiers.{cells_of, numbers_in}
use Rattle.region_tier.proofs.Dealing.{fresh_are_rows, rows_as}
use Rattle.region_tier.proofs.making.grow.Goals as goal

pub close-requires-clause-passes : goal.close-requires-clause-passes
close-requires-clause-passes c = fresh_are_rows (cells_of c.args.tier) (numbers_in c.args.tier) c.args.passes.items c.requires.passes

pub close-requires-in-Err-clause-passes : goal.close-requires-in-Err-clause-passes
close-requires-in-Err-clause-passes c = let w = c.in-Err.ensures.want in
    rows_as (cells_of c.args.tier) (cells_of c.in-Err.same) (numbers_in c.args.tier) (numbers_in c.in-Err.same) c.args.passes.items c.add.new.passes.items (ap cells_of w.0) (ap numbers_in w.0) (ap (λ v. v.items) w.2)
    (fresh_are_rows (cells_of c.args.tier) (numbers_in c.args.tier) c.args.passes.items c.requires.passes)
