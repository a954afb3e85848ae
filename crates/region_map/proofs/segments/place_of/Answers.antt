use Rattle.std.proofs.Common.{arith}
use Rattle.region_map.proofs.Spots.{place_first}
use Rattle.region_map.proofs.segments.place_of.Goals as goal

pub returns-then-saturating_add-end-clause-place : goal.returns-then-saturating_add-end-clause-place
returns-then-saturating_add-end-clause-place c =
    place_first c.args.first c.args.mappings.now c.args.addr c.args.len c.requires.some (omega arith)
