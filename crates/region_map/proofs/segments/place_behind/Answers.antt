use Rattle.std.proofs.Common.{sym, ap, ◌∙◌, Some}
use Rattle.region_map.specs.Segments.{all_segments}
use Rattle.region_map.proofs.Spots.{place, past_end, in_replica, too_long}
use Rattle.region_map.proofs.segments.place_behind.Goals as goal

pub returns-then-len-left-clause-place : goal.returns-then-len-left-clause-place
returns-then-len-left-clause-place c =
    place (all_segments c.args.first c.args.mappings.now) c.args.addr c.args.len c.in-Some-Private.at c.in-Some-Private.left (sym c.in-Some-Private.ensures ∙ ap Some c.in-Some-Private.field-0-is) c.requires.some c.if-len-left.true

pub returns-else-len-left-clause-other : goal.returns-else-len-left-clause-other
returns-else-len-left-clause-other c =
    too_long c.args.first c.args.mappings.now c.args.addr c.args.len c.in-Some-Private.at c.in-Some-Private.left c.requires.each (sym c.in-Some-Private.ensures ∙ ap Some c.in-Some-Private.field-0-is) c.if-len-left.false

pub returns-in-Some-Shared-clause-other : goal.returns-in-Some-Shared-clause-other
returns-in-Some-Shared-clause-other c =
    in_replica (all_segments c.args.first c.args.mappings.now) c.args.addr c.args.len c.in-Some-Shared.field-0-0 c.in-Some-Shared.field-0-1 c.in-Some-Shared.field-0-2 (sym c.in-Some-Shared.ensures ∙ ap Some c.in-Some-Shared.field-0-is) c.requires.some

pub returns-in-None-clause-other : goal.returns-in-None-clause-other
returns-in-None-clause-other c =
    past_end (all_segments c.args.first c.args.mappings.now) c.args.addr c.args.len (sym c.in-None.ensures) c.requires.some
