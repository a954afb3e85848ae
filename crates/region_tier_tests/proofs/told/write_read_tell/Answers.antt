-- The tier is opened with one byte, and its rows come back.
use Rattle.std.proofs.Common.{◌≡◌, ◌++◌, ◌∷◌, [], ap, ◌∙◌}
use lib.ListN.{get_elem?}
use Rattle.region_tier.specs.Tiers.{cells_of}
use Rattle.region_tier_tests.proofs.SeenBoth.{one_byte, fresh_two, rows_two}
use Rattle.region_tier_tests.proofs.told.write_read_tell.Goals as goal

pub tell-read-requires-clause-cell : goal.tell-read-requires-clause-cell
tell-read-requires-clause-cell g c = one_byte (cells_of c.in-Ok.tier) c.of.result (c.of.ensures ∙ c.new.ensures.items) c.in-Ok.ensures.cells.0 c.in-Ok.ensures.cells.1

pub tell-read-requires-clause-first : goal.tell-read-requires-clause-first
tell-read-requires-clause-first g c = (fresh_two (cells_of c.in-Ok.tier) _ _ _ c.two_makers-passes.ensures.makers c.in-Ok.ensures.passes).0

pub tell-read-requires-clause-second : goal.tell-read-requires-clause-second
tell-read-requires-clause-second g c = (fresh_two (cells_of c.in-Ok.tier) _ _ _ c.two_makers-passes.ensures.makers c.in-Ok.ensures.passes).1

pub returns-clause-rows : goal.returns-clause-rows
returns-clause-rows g c =
    let first = c.tell-read.new.first in
    let second = c.tell-read.new.second in
    let is = c.push_reserved-2.ensures.items ∙ ap (λ l. l ++ second ∷ []) (c.push_reserved.ensures.items ∙ ap (λ l. l ++ first ∷ []) c.two_makers-passes.ensures.emptied.0) in
    rows_two (cells_of c.in-Ok.tier) c.push_reserved-2.new.self.items first second _ c.in-Ok.ensures.makers is c.tell-read.ensures.first c.tell-read.ensures.second

pub returns-clause-seen : goal.returns-clause-seen
returns-clause-seen g c seven =
    let first = c.tell-read.new.first in
    let second = c.tell-read.new.second in
    let is = c.push_reserved-2.ensures.items ∙ ap (λ l. l ++ second ∷ []) (c.push_reserved.ensures.items ∙ ap (λ l. l ++ first ∷ []) c.two_makers-passes.ensures.emptied.0) in
    (first, ap (λ l. get_elem? l 0) is, c.tell-read.ensures.seen seven)
