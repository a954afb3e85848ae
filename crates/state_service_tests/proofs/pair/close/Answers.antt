-- The tier takes the passes of both makers back, and its one end is that of the key.
use Rattle.std.proofs.Common.{◌++◌, ◌∷◌, [], ap, ◌∙◌}
use Rattle.region_tier.specs.Tiers.{cells_of}
use Rattle.region_tier_tests.proofs.SeenBoth.{rows_two}
use Rattle.state_service_tests.proofs.OneKey.{row_of, last_one, closes_one}
use Rattle.state_service_tests.proofs.pair.close.Goals as goal

pub close-ends-requires-clause-passes : goal.close-ends-requires-clause-passes
close-ends-requires-clause-passes c =
    let first = c.args.first in
    let second = c.args.second in
    let one = c.requires.tier.0.1.one in
    let is = c.push_reserved-2.ensures.items ∙ ap (λ l. l ++ second ∷ []) (c.push_reserved.ensures.items ∙ ap (λ l. l ++ first ∷ []) c.requires.home.0) in
    rows_two (cells_of c.args.tier) c.push_reserved-2.new.self.items first second _ c.requires.tier.1 is (row_of _ _ 0 _ one c.requires.first.1) (row_of _ _ 1 _ one c.requires.second.1)

pub returns : goal.returns
returns c =
    let first = c.args.first in
    let second = c.args.second in
    let k = c.requires.tier.0.1 in
    let is = c.push_reserved-2.ensures.items ∙ ap (λ l. l ++ second ∷ []) (c.push_reserved.ensures.items ∙ ap (λ l. l ++ first ∷ []) c.requires.home.0) in
    let closed = c.close-ends.ensures in
    closes_one (cells_of c.args.tier) _ _ first second _ c.in-Some.end k is closed (last_one _ c.pop.new.self.items c.in-Some.end (closed.0 ∙ k.one) c.in-Some.ensures.items)
