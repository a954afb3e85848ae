-- Both tiers have one key, and the passes of both makers have seen nothing.
use Rattle.std.proofs.Common.{sym, subst}
use Rattle.region_tier.specs.Tiers.{AreRows, cells_of}
use Rattle.region_tier.proofs.Dealing.{fresh_are_rows}
use Rattle.region_tier_tests.proofs.SeenBoth.{fresh_two}
use Rattle.state_service_tests.proofs.OneKey.{one_replica, one_global, fits_two, sees_nothing}
use Rattle.state_service_tests.proofs.pair.open.Goals as goal

pub global-requires-clause-fit : goal.global-requires-clause-fit
global-requires-clause-fit c = fits_two c.in-Ok.init c.in-Ok.ensures

pub close-requires-clause-passes : goal.close-requires-clause-passes
close-requires-clause-passes c =
    let cells = cells_of c.in-Ok-global.globals in
    let rows = c.in-Ok-global.global_rows.items in
    subst (λ n. AreRows cells n rows) (sym c.in-Ok-global.ensures.makers) (fresh_are_rows cells 2 rows c.in-Ok-global.ensures.passes)

pub returns-clause-locals : goal.returns-clause-locals
returns-clause-locals c = let o = c.in-Ok-local.ensures in (one_replica _ 2 o.cells.0 o.cells.1, o.makers)

pub returns-clause-globals : goal.returns-clause-globals
returns-clause-globals c = let o = c.in-Ok-global.ensures in (one_global _ c.in-Ok.init c.in-Ok.ensures o.cells.0 o.cells.1, o.makers)

pub returns-clause-first : goal.returns-clause-first
returns-clause-first c =
    let l = c.in-Ok-local.ensures in
    let g = c.in-Ok-global.ensures in
    let here = one_replica _ 2 l.cells.0 l.cells.1 in
    let there = one_global _ c.in-Ok.init c.in-Ok.ensures g.cells.0 g.cells.1 in (
      sees_nothing _ _ _ 0 here (fresh_two _ _ _ _ c.two_makers-local_home.ensures.makers l.passes).0,
      sees_nothing _ _ _ 0 there (fresh_two _ _ _ _ c.two_makers-global_home.ensures.makers g.passes).0,
    )

pub returns-clause-second : goal.returns-clause-second
returns-clause-second c =
    let l = c.in-Ok-local.ensures in
    let g = c.in-Ok-global.ensures in
    let here = one_replica _ 2 l.cells.0 l.cells.1 in
    let there = one_global _ c.in-Ok.init c.in-Ok.ensures g.cells.0 g.cells.1 in (
      sees_nothing _ _ _ 1 here (fresh_two _ _ _ _ c.two_makers-local_home.ensures.makers l.passes).1,
      sees_nothing _ _ _ 1 there (fresh_two _ _ _ _ c.two_makers-global_home.ensures.makers g.passes).1,
    )
