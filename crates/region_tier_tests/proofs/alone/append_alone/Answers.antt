-- The one maker's pass is ready, comes back, and its entry is the whole list.
use Rattle.std.proofs.Common.{set, sym, subst, arith}
use Rattle.turn_cell.proofs.Places.{get_there}
use Rattle.region_tier.specs.Tiers.{AreRows, cells_of, slots_of}
use Rattle.region_tier.proofs.At.{read_at}
use Rattle.region_tier.proofs.Dealing.{fresh_are_rows}
use Rattle.region_tier_tests.proofs.OneMaker.{ready, row_put, only_row}
use Rattle.region_tier_tests.proofs.alone.append_alone.Goals as goal

pub access-reply-requires : goal.access-reply-requires
access-reply-requires g c =
    let cells = cells_of c.in-Ok.tier in
    let t = get_there cells 0 (let n = c.in-Ok.ensures.cells.0 in omega (arith, n)) in
    let o = c.in-Ok.ensures.cells.1 0 t.0 t.1 in
    let r = c.index_mut-own.result.now in
    ready cells 1 c.in-Ok.passes.items 0 r 0 t.0 _ c.in-Ok.ensures.passes (read_at c.in-Ok.passes.items 0 r (let n = c.in-Ok.ensures.passes.0 in omega (arith, n)) c.index_mut-own.ensures.value) (omega arith) t.1 o.3 (λ p. (tt, tt))

pub close-ends-requires-clause-passes : goal.close-ends-requires-clause-passes
close-ends-requires-clause-passes g c =
    let cells = cells_of c.in-Ok.tier in
    let rows = c.in-Ok.passes.items in
    let f = c.in-Ok.ensures.passes in
    let r = c.index_mut-own.result.now in
    let new = c.access-reply.new.passes in
    let e = c.access-reply.ensures in
    let at = read_at rows 0 r (let n = f.0 in omega (arith, n)) c.index_mut-own.ensures.value in
    let row = row_put cells (slots_of r) (slots_of new) 0 0 e.cell e.before e.after ((fresh_are_rows cells 1 rows f).1 0 r at) e.at_cell e.at_before e.put e.sits e.number in
    subst (λ n. AreRows cells n (set rows 0 new)) (sym c.in-Ok.ensures.makers) (only_row cells rows new f.0 row)
