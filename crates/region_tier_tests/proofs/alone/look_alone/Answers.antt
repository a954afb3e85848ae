-- The one maker's pass is ready, out in its turn, and comes back.
use Rattle.std.proofs.Common.{set, Some, None, sym, ap, ◌∙◌, subst, arith}
use lib.ListN.{get_elem?}
use Rattle.turn_cell.proofs.Frames.{there}
use Rattle.turn_cell.proofs.Places.{get_there}
use Rattle.turn_cell.specs.Cell.{IsPassOf}
use Rattle.turn_cell.specs.declared.cell.Turns.{Turns}
use Rattle.shared_region.specs.Shared.{Shared}
use Rattle.region_tier.specs.Tiers.{AreRows, cells_of, slots_of}
use Rattle.region_tier.proofs.At.{read_at, same_at, set_twice}
use Rattle.region_tier.proofs.Dealing.{at_put, fresh_are_rows}
use Rattle.region_tier_tests.proofs.OneMaker.{ready, row_put, only_row}
use Rattle.region_tier_tests.proofs.alone.look_alone.Goals as goal

pub take-held-requires : goal.take-held-requires
take-held-requires g c =
    let cells = cells_of c.in-Ok.tier in
    let t = get_there cells 0 (let n = c.in-Ok.ensures.cells.0 in omega (arith, n)) in
    let o = c.in-Ok.ensures.cells.1 0 t.0 t.1 in
    let r = c.index_mut-own.result.now in
    ready cells 1 c.in-Ok.passes.items 0 r 0 t.0 _ c.in-Ok.ensures.passes (read_at c.in-Ok.passes.items 0 r (let n = c.in-Ok.ensures.passes.0 in omega (arith, n)) c.index_mut-own.ensures.value) (omega arith) t.1 o.3 (λ p. tt)

pub give_back-requires-clause-out : goal.give_back-requires-clause-out
give_back-requires-clause-out g c =
    let t = c.take-held.ensures in
    let old = slots_of c.index_mut-own.result.now in
    record { cell = t.cell; at_cell = t.at_cell; out = ap (λ l. get_elem? l 0) t.out ∙ at_put old 0 None (there old 0 (Some t.pass) t.at_pass); sits = t.sits }

pub close-ends-requires-clause-passes : goal.close-ends-requires-clause-passes
close-ends-requires-clause-passes g c =
    let cells = cells_of c.in-Ok.tier in
    let rows = c.in-Ok.passes.items in
    let f = c.in-Ok.ensures.passes in
    let r = c.index_mut-own.result.now in
    let new = c.give_back.new.passes in
    let t = c.take-held.ensures in
    let b = c.give_back.ensures in
    let at = read_at rows 0 r (let n = f.0 in omega (arith, n)) c.index_mut-own.ensures.value in
    let same = same_at cells 0 b.cell t.cell b.at_cell t.at_cell in
    let put = b.put ∙ (ap (λ l. set l 0 (Some b.pass)) t.out ∙ set_twice (slots_of r) 0 None (Some b.pass)) in
    let sits = subst (λ (u : Turns Shared). IsPassOf b.pass u) same b.sits in
    let row = row_put cells (slots_of r) (slots_of new) 0 0 t.cell t.pass b.pass ((fresh_are_rows cells 1 rows f).1 0 r at) t.at_cell t.at_pass put sits (b.number ∙ t.number) in
    subst (λ n. AreRows cells n (set rows 0 new)) (sym c.in-Ok.ensures.makers) (only_row cells rows new f.0 row)
