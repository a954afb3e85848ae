-- The limit is set, each pass gets its number, and the first turn ends.
use Rattle.std.proofs.Common.{rules, arith, sym, ◌∙◌}
use Rattle.std.proofs.lemmas.Grind.{common_steps}
use Rattle.turn_cell.proofs.OpenSteps.{limits_at, ends_begin_as}
use Rattle.turn_cell.proofs.Places.{each_push}
use Rattle.turn_cell.proofs.cell.Turns.number_all.Goals as goal

pub compare_exchange-requires : goal.compare_exchange-requires
compare_exchange-requires g c = (search rules, search rules, limits_at g.S.Kept.makes c.args.self.table.shared.key _ _ _ _ c.requires.seat.1 c.args.self.some (c.requires.room.2 ∙ sym c.from-limit.ensures))

pub loop-number-preserved : goal.loop-number-preserved
loop-number-preserved g c = let i = c.loop-number.invariant in let p = c.in-Some.ensures.pass in record {
  seat = (search rules, c.next.ensures.seat.1 ∙ i.seat.1);
  count = (grind (arith, common_steps), omega arith, grind (arith, common_steps));
  each = rw (c.push_reserved.ensures.items) (each_push _ _ _ i.each (p.0 ∙ sym i.count.0, p.1, p.2));
}

pub fetch_add-requires : goal.fetch_add-requires
fetch_add-requires g c = (search rules, search rules, ends_begin_as g.S.Kept.makes c.args.self.table.shared.key _ _ c.args.numbers _ c.loop-number.invariant.seat.1)
