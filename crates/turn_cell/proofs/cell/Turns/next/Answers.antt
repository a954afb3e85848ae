-- A seat with no number is made, and takes the number.
use Rattle.std.proofs.Common.{rules, arith, [], ap, ◌∙◌}
use Rattle.turn_cell.specs.declared.view.Role.TheVariants.{Blank}
use Rattle.std.proofs.Common.{Option}
use Rattle.atomic_table.specs.Table.{Me}
use Rattle.turn_cell.specs.declared.view.View.{View}
use Rattle.turn_cell.specs.Views.{view_of, limit_of}
use Rattle.turn_cell.proofs.OpenSteps.{blanks_as, numbers_as}
use Rattle.turn_cell.proofs.cell.Turns.next.Goals as goal

pub split_seat-next-requires : goal.split_seat-next-requires
split_seat-next-requires g c = (search rules, search rules, blanks_as g.S.Kept.makes _ _ _ _ (ap (λ m. m.0) c.requires.seat.1))

pub compare_exchange-requires : goal.compare_exchange-requires
compare_exchange-requires g c = let key = c.args.self.now.table.shared.key in
    let is = c.split_seat-next.ensures.4 ∙ ap (λ m. let v : View g.row.S.Denot = m.0 in let r : Me (Option g.row.S.Denot) (View g.row.S.Denot) = (view_of v.key v.seen (Blank (limit_of v.role)), []) in r) c.requires.seat.1 in
    let n = c.from-from.ensures in
    (search rules, search rules, numbers_as g.S.Kept.makes key _ _ key.numbers c.from-from.result _ is (omega (arith, n, c.requires.low)))
