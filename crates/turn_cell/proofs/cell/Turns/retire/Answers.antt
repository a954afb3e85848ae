-- The keeper may take a pass back.
use Rattle.std.proofs.Common.{rules, ap, Some}
use Rattle.turn_cell.proofs.CloseSteps.{retires_as}
use Rattle.turn_cell.proofs.cell.Turns.retire.Goals as goal

pub join_seat-requires : goal.join_seat-requires
join_seat-requires g c = let k = c.args.keeper.now in let p = c.args.pass in
    (search rules, search rules, search rules, search rules, retires_as g.S.Kept.makes _ (Some c.args.self.now.table.shared.key) _ k.me.0.seen k.me.0.retired _ p.number p.seat.me.0.key p.seat.me.0.seen _ _ (search rules) (ap (λ m. m.0) c.requires.keeper.1) (ap (λ m. m.0) p.ready))
