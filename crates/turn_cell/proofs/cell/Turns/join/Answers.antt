-- A note may be taken in, and then the whole list be seen.
use Rattle.std.proofs.Common.{rules, ap}
use Rattle.turn_cell.proofs.NoteSteps.{reads_as, hears_as}
use Rattle.turn_cell.proofs.cell.Turns.join.Goals as goal

pub join_seat-requires : goal.join_seat-requires
join_seat-requires g c = let p = c.args.pass.now in let n = c.args.note in
    (search rules, search rules, search rules, search rules, reads_as g.S.Kept.makes _ _ _ p.number p.seat.me.0.seen _ n.seat.me.0.key n.seat.me.0.seen _ _ c.requires.cell.1 (ap (λ m. m.0) p.ready) (ap (λ m. m.0) n.ready))

pub load-requires : goal.load-requires
load-requires g c = let p = c.args.pass.now in let n = c.args.note in
    (search rules, search rules, hears_as g.S.Kept.makes _ p.seat.me.0.key _ _ p.number p.seat.me.0.seen n.seat.me.0.seen _ c.requires.cell.1 (search rules))
