-- Who has the turn may pass it on.
use Rattle.std.proofs.Common.{rules}
use Rattle.turn_cell.proofs.TurnSteps.{passes_as}
use Rattle.turn_cell.proofs.cell.Turns.pass_on.Goals as goal

pub fetch_add-served-requires : goal.fetch_add-served-requires
fetch_add-served-requires g c = let seat = c.args.seat in
    (search rules, search rules, passes_as g.S.Kept.makes _ seat.me.0.key _ _ c.args.number c.args.value seat.me.0.seen seat.me.0.role _ c.requires.cell.1 (search rules) c.requires.due)
