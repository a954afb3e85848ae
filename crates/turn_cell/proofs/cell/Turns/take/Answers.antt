-- A ticket may be drawn, looks may be taken, and the slot is out with the seat whose turn it is.
use Rattle.std.proofs.Common.{rules, ◌≡◌, ◌%◌, ◌^◌, ◌∷◌, sym, ap, ◌∙◌, Some}
use Rattle.atomic_table.specs.Table.{rest}
use Rattle.turn_cell.specs.Views.{ticket_of}
use Rattle.turn_cell.proofs.TurnSteps.{draws_as, looks_as}
use Rattle.turn_cell.proofs.cell.Turns.take.Goals as goal

pub fetch_add-ticket-requires : goal.fetch_add-ticket-requires
fetch_add-ticket-requires g c = (search rules, search rules, draws_as g.S.Kept.makes _ _ _ _ _ _ _ c.requires.cell.1 c.args.pass.ready)

pub load-serving-requires : goal.load-serving-requires
load-serving-requires g c = let i = c.loop.invariant in (search rules, search rules, looks_as g.S.Kept.makes _ _ _ _ _ _ _ _ c.requires.cell.1 i.1.1)

pub exchange-requires : goal.exchange-requires
exchange-requires g c = let i = c.loop.invariant in
    let hit : c.load-serving.result ≡ ticket_of c.loop.seat.me.0.role % 2 ^ 64 = c.if-serving-ticket.true ∙ sym i.1.2 ∙ ap (λ m. ticket_of m.0.role % 18446744073709551616) (sym i.1.1) in
    let t = c.load-serving.ensures.2.0 hit in (search rules, (Some t.value, t.carries ∙ ap (λ cs. (0, Some t.value) ∷ rest cs) (sym t.carries)))
