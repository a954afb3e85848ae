-- The entry may be counted, and then the value stands for the list with it.
use Rattle.std.proofs.Common.{rules, ◌≡◌, [], ◌∷◌, ◌++◌, refl, ap, subst, Option}
use Rattle.turn_cell.specs.declared.view.Role.TheVariants.{Counted}
use Rattle.turn_cell.specs.declared.view.Opening.{Opening}
use Rattle.turn_cell.specs.History.{entry}
use Rattle.turn_cell.specs.Steps.{TakenStands, StandsFrom}
use Rattle.turn_cell.proofs.TurnSteps.{counts_as, stands_more}
use Rattle.turn_cell.proofs.cell.Turns.give.Goals as goal

pub fetch_add-requires : goal.fetch_add-requires
fetch_add-requires g c = (search rules, search rules, counts_as g.S.Kept.makes _ _ _ _ _ _ _ _ _ _ c.requires.cell.1 c.args.held.turn.ready)

pub pass_on-requires-clause-due : goal.pass_on-requires-clause-due
pass_on-requires-clause-due g c = let turn = c.args.held.turn in let seen = turn.seat.me.0.seen in
    let stood = subst (TakenStands (StandsFrom g.S.Kept.makes turn.seat.me.0.key) seen) (ap (λ m. m.0.role) turn.ready) c.fetch_add.ensures.2.1 in
    let here = subst (λ (k : Option (Opening g.row.S.Denot)). StandsFrom g.S.Kept.makes k seen turn.taken.value) c.requires.cell.1 stood in
    let all = stands_more g.S.Kept.makes turn.number g.E.Named.entry seen _ _ _ here c.requires.makes in
    let role : c.fetch_add.new.seat.me.0.role ≡ Counted turn.number = search rules in
    let now : c.fetch_add.new.seat.me.0.seen ≡ seen ++ entry turn.number g.E.Named.entry ∷ [] = search rules in
    rw (role, now) (refl, all)
