-- The child is there, and what is told of it is an entry.
use Rattle.std.proofs.Common.{◌∙◌, ◌++◌, ◌∷◌, [], sym, ap, subst}
use Rattle.faaslet_meaning.specs.Records.{child_of}
use Rattle.turn_cell.specs.Cell.{pass_list, pass_number, start_of, turn_list, maker_of, taken_of}
use Rattle.turn_cell.specs.History.{entry}
use Rattle.call_table.specs.Makers.{MakesTable}
use Rattle.call_table.specs.Session.{SessionTable}
use Rattle.call_service.specs.Served.{AtTurn}
use Rattle.call_service.proofs.Turning.{is_there, child_low, makes_so, look_made, looked_so}
use Rattle.call_service.proofs.asking.look_named.Goals as goal

pub unreachable-requires : goal.unreachable-requires
unreachable-requires g c =
    is_there _ _ _ _ _ _ _ c.take_running-held.ensures.turn c.requires.child (sym (ap (λ (s : SessionTable). child_of s.table.records c.args.call c.args.child) c.value.ensures) ∙ (sym c.child_of.ensures ∙ c.in_default.is))

pub look-requires-clause-call : goal.look-requires-clause-call
look-requires-clause-call g c =
    child_low _ c.args.call c.args.child _ (ap (λ (s : SessionTable). child_of s.table.records c.args.call c.args.child) (c.value-2.ensures ∙ sym c.value.ensures) ∙ (sym c.child_of.ensures ∙ c.in-Some.is))

pub give-requires-clause-makes : goal.give-requires-clause-makes
give-requires-clause-makes g c =
    let h = c.take_running-held.ensures in
    let turn = subst (λ (s : SessionTable). AtTurn (start_of c.args.table.now) (pass_number c.args.pass) c.args.call (pass_list c.args.pass) (turn_list c.take_running-held.result) s) (sym c.value-2.ensures) h.turn in
    let found = ap (λ (s : SessionTable). child_of s.table.records c.args.call c.args.child) (c.value-2.ensures ∙ sym c.value.ensures) ∙ (sym c.child_of.ensures ∙ c.in-Some.is) in
    let made = look_made _ _ _ _ _ _ _ _ turn.runs found c.in-Ok.ensures.finished in
    subst (λ (s : SessionTable). MakesTable (maker_of c.take_running-held.result) g.E.Named.entry (taken_of c.take_running-held.result) s) c.value-2.ensures
    (makes_so _ _ _ _ _ _ _ _ made turn.runs h.cell.1 c.requires.entry (h.taken ∙ sym c.value-2.ensures))

pub returns-in-Ok-clause-looks : goal.returns-in-Ok-clause-looks
returns-in-Ok-clause-looks g c =
    let h = c.take_running-held.ensures in
    let turn = subst (λ (s : SessionTable). AtTurn (start_of c.args.table.now) (pass_number c.args.pass) c.args.call (pass_list c.args.pass) (turn_list c.take_running-held.result) s) (sym c.value-2.ensures) h.turn in
    let found = ap (λ (s : SessionTable). child_of s.table.records c.args.call c.args.child) (c.value-2.ensures ∙ sym c.value.ensures) ∙ (sym c.child_of.ensures ∙ c.in-Some.is) in
    looked_so _ _ _ _ _ _ _ _ _ _ _ _ turn found c.in-Ok.ensures.finished (c.give.ensures.list ∙ (λ i. turn_list c.take_running-held.result ++ entry (h.cell.1 i) (c.requires.entry i) ∷ []))
