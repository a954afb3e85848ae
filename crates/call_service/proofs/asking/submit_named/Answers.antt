-- The Submit finds what it asks for, and what it does is an entry.
use Rattle.std.proofs.Common.{◌∙◌, sym, subst}
use Rattle.turn_cell.specs.Cell.{pass_list, pass_number, start_of, turn_list}
use Rattle.call_table.specs.Session.{SessionTable}
use Rattle.call_service.specs.Served.{AtTurn}
use Rattle.call_service.proofs.Turning.{is_known, makes_so}
use Rattle.call_service.proofs.asking.submit_named.Goals as goal

pub submit-requires-clause-function : goal.submit-requires-clause-function
submit-requires-clause-function g c =
    let turn = subst (λ (s : SessionTable). AtTurn (start_of c.args.table.now) (pass_number c.args.pass) c.args.call (pass_list c.args.pass) (turn_list c.take_running-held.result) s) (sym c.value_mut.ensures.value) c.take_running-held.ensures.turn in
    is_known _ _ _ _ _ _ _ turn c.requires.function

pub give-requires-clause-makes : goal.give-requires-clause-makes
give-requires-clause-makes g c =
    let h = c.take_running-held.ensures in
    let turn = subst (λ (s : SessionTable). AtTurn (start_of c.args.table.now) (pass_number c.args.pass) c.args.call (pass_list c.args.pass) (turn_list c.take_running-held.result) s) (sym c.value_mut.ensures.value) h.turn in
    makes_so _ _ _ _ _ _ _ _ c.in-Ok.ensures.ok turn.runs h.cell.1 c.requires.entry (h.taken ∙ sym c.value_mut.ensures.value)

pub give-requires-in-Err-ChainFull-clause-makes : goal.give-requires-in-Err-ChainFull-clause-makes
give-requires-in-Err-ChainFull-clause-makes g c =
    let h = c.take_running-held.ensures in
    let turn = subst (λ (s : SessionTable). AtTurn (start_of c.args.table.now) (pass_number c.args.pass) c.args.call (pass_list c.args.pass) (turn_list c.take_running-held.result) s) (sym c.value_mut.ensures.value) h.turn in
    makes_so _ _ _ _ _ _ _ _ (rw c.in-Err-ChainFull.field-0-is at c.in-Err-ChainFull.ensures.refused).did turn.runs h.cell.1 c.requires.entry (h.taken ∙ sym c.value_mut.ensures.value)
