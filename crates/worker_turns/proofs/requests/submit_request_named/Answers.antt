-- The table knows the function and the host, and the entry is one of the session.
use Rattle.std.proofs.Common.{◌<◌, ◌∷◌, ◌++◌, [], length, sym, ◌∙◌, subst}
use Rattle.turn_cell.specs.Cell.{turn_list}
use Rattle.turn_cell.specs.History.{entry}
use Rattle.call_service.proofs.Turning.{makes_so}
use Rattle.worker_turns.proofs.Coming.{some_to_come}
use Rattle.worker_turns.proofs.Turning.{at_turn, functions_so, hosts_so, entered_so}
use Rattle.worker_turns.proofs.requests.submit_request_named.Goals as goal

pub submit_request-requires-clause-function : goal.submit_request-requires-clause-function
submit_request-requires-clause-function g c =
    let t = c.take-held.ensures in
    let turn = at_turn _ _ _ _ _ _ t.stands t.list c.value_mut.ensures.value in
    subst (λ fs. c.args.function < length fs) (sym (functions_so _ _ _ turn.leads)) c.requires.function

pub submit_request-requires-clause-host : goal.submit_request-requires-clause-host
submit_request-requires-clause-host g c =
    let t = c.take-held.ensures in
    let turn = at_turn _ _ _ _ _ _ t.stands t.list c.value_mut.ensures.value in
    subst (λ n. c.args.host < n) (sym (hosts_so _ _ _ turn.leads)) c.requires.host

pub give-requires-clause-makes : goal.give-requires-clause-makes
give-requires-clause-makes g c =
    let t = c.take-held.ensures in
    let turn = at_turn _ _ _ _ _ _ t.stands t.list c.value_mut.ensures.value in
    let may = some_to_come _ _ _ _ _ c.requires.deep c.requires.session turn c.requires.to_come in
    makes_so _ _ _ _ _ _ _ _ c.in-Ok.ensures.ok may t.cell.1 c.requires.entry (t.taken ∙ sym c.value_mut.ensures.value)

pub returns-in-Ok-clause-ok : goal.returns-in-Ok-clause-ok
returns-in-Ok-clause-ok g c =
    let t = c.take-held.ensures in
    let turn = at_turn _ _ _ _ _ _ t.stands t.list c.value_mut.ensures.value in
    let may = some_to_come _ _ _ _ _ c.requires.deep c.requires.session turn c.requires.to_come in
    entered_so _ _ _ _ _ _ _ _ _ turn c.in-Ok.ensures.ok may tt (c.give.ensures.list ∙ (λ i. turn_list c.take-held.result ++ entry (t.cell.1 i) (c.requires.entry i) ∷ []))
