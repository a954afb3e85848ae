-- At the turn the call runs on the bench, since others leave it there, and the entry is one of its worker.
use Rattle.std.proofs.Common.{◌∷◌, ◌++◌, [], sym, ◌∙◌}
use Rattle.turn_cell.specs.Cell.{turn_list}
use Rattle.turn_cell.specs.History.{entry}
use Rattle.call_service.proofs.Turning.{makes_so, runs_open}
use Rattle.worker_turns.proofs.Ends.{at_its_turn, worker_may, finishes_so}
use Rattle.worker_turns.proofs.Turning.{at_turn}
use Rattle.worker_turns.proofs.ending.finish_named.Goals as goal

pub finish-requires-clause-open : goal.finish-requires-clause-open
finish-requires-clause-open g c =
    let t = c.take-held.ensures in
    let turn = at_turn _ _ _ _ _ _ t.stands t.list c.value_mut.ensures.value in
    runs_open c.value_mut.result.now.table c.args.call c.requires.may.bench (at_its_turn _ _ _ _ _ _ _ _ c.requires.may turn).runs

pub finish-requires-clause-output : goal.finish-requires-clause-output
finish-requires-clause-output g c =
    let t = c.take-held.ensures in
    let turn = at_turn _ _ _ _ _ _ t.stands t.list c.value_mut.ensures.value in
    (at_its_turn _ _ _ _ _ _ _ _ c.requires.may turn).output_fits

pub finish-requires-clause-counts : goal.finish-requires-clause-counts
finish-requires-clause-counts g c =
    let t = c.take-held.ensures in
    let turn = at_turn _ _ _ _ _ _ t.stands t.list c.value_mut.ensures.value in
    (at_its_turn _ _ _ _ _ _ _ _ c.requires.may turn).counts_fit

pub give-requires-clause-makes : goal.give-requires-clause-makes
give-requires-clause-makes g c =
    let t = c.take-held.ensures in
    let turn = at_turn _ _ _ _ _ _ t.stands t.list c.value_mut.ensures.value in
    makes_so _ _ _ _ _ _ _ _ c.finish.ensures (worker_may _ _ _ _ _ _ _ _ c.requires.may turn) t.cell.1 c.requires.entry (t.taken ∙ sym c.value_mut.ensures.value)

pub returns-clause-finishes : goal.returns-clause-finishes
returns-clause-finishes g c = λ bench runs.
    let t = c.take-held.ensures in
    let turn = at_turn _ _ _ _ _ _ t.stands t.list c.value_mut.ensures.value in
    finishes_so _ _ _ _ _ _ _ _ _ _ _ _ c.requires.may turn bench runs c.code_fits.ensures c.finish.ensures
    (c.give.ensures.list ∙ (λ i. turn_list c.take-held.result ++ entry (t.cell.1 i) (c.requires.entry i) ∷ []))
