-- The host is one of the table's, the call's record is held, and the entry is one of the worker.
use Rattle.std.proofs.Common.{◌<◌, ◌∷◌, ◌++◌, [], length, sym, ◌∙◌, subst}
use Rattle.turn_cell.specs.Cell.{turn_list}
use Rattle.turn_cell.specs.History.{entry}
use Rattle.call_table.specs.Session.{SessionTable}
use Rattle.call_service.proofs.Turning.{makes_so}
use Rattle.worker_turns.proofs.Jobs.{EachHeld, next_low, next_job}
use Rattle.worker_turns.proofs.Turning.{at_turn, hosts_so, host_low, keeps_so}
use Rattle.worker_turns.proofs.taking.take_next_named.Goals as goal

pub take_next-requires-clause-host : goal.take_next-requires-clause-host
take_next-requires-clause-host g c =
    let t = c.take-held.ensures in
    let turn = at_turn _ _ _ _ _ _ t.stands t.list c.value_mut.ensures.value in
    subst (λ n. c.args.host < n) (sym (hosts_so _ _ _ turn.leads)) (host_low _ _ _ _ c.requires.keeps)

pub is_held-requires : goal.is_held-requires
is_held-requires g c =
    let t = c.take-held.ensures in
    let turn = at_turn _ _ _ _ _ _ t.stands t.list c.value_mut.ensures.value in
    let h = c.in-Call.ensures in
    subst (λ (s : SessionTable). c.in-Call.job.call < length s.table.records) (sym c.value.ensures) (next_low _ _ _ _ _ _ _ _ turn c.requires.keeps c.requires.ordered c.in-Call.job.call h.0)

pub give-requires-clause-makes : goal.give-requires-clause-makes
give-requires-clause-makes g c =
    let t = c.take-held.ensures in
    let turn = at_turn _ _ _ _ _ _ t.stands t.list c.value_mut.ensures.value in
    let h = c.in-Call.ensures in
    makes_so _ _ _ _ _ _ _ _ h.0 (keeps_so _ _ _ _ _ _ turn.leads c.requires.keeps) t.cell.1 c.requires.entry (t.taken ∙ sym c.value_mut.ensures.value)

pub returns-in-Call-clause-took : goal.returns-in-Call-clause-took
returns-in-Call-clause-took g c =
    let t = c.take-held.ensures in
    let turn = at_turn _ _ _ _ _ _ t.stands t.list c.value_mut.ensures.value in
    let h = c.in-Call.ensures in
    next_job _ _ _ _ _ _ _ _ turn c.requires.keeps c.requires.ordered _ c.in-Call.job _ _ h.0 h.1
    (c.give.ensures.list ∙ (λ i. turn_list c.take-held.result ++ entry (t.cell.1 i) (c.requires.entry i) ∷ []))
    (subst (λ (s : SessionTable). EachHeld s c.in-Call.job.call) c.value.ensures c.is_held.ensures)
