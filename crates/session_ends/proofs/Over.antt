-- What is known of a bench by its worker's list is so at the end.
use Rattle.std.proofs.Common.{ℕ, List, sym, subst}
use Rattle.session_meaning.specs.Plan.{Plan}
use Rattle.turn_cell.specs.declared.view.Entry.{Entry}
use Rattle.turn_cell.specs.History.{Stands}
use Rattle.call_table.specs.Makers.{MakesTable}
use Rattle.call_table.specs.Session.{SessionTable}
use Rattle.held_calls.proofs.Walks.{cut, list_same}
use Rattle.bench_parts.specs.Ran.{BenchRan}
use Rattle.bench_parts.proofs.Calls.{others_leave_ran}
use Rattle.session_ends.specs.Bench.{EndedBench}
use Rattle.session_ends.specs.Opened.{first_session}

pub ran_at_end : (plan : Plan) (locals : List (List (List Entry))) (globals : List (List Entry)) (table : List Entry) (end : SessionTable) (bench : ℕ) → Stands MakesTable (first_session plan) table end → (x : EndedBench plan locals globals table bench) → BenchRan plan end.table.records bench x.heard
ran_at_end plan locals globals table end bench st x =
    let start = first_session plan in
    let front = cut start end x.worker x.by_worker.0 (subst (λ (l : List Entry). Stands MakesTable start l end) (sym x.by_worker.1) st) in
    let mid = front.0 in
    let same = list_same start mid end x.worker table bench front.1 st x.by_worker in
    others_leave_ran plan bench mid.table.records end.table.records x.heard same (x.ran mid front.1)
