-- The session's pass and the worker's are the last two.
use Rattle.std.proofs.Common.{◌∷◌, ◌++◌, [], List, sym, ap, ◌∙◌, subst, arith}
use Rattle.turn_cell.specs.declared.view.Entry.{Entry}
use Rattle.turn_cell.specs.History.{Stands}
use Rattle.call_table.specs.Makers.{MakesTable}
use Rattle.call_table.specs.Session.{SessionTable, came}
use Rattle.worker_turns_tests.specs.Begun.{begun}
use Rattle.worker_turns_tests.proofs.Pairs.{of_two, with_two, lengths_two}
use Rattle.worker_turns_tests.proofs.session.run.Goals as goal

pub serve-session-requires-clause-session : goal.serve-session-requires-clause-session
serve-session-requires-clause-session g c =
    let opened = c.in-Ok-open.ensures in
    let is = c.in-Some-Some.ensures.items ∙ ap (λ l. l ++ c.in-Some-Some.session ∷ []) c.in-Some-Some.ensures'.items in
    let t = of_two _ _ _ _ _ is opened.passes.1 in
    let many = lengths_two _ _ _ _ is in
    (t.second.1, t.second.0 ∙ omega (arith, many.1, opened.passes.0))

pub serve-session-requires-clause-worker : goal.serve-session-requires-clause-worker
serve-session-requires-clause-worker g c =
    let opened = c.in-Ok-open.ensures in
    let is = c.in-Some-Some.ensures.items ∙ ap (λ l. l ++ c.in-Some-Some.session ∷ []) c.in-Some-Some.ensures'.items in
    let t = of_two _ _ _ _ _ is opened.passes.1 in
    let many = lengths_two _ _ _ _ is in
    (t.first.1, t.first.0 ∙ omega (arith, many.0, opened.passes.0))

pub serve-session-requires-clause-none : goal.serve-session-requires-clause-none
serve-session-requires-clause-none g c =
    let opened = c.in-Ok-open.ensures in
    let is = c.in-Some-Some.ensures.items ∙ ap (λ l. l ++ c.in-Some-Some.session ∷ []) c.in-Some-Some.ensures'.items in
    let t = of_two _ _ _ _ _ is opened.passes.1 in
    λ s st. ap (λ (u : SessionTable). came u.table.records) (sym (subst (λ (l : List Entry). Stands MakesTable begun l s) t.second.2 st))

pub close-table-requires-clause-passes : goal.close-table-requires-clause-passes
close-table-requires-clause-passes g c =
    let opened = c.in-Ok-open.ensures in
    let is = c.in-Some-Some.ensures.items ∙ ap (λ l. l ++ c.in-Some-Some.session ∷ []) c.in-Some-Some.ensures'.items in
    let t = of_two _ _ _ _ _ is opened.passes.1 in
    let many = lengths_two _ _ _ _ is in
    let now = c.push_reserved-2.ensures.items ∙ ap (λ l. l ++ c.serve-session.result.0 ∷ []) c.push_reserved.ensures.items in
    let after = lengths_two _ _ _ _ now in
    let served = c.serve-session.ensures in
    with_two _ _ _ _ _ now
    (record {
      front_so = λ k x e. let p = t.front_so k x e in (p.0, p.1);
      first = (served.worker.1 ∙ omega (arith, many.0, opened.passes.0), served.worker.0);
      second = (served.session.1 ∙ omega (arith, many.0, opened.passes.0, after.0, after.1), served.session.0);
    })
