-- The one pass has seen nothing at first, and comes back to the cell.
use Rattle.std.proofs.Common.{◌≡◌, ℕ, ◌∷◌, List, [], Some, length, length-append, arith, sym, ap, subst, ◌∙◌}
use Rattle.std.proofs.lemmas.List.{append-nil}
use Rattle.faaslet_meaning.specs.Records.{child_of}
use Rattle.turn_cell.specs.declared.view.Entry.{Entry}
use Rattle.turn_cell.specs.Cell.{start_of}
use Rattle.turn_cell.specs.History.{Stands}
use Rattle.turn_cell.proofs.Places.{each_last}
use Rattle.call_table.specs.Makers.{MakesTable}
use Rattle.call_table.specs.Session.{SessionTable}
use Rattle.call_service_tests.proofs.asking.ask_all.Goals as goal

pub loop-asked-init : goal.loop-asked-init
loop-asked-init g c =
    let opened = c.in-Ok-open.ensures in
    let f = each_last _ _ _ _ ([], append-nil _ ∙ sym c.in-Some.ensures.items) opened.passes.1 in
    let n = length-append c.pop.new.self.items (c.in-Some.pass ∷ []) in
    let none : length c.pop.new.self.items ≡ 0 = omega (arith, n, ap length c.in-Some.ensures.items, opened.passes.0) in
    record {
      cell = f.1;
      number = f.0 ∙ none;
      two = λ child low t st.
          let same = sym opened.cell.0 ∙ subst (λ (l : List Entry). Stands MakesTable (start_of c.in-Ok-open.turns) l t) f.2 st in
          subst (λ (s : SessionTable). (n : ℕ) × (child_of s.table.records 0 child ≡ Some n)) same (c.requires.parent.children child low);
      few = omega (arith, c.in-Ok.ensures.len);
      room = omega (arith, c.in-Ok.ensures.capacity);
    }

pub loop-asked-preserved : goal.loop-asked-preserved
loop-asked-preserved g c =
    let i = c.loop-asked.invariant in
    let e = c.ask_plain-pass.ensures in
    record {
      cell = e.cell.0;
      number = e.cell.1 ∙ i.number;
      two = e.two;
      few = let a = i.few in let b = e.told.0 in omega (arith, a, b);
      room = let a = i.room in let b = e.told.1 in omega (arith, a, b);
    }
