-- What is known between two turns, and at the last one.
use Rattle.std.proofs.Common.{◌∙◌, refl, sym, subst}
use Rattle.turn_cell.specs.Cell.{pass_list, pass_number, turn_list, value_of}
use Rattle.turn_cell.specs.History.{Extends}
use Rattle.call_table.specs.Makers.{RunsOn}
use Rattle.call_table.specs.Session.{SessionTable}
use Rattle.call_service.proofs.Turning.{extends_none, extends_more}
use Rattle.call_service.proofs.asking.take_running.Goals as goal

pub loop-init : goal.loop-init
loop-init g c = record { cell = (c.requires.cell, refl); list = extends_none _ _ }

pub loop-preserved : goal.loop-preserved
loop-preserved g c =
    let i = c.loop.invariant in
    let t = c.take-held.ensures in
    let b = c.give_back-pass.ensures in
    record {
      cell = (b.cell.0, b.cell.1 ∙ (t.cell.1 ∙ i.cell.1));
      list = subst (Extends (pass_number c.args.pass) (pass_list c.args.pass)) (sym b.list) (extends_more _ _ _ _ i.list (subst (λ n. Extends n (pass_list c.loop.pass) (turn_list c.take-held.result)) i.cell.1 t.list));
    }

pub returns-then-runs_on-clause-turn : goal.returns-then-runs_on-clause-turn
returns-then-runs_on-clause-turn g c =
    let i = c.loop.invariant in
    let t = c.take-held.ensures in
    record {
      leads = t.stands;
      others = extends_more _ _ _ _ i.list (subst (λ n. Extends n (pass_list c.loop.pass) (turn_list c.take-held.result)) i.cell.1 t.list);
      runs = subst (λ n. RunsOn (value_of c.take-held.result).table c.args.call n) c.number-bench.ensures
          (subst (λ (s : SessionTable). RunsOn s.table c.args.call c.number-bench.result) c.value.ensures (sym c.runs_on.ensures ∙ c.if-runs_on.true));
    }
