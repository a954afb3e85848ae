-- The note is one of the replica's cell, and what it has goes to the other maker.
use Rattle.std.proofs.Common.{List, ap, ◌∙◌, subst}
use mathlib.Core.List.{IsPrefix}
use Rattle.turn_cell.specs.declared.cell.Turns.{Turns}
use Rattle.shared_region.specs.Shared.{Shared}
use Rattle.turn_cell.specs.declared.view.Entry.{Entry}
use Rattle.turn_cell.specs.Cell.{IsNoteOf, pass_list}
use Rattle.region_tier.proofs.At.{same_at, same_in}
use Rattle.state_service_tests.proofs.moving.tell.Goals as goal

pub join-requires : goal.join-requires
join-requires c =
    let h = c.requires.to in
    let n = c.split-note.ensures in
    record {
      cell = h.cell;
      pass = h.pass;
      at_cell = h.at_cell;
      at_pass = h.at_pass;
      sits = h.sits;
      low = h.low;
      so = subst (λ (t : Turns Shared). IsNoteOf c.split-note.result t) (same_at _ 0 n.cell h.cell n.at_cell h.at_cell) n.so.1;
    }

pub returns-clause-from : goal.returns-clause-from
returns-clause-from c =
    let n = c.split-note.ensures in
    record { cell = n.cell; before = n.before; after = n.after; at_cell = n.at_cell; at_before = n.at_before; put = n.put; sits = n.sits; number = n.number; makers = n.makers; so = n.so.0 }

pub returns-clause-to : goal.returns-clause-to
returns-clause-to c =
    let n = c.split-note.ensures in
    let j = c.join.ensures in
    record {
      cell = j.cell;
      before = j.before;
      after = j.after;
      at_cell = j.at_cell;
      at_before = j.at_before;
      put = j.put;
      sits = j.sits;
      number = j.number;
      makers = j.makers;
      so = (j.so.1, λ r at. subst (λ (l : List Entry). IsPrefix l (pass_list j.after)) (n.so.2 ∙ ap pass_list (same_in _ 0 n.before r n.at_before at)) j.so.0);
    }
