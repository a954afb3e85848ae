-- The one pass has the whole list, and the journal is what it spells.
use Rattle.std.proofs.Common.{◌≡◌, ◌∷◌, [], sym, ap, ◌∙◌, length, arith, length-append}
use Rattle.std.proofs.lemmas.List.{append-nil}
use Rattle.turn_cell.specs.Cell.{whole_list}
use Rattle.turn_cell.proofs.Own.{own_extends}
use Rattle.turn_cell.proofs.Places.{each_last, each_push, each_front, prefix_pop}
use Rattle.turn_counter.specs.Lines.{entry_if}
use Rattle.turn_counter.proofs.Spelled.{lines, spelled, all_own, one_entry}
use Rattle.turn_counter.proofs.writing.one_line.Goals as goal

pub write-pass-requires : goal.write-pass-requires
write-pass-requires g c = let f = each_last _ _ _ _ ([], append-nil _ ∙ sym c.in-Some.ensures.items) c.in-Ok.ensures.passes.1 in record { cell = f.1 }

pub close-journal-requires-clause-passes : goal.close-journal-requires-clause-passes
close-journal-requires-clause-passes g c =
    let f = each_last _ _ _ _ ([], append-nil _ ∙ sym c.in-Some.ensures.items) c.in-Ok.ensures.passes.1 in
    let front = each_front _ _ _ (prefix_pop _ _ _ ([], append-nil _ ∙ sym c.in-Some.ensures.items)) c.in-Ok.ensures.passes.1 in
    let t = c.write-pass.ensures.cell in
    rw (c.push_reserved.ensures.items) (each_push _ c.write-pass.result.0 _ (λ k x e. (let h = front k x e in (h.0, (h.1.0, h.1.1)))) (t.1 ∙ f.0, t.0))

pub returns : goal.returns
returns g c =
    let f = each_last _ _ _ _ ([], append-nil _ ∙ sym c.in-Some.ensures.items) c.in-Ok.ensures.passes.1 in
    let n = length-append c.pop.new.self.items (c.in-Some.pass ∷ []) in
    let zero : length c.pop.new.self.items ≡ 0 = omega (arith, n, ap length c.in-Some.ensures.items, c.in-Ok.ensures.passes.0) in
    let number = f.0 ∙ zero in
    let log = whole_list c.close-journal.result.1 in
    let mine = rw zero at (each_last c.pop.new.self.items c.push_reserved.new.self.items c.write-pass.result.0 _ ([], append-nil _ ∙ sym c.push_reserved.ensures.items) c.close-journal.ensures.lists) in
    let wrote = rw (number, f.2) at c.write-pass.ensures.own in
    let all : log ≡ entry_if c.write-pass.result.1 0 c.args.line = sym (all_own log (rw c.in-Ok.ensures.cell.1 at c.close-journal.ensures.makers)) ∙ (own_extends 0 _ _ mine ∙ wrote) in
    let stands = rw (c.in-Ok.ensures.cell.0 ∙ c.new.ensures) at c.close-journal.ensures.stands in
    one_entry c.write-pass.result.1 c.args.line c.close-journal.result.0 (spelled log [] c.close-journal.result.0 stands ∙ ap lines all)
