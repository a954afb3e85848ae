-- The one pass has the whole list: its two entries.
use Rattle.std.proofs.Common.{◌≡◌, ◌+◌, ◌%◌, ◌∷◌, [], length, length-append, arith, sym, ap, subst, ◌∙◌}
use Rattle.std.proofs.lemmas.List.{append-nil}
use Rattle.turn_cell.specs.History.{own, entry}
use Rattle.turn_cell.specs.Cell.{pass_list, turn_list, whole_list}
use Rattle.turn_cell.proofs.Own.{own_extends}
use Rattle.turn_cell.proofs.Places.{each_last, each_push, each_front, prefix_pop}
use Rattle.turn_counter.specs.declared.tally.Tally.{Tally}
use Rattle.turn_counter.proofs.Spelled.{all_own}
use Rattle.turn_counter.proofs.Totals.{counts, total, one_two}
use Rattle.turn_counter.proofs.one.alone.Goals as goal

pub add_two-pass-requires : goal.add_two-pass-requires
add_two-pass-requires g c = let f = each_last _ _ _ _ ([], append-nil _ ∙ sym c.in-Some.ensures.items) c.in-Ok.ensures.passes.1 in record { cell = f.1 }

pub close-seen-requires-clause-passes : goal.close-seen-requires-clause-passes
close-seen-requires-clause-passes g c =
    let f = each_last _ _ _ _ ([], append-nil _ ∙ sym c.in-Some.ensures.items) c.in-Ok.ensures.passes.1 in
    let front = each_front _ _ _ (prefix_pop _ _ _ ([], append-nil _ ∙ sym c.in-Some.ensures.items)) c.in-Ok.ensures.passes.1 in
    let number = c.give_back.ensures.cell.1 ∙ (c.take-held.ensures.cell.1 ∙ (c.join.ensures.cell.1 ∙ (c.split-note.ensures.cell.1 ∙ (c.add_two-pass.ensures.cell.1 ∙ f.0)))) in
    rw (c.push_reserved.ensures.items) (each_push _ c.give_back.result _ (λ k x e. (let h = front k x e in (h.0, (h.1.0, h.1.1)))) (number, c.give_back.ensures.cell.0))

pub returns-clause-number : goal.returns-clause-number
returns-clause-number g c =
    let f = each_last _ _ _ _ ([], append-nil _ ∙ sym c.in-Some.ensures.items) c.in-Ok.ensures.passes.1 in
    let n = length-append c.pop.new.self.items (c.in-Some.pass ∷ []) in
    let zero : length c.pop.new.self.items ≡ 0 = omega (arith, n, ap length c.in-Some.ensures.items, c.in-Ok.ensures.passes.0) in
    c.number-number.ensures ∙ (f.0 ∙ zero)

pub returns-clause-last : goal.returns-clause-last
returns-clause-last g c =
    let f = each_last _ _ _ _ ([], append-nil _ ∙ sym c.in-Some.ensures.items) c.in-Ok.ensures.passes.1 in
    let n = length-append c.pop.new.self.items (c.in-Some.pass ∷ []) in
    let zero : length c.pop.new.self.items ≡ 0 = omega (arith, n, ap length c.in-Some.ensures.items, c.in-Ok.ensures.passes.0) in
    let first = f.0 ∙ zero in
    let added = c.add_two-pass.ensures.cell.1 ∙ first in
    let split = c.split-note.ensures.cell.1 ∙ added in
    let joined = c.join.ensures.cell.1 ∙ split in
    let log = whole_list c.close-seen.result.1 in
    let mine = rw zero at (each_last c.pop.new.self.items c.push_reserved.new.self.items c.give_back.result _ ([], append-nil _ ∙ sym c.push_reserved.ensures.items) c.close-seen.ensures.lists) in
    let turn = subst (λ n. own n (turn_list c.take-held.result) ≡ own n (pass_list c.join.new.pass)) joined (own_extends _ _ _ c.take-held.ensures.list) in
    let note = subst (λ n. own n (pass_list c.join.new.pass) ≡ own n (pass_list c.split-note.new.pass)) split (own_extends _ _ _ c.join.ensures.list) in
    let two = rw (first, f.2) at c.add_two-pass.ensures.own in
    let own_list = own_extends 0 _ _ mine ∙ (ap (own 0) c.give_back.ensures.list ∙ (turn ∙ (note ∙ (ap (own 0) c.split-note.ensures.list.0 ∙ two)))) in
    let all : log ≡ entry 0 (c.args.x ∷ []) ∷ entry 0 (c.args.y ∷ []) ∷ [] = sym (all_own log (rw c.in-Ok.ensures.cell.1 at c.close-seen.ensures.makers)) ∙ own_list in
    let start : Tally = record { count = 0 } in
    let stands = rw c.in-Ok.ensures.cell.0 at c.close-seen.ensures.stands in
    let sum : total log ≡ c.args.x + c.args.y = ap total all ∙ one_two c.args.x c.args.y in
    counts log start c.close-seen.result.0 (omega arith) stands ∙ ap (λ n. (0 + n) % 18446744073709551616) sum ∙ (omega arith)
