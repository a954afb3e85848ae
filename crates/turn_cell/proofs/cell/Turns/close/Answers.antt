-- Every pass is taken back: the last by itself, since it makes the keeper, and then the others.
use Rattle.std.proofs.Common.{rules, ◌≡◌, ◌<◌, length, [], Some, refl, sym, ap, ◌∙◌, subst}
use Rattle.std.proofs.lemmas.List.{append-nil}
use mathlib.Core.Option.{some}
use lib.ListN.{get_elem?}
use Rattle.atomic_table.proofs.Lists.{at_last}
use Rattle.turn_cell.specs.History.{Lists}
use Rattle.turn_cell.proofs.Places.{each_push, each_last, each_front, prefix_pop, get_there}
use Rattle.turn_cell.proofs.cell.Turns.close.Goals as goal

pub split-keeper-requires : goal.split-keeper-requires
split-keeper-requires g c = let f = each_last _ _ _ _ ([], append-nil _ ∙ sym c.in-Some.ensures.items) c.requires.passes in record { cell = f.1 }

pub retire-requires-clause-keeper : goal.retire-requires-clause-keeper
retire-requires-clause-keeper g c =
    let key : c.split-keeper.result.seat.me.0.key ≡ Some c.args.self.table.shared.key = c.split-keeper.ensures.note_cell.1 in
    (c.split-keeper.ensures.note_cell.0, search rules)

pub retire-requires-clause-pass : goal.retire-requires-clause-pass
retire-requires-clause-pass g c = c.split-keeper.ensures.cell.0.0

pub retire_all-requires-clause-keeper : goal.retire_all-requires-clause-keeper
retire_all-requires-clause-keeper g c =
    (c.retire.ensures.0, search rules)

pub retire_all-requires-clause-passes : goal.retire_all-requires-clause-passes
retire_all-requires-clause-passes g c = λ k x e. (let h = each_front _ _ _ (prefix_pop _ _ _ ([], append-nil _ ∙ sym c.in-Some.ensures.items)) c.requires.passes k x e in (h.0, h.1.0))

pub finish-requires-clause-keeper : goal.finish-requires-clause-keeper
finish-requires-clause-keeper g c =
    (c.retire_all.ensures.keeper.0, search rules)

pub finish-requires-clause-all : goal.finish-requires-clause-all
finish-requires-clause-all g c = let f = each_last _ _ _ _ ([], append-nil _ ∙ sym c.in-Some.ensures.items) c.requires.passes in
    let pass = c.split-keeper.new.pass in
    let before = c.split-keeper.result.seat.me.0.retired in
    let one = c.retire_all.ensures.old (length before) (pass.number, pass.seat.me.0.seen) (subst (λ l. get_elem? l (length before) ≡ some (pass.number, pass.seat.me.0.seen)) (sym (ap (λ m. m.0.retired) c.retire.ensures.1)) (at_last before (pass.number, pass.seat.me.0.seen) (length before) refl)) in
    let mine : Lists c.retire_all.new.keeper.me.0.retired (length c.pop.new.self.items) c.in-Some.pass.seat.me.0.seen = (length before, one ∙ ap some (λ i. (let n : pass.number ≡ length c.pop.new.self.items = c.split-keeper.ensures.cell.1 ∙ f.0 in n i, c.split-keeper.ensures.list.0 i))) in
    let all = each_push c.pop.new.self.items c.in-Some.pass (λ k p. Lists c.retire_all.new.keeper.me.0.retired k p.seat.me.0.seen) c.retire_all.ensures.lists mine in
    λ n low. (let t = get_there c.args.passes.items n (subst (λ z. n < z) (sym c.requires.count) low) in let l = all n t.0 (subst (λ l. get_elem? l n ≡ some t.0) c.in-Some.ensures.items t.1) in (l.0, (n, t.0.seat.me.0.seen), l.1, refl))

pub returns-clause-lists : goal.returns-clause-lists
returns-clause-lists g c = let f = each_last _ _ _ _ ([], append-nil _ ∙ sym c.in-Some.ensures.items) c.requires.passes in
    let pass = c.split-keeper.new.pass in
    let before = c.split-keeper.result.seat.me.0.retired in
    let one = c.retire_all.ensures.old (length before) (pass.number, pass.seat.me.0.seen) (subst (λ l. get_elem? l (length before) ≡ some (pass.number, pass.seat.me.0.seen)) (sym (ap (λ m. m.0.retired) c.retire.ensures.1)) (at_last before (pass.number, pass.seat.me.0.seen) (length before) refl)) in
    let mine : Lists c.retire_all.new.keeper.me.0.retired (length c.pop.new.self.items) c.in-Some.pass.seat.me.0.seen = (length before, one ∙ ap some (λ i. (let n : pass.number ≡ length c.pop.new.self.items = c.split-keeper.ensures.cell.1 ∙ f.0 in n i, c.split-keeper.ensures.list.0 i))) in
    let all = each_push c.pop.new.self.items c.in-Some.pass (λ k p. Lists c.retire_all.new.keeper.me.0.retired k p.seat.me.0.seen) c.retire_all.ensures.lists mine in
    λ k x e. (let l = all k x (subst (λ l. get_elem? l k ≡ some x) c.in-Some.ensures.items e) in c.finish.ensures.lists l.0 (k, x.seat.me.0.seen) l.1)
