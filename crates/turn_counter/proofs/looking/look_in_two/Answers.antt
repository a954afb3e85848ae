-- Neither pass has an entry of its own, so the whole list is empty.
use Rattle.std.proofs.Common.{◌≡◌, ◌+◌, ◌%◌, ◌++◌, ◌∷◌, [], arith, ap, subst, ◌∙◌}
use Rattle.turn_cell.specs.History.{own}
use Rattle.turn_cell.specs.Cell.{pass_list, whole_list}
use Rattle.turn_cell.proofs.Own.{own_extends}
use Rattle.turn_counter.specs.declared.tally.Tally.{Tally}
use Rattle.turn_counter.proofs.Totals.{counts, by_two, total, each_two, of_each, only_two}
use Rattle.turn_counter.proofs.looking.look_in_two.Goals as goal

pub both_look-first-requires-clause-one : goal.both_look-first-requires-clause-one
both_look-first-requires-clause-one g c κs within =
    let is = c.in-Some.ensures.items ∙ ap (λ l. l ++ c.in-Some.second ∷ []) c.in-Some-pop.ensures.items in
    let f = of_each _ _ _ _ _ (only_two _ _ _ _ c.in-Ok.ensures.passes.0 is) is c.in-Ok.ensures.passes.1 in f.0.1

pub both_look-first-requires-clause-two : goal.both_look-first-requires-clause-two
both_look-first-requires-clause-two g c κs within =
    let is = c.in-Some.ensures.items ∙ ap (λ l. l ++ c.in-Some.second ∷ []) c.in-Some-pop.ensures.items in
    let f = of_each _ _ _ _ _ (only_two _ _ _ _ c.in-Ok.ensures.passes.0 is) is c.in-Ok.ensures.passes.1 in f.1.1

pub close-seen-requires-clause-passes : goal.close-seen-requires-clause-passes
close-seen-requires-clause-passes g c =
    let is = c.in-Some.ensures.items ∙ ap (λ l. l ++ c.in-Some.second ∷ []) c.in-Some-pop.ensures.items in
    let none = only_two _ _ _ _ c.in-Ok.ensures.passes.0 is in
    let f = of_each _ _ _ _ _ none is c.in-Ok.ensures.passes.1 in
    let now = c.push_reserved-2.ensures.items ∙ ap (λ l. l ++ c.hand_over.new.to ∷ []) c.push_reserved.ensures.items in
    let t = c.both_look-first.ensures in let h = c.hand_over.ensures in
    each_two _ _ _ _ _ none now (h.from.1 ∙ (t.one.1 ∙ f.0.0), h.from.0) (h.to.1 ∙ (t.two.1 ∙ f.1.0), h.to.0)

pub returns : goal.returns
returns g c =
    let is = c.in-Some.ensures.items ∙ ap (λ l. l ++ c.in-Some.second ∷ []) c.in-Some-pop.ensures.items in
    let none = only_two _ _ _ _ c.in-Ok.ensures.passes.0 is in
    let f = of_each _ _ _ _ _ none is c.in-Ok.ensures.passes.1 in
    let now = c.push_reserved-2.ensures.items ∙ ap (λ l. l ++ c.hand_over.new.to ∷ []) c.push_reserved.ensures.items in
    let t = c.both_look-first.ensures in let h = c.hand_over.ensures in
    let l = of_each _ _ _ _ _ none now c.close-seen.ensures.lists in
    let log = whole_list c.close-seen.result.1 in
    let looked = rw (f.0.0, f.0.2) at (own_extends _ _ _ t.lists.0) in
    let looked' = rw (f.1.0, f.1.2) at (own_extends _ _ _ t.lists.1) in
    let told = subst (λ n. own n (pass_list c.hand_over.new.to) ≡ own n (pass_list c.both_look-first.result.1)) (t.two.1 ∙ f.1.0) (own_extends _ _ _ h.list) in
    let a : own 0 log ≡ [] = own_extends 0 _ _ l.0 ∙ (ap (own 0) h.from.2 ∙ looked) in
    let b : own 1 log ≡ [] = own_extends 1 _ _ l.1 ∙ (told ∙ looked') in
    let start : Tally = record { count = c.args.start } in
    let stands = rw c.in-Ok.ensures.cell.0 at c.close-seen.ensures.stands in
    let below = rw c.in-Ok.ensures.cell.1 at c.close-seen.ensures.makers in
    let nothing : total log ≡ 0 = by_two log below ∙ (λ i. total (a i) + total (b i)) in
    counts log start c.close-seen.result.0 c.ranges.start.fits stands ∙ ap (λ n. (c.args.start + n) % 18446744073709551616) nothing ∙ (let small = c.ranges.start.fits in omega (arith, small))
