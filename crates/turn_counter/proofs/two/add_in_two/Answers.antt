-- The two entries are the whole list, so the tally has both.
use Rattle.std.proofs.Common.{◌+◌, ◌%◌, ◌++◌, ◌∷◌, [], ap, ◌∙◌}
use Rattle.turn_cell.specs.Cell.{whole_list}
use Rattle.turn_cell.proofs.Own.{own_extends}
use Rattle.turn_counter.specs.declared.tally.Tally.{Tally}
use Rattle.turn_counter.proofs.Totals.{counts, of_two, each_two, of_each, only_two}
use Rattle.turn_counter.proofs.two.add_in_two.Goals as goal

pub two_threads-first-requires-clause-first : goal.two_threads-first-requires-clause-first
two_threads-first-requires-clause-first g c κs within =
    let is = c.in-Some.ensures.items ∙ ap (λ l. l ++ c.in-Some.second ∷ []) c.in-Some-pop.ensures.items in
    let f = of_each _ _ _ _ _ (only_two _ _ _ _ c.in-Ok.ensures.passes.0 is) is c.in-Ok.ensures.passes.1 in f.0.1

pub two_threads-first-requires-clause-second : goal.two_threads-first-requires-clause-second
two_threads-first-requires-clause-second g c κs within =
    let is = c.in-Some.ensures.items ∙ ap (λ l. l ++ c.in-Some.second ∷ []) c.in-Some-pop.ensures.items in
    let f = of_each _ _ _ _ _ (only_two _ _ _ _ c.in-Ok.ensures.passes.0 is) is c.in-Ok.ensures.passes.1 in f.1.1

pub close-requires-clause-passes : goal.close-requires-clause-passes
close-requires-clause-passes g c =
    let is = c.in-Some.ensures.items ∙ ap (λ l. l ++ c.in-Some.second ∷ []) c.in-Some-pop.ensures.items in
    let none = only_two _ _ _ _ c.in-Ok.ensures.passes.0 is in
    let f = of_each _ _ _ _ _ none is c.in-Ok.ensures.passes.1 in
    let now = c.push_reserved-2.ensures.items ∙ ap (λ l. l ++ c.two_threads-first.result.1 ∷ []) c.push_reserved.ensures.items in
    let t = c.two_threads-first.ensures in
    each_two _ _ _ _ _ none now (t.first.1 ∙ f.0.0, t.first.0) (t.second.1 ∙ f.1.0, t.second.0)

pub returns-clause-first : goal.returns-clause-first
returns-clause-first g c =
    let is = c.in-Some.ensures.items ∙ ap (λ l. l ++ c.in-Some.second ∷ []) c.in-Some-pop.ensures.items in
    let none = only_two _ _ _ _ c.in-Ok.ensures.passes.0 is in
    let f = of_each _ _ _ _ _ none is c.in-Ok.ensures.passes.1 in
    let now = c.push_reserved-2.ensures.items ∙ ap (λ l. l ++ c.two_threads-first.result.1 ∷ []) c.push_reserved.ensures.items in
    let l = of_each _ _ _ _ _ none now c.close.ensures.lists in
    own_extends 0 _ _ l.0 ∙ (rw (f.0.0, f.0.2) at c.two_threads-first.ensures.first.2)

pub returns-clause-second : goal.returns-clause-second
returns-clause-second g c =
    let is = c.in-Some.ensures.items ∙ ap (λ l. l ++ c.in-Some.second ∷ []) c.in-Some-pop.ensures.items in
    let none = only_two _ _ _ _ c.in-Ok.ensures.passes.0 is in
    let f = of_each _ _ _ _ _ none is c.in-Ok.ensures.passes.1 in
    let now = c.push_reserved-2.ensures.items ∙ ap (λ l. l ++ c.two_threads-first.result.1 ∷ []) c.push_reserved.ensures.items in
    let l = of_each _ _ _ _ _ none now c.close.ensures.lists in
    own_extends 1 _ _ l.1 ∙ (rw (f.1.0, f.1.2) at c.two_threads-first.ensures.second.2)

pub returns-clause-value : goal.returns-clause-value
returns-clause-value g c =
    let is = c.in-Some.ensures.items ∙ ap (λ l. l ++ c.in-Some.second ∷ []) c.in-Some-pop.ensures.items in
    let none = only_two _ _ _ _ c.in-Ok.ensures.passes.0 is in
    let f = of_each _ _ _ _ _ none is c.in-Ok.ensures.passes.1 in
    let now = c.push_reserved-2.ensures.items ∙ ap (λ l. l ++ c.two_threads-first.result.1 ∷ []) c.push_reserved.ensures.items in
    let l = of_each _ _ _ _ _ none now c.close.ensures.lists in
    let a = own_extends 0 _ _ l.0 ∙ (rw (f.0.0, f.0.2) at c.two_threads-first.ensures.first.2) in
    let b = own_extends 1 _ _ l.1 ∙ (rw (f.1.0, f.1.2) at c.two_threads-first.ensures.second.2) in
    let start : Tally = record { count = c.args.start } in
    let log = whole_list c.close.result.1 in
    let stands = rw c.in-Ok.ensures.cell.0 at c.close.ensures.stands in
    let below = rw c.in-Ok.ensures.cell.1 at c.close.ensures.makers in
    counts log start c.close.result.0 c.ranges.start.fits stands ∙ ap (λ n. (c.args.start + n) % 18446744073709551616) (of_two c.args.times c.args.amounts.0 c.args.amounts.1 log below a b)
