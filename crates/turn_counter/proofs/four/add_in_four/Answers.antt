-- The entries of the four threads are the whole list, so the tally has them all.
use Rattle.std.proofs.Common.{◌≡◌, ℕ, ◌+◌, ◌*◌, ◌%◌, ◌++◌, ◌∷◌, [], arith, ap, ◌∙◌}
use Rattle.turn_cell.specs.Cell.{whole_list}
use Rattle.turn_cell.proofs.Own.{own_extends}
use Rattle.turn_counter.specs.declared.tally.Tally.{Tally}
use Rattle.turn_counter.proofs.Totals.{counts, of_four, each_four, of_each_four, only_four}
use Rattle.turn_counter.proofs.four.add_in_four.Goals as goal

pub four_threads-a-requires-clause-low : goal.four_threads-a-requires-clause-low
four_threads-a-requires-clause-low g c κs within = let high = c.in-Some-Some in let low = c.in-Some-Some-2 in
    let is = high.ensures.items ∙ ap (λ l. l ++ high.d ∷ []) (high.ensures'.items ∙ ap (λ l. l ++ high.c ∷ []) (low.ensures.items ∙ ap (λ l. l ++ low.b ∷ []) low.ensures'.items)) in
    let f = of_each_four _ _ _ _ _ _ _ (only_four _ _ _ _ _ _ c.in-Ok.ensures.passes.0 is) is c.in-Ok.ensures.passes.1 in (f.0.1, f.1.1)

pub four_threads-a-requires-clause-high : goal.four_threads-a-requires-clause-high
four_threads-a-requires-clause-high g c κs within = let high = c.in-Some-Some in let low = c.in-Some-Some-2 in
    let is = high.ensures.items ∙ ap (λ l. l ++ high.d ∷ []) (high.ensures'.items ∙ ap (λ l. l ++ high.c ∷ []) (low.ensures.items ∙ ap (λ l. l ++ low.b ∷ []) low.ensures'.items)) in
    let f = of_each_four _ _ _ _ _ _ _ (only_four _ _ _ _ _ _ c.in-Ok.ensures.passes.0 is) is c.in-Ok.ensures.passes.1 in (f.2.1, f.3.1)

pub close-seen-requires-clause-passes : goal.close-seen-requires-clause-passes
close-seen-requires-clause-passes g c = let high = c.in-Some-Some in let low = c.in-Some-Some-2 in
    let is = high.ensures.items ∙ ap (λ l. l ++ high.d ∷ []) (high.ensures'.items ∙ ap (λ l. l ++ high.c ∷ []) (low.ensures.items ∙ ap (λ l. l ++ low.b ∷ []) low.ensures'.items)) in
    let none = only_four _ _ _ _ _ _ c.in-Ok.ensures.passes.0 is in
    let f = of_each_four _ _ _ _ _ _ _ none is c.in-Ok.ensures.passes.1 in
    let t = c.four_threads-a.ensures in let r = c.four_threads-a.result in
    let now = c.push_reserved-4.ensures.items ∙ ap (λ l. l ++ r.1.1 ∷ []) (c.push_reserved-3.ensures.items ∙ ap (λ l. l ++ r.1.0 ∷ []) (c.push_reserved-2.ensures.items ∙ ap (λ l. l ++ r.0.1 ∷ []) c.push_reserved.ensures.items)) in
    each_four _ _ _ _ _ _ _ none now (t.low.0.1 ∙ f.0.0, t.low.0.0) (t.low.1.1 ∙ f.1.0, t.low.1.0) (t.high.0.1 ∙ f.2.0, t.high.0.0) (t.high.1.1 ∙ f.3.0, t.high.1.0)

pub returns : goal.returns
returns g c = let high = c.in-Some-Some in let low = c.in-Some-Some-2 in
    let is = high.ensures.items ∙ ap (λ l. l ++ high.d ∷ []) (high.ensures'.items ∙ ap (λ l. l ++ high.c ∷ []) (low.ensures.items ∙ ap (λ l. l ++ low.b ∷ []) low.ensures'.items)) in
    let none = only_four _ _ _ _ _ _ c.in-Ok.ensures.passes.0 is in
    let f = of_each_four _ _ _ _ _ _ _ none is c.in-Ok.ensures.passes.1 in
    let t = c.four_threads-a.ensures in let r = c.four_threads-a.result in
    let now = c.push_reserved-4.ensures.items ∙ ap (λ l. l ++ r.1.1 ∷ []) (c.push_reserved-3.ensures.items ∙ ap (λ l. l ++ r.1.0 ∷ []) (c.push_reserved-2.ensures.items ∙ ap (λ l. l ++ r.0.1 ∷ []) c.push_reserved.ensures.items)) in
    let l = of_each_four _ _ _ _ _ _ _ none now c.close-seen.ensures.lists in
    let a = rw (f.0.0, f.0.2) at t.low.0.2 in let b = rw (f.1.0, f.1.2) at t.low.1.2 in
    let c' = rw (f.2.0, f.2.2) at t.high.0.2 in let d = rw (f.3.0, f.3.2) at t.high.1.2 in
    let start : Tally = record { count = 0 } in
    let log = whole_list c.close-seen.result.1 in
    let stands = rw c.in-Ok.ensures.cell.0 at c.close-seen.ensures.stands in
    let below = rw c.in-Ok.ensures.cell.1 at c.close-seen.ensures.makers in
    let all = of_four c.args.times c.args.amount log below (own_extends 0 _ _ l.0 ∙ a) (own_extends 1 _ _ l.1 ∙ b) (own_extends 2 _ _ l.2 ∙ c') (own_extends 3 _ _ l.3 ∙ d) in
    counts log start c.close-seen.result.0 (omega arith) stands ∙ ap (λ n. (0 + n) % 18446744073709551616) all ∙ (let p : ℕ = c.args.times * c.args.amount in let g : (0 + 4 * p) % 18446744073709551616 ≡ 4 * p % 18446744073709551616 = omega arith in g)
