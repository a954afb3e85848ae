-- The row of each maker gives its last pass.
use Rattle.std.proofs.Common.{◌+◌, ◌∷◌, [], length, sym, ap, ◌∙◌, subst, arith, length-append, length-set}
use Rattle.turn_cell.specs.History.{Each}
use Rattle.region_tier.specs.Tiers.{EndsWithPass, slots_of}
use Rattle.region_tier.proofs.Dealing.{GivenTo, here_given, gives_one, given_all}
use Rattle.region_tier.proofs.rows.gather.Goals as goal

pub pop_last-pass-requires-clause-there : goal.pop_last-pass-requires-clause-there
pop_last-pass-requires-clause-there c = λ k x e here. let i = c.loop-maker.invariant in
    here_given c.loop-maker.home.items c.args.rows.now.items c.loop-maker.rows.items c.loop-maker.maker (λ i r. EndsWithPass (slots_of r)) i.long i.given c.requires.there k x e (omega (arith, here))

pub loop-maker-preserved : goal.loop-maker-preserved
loop-maker-preserved c = let i = c.loop-maker.invariant in let p = c.pop_last-pass.ensures in
    let items = c.push_reserved.ensures.items in
    let count = i.count in
    record {
      count = ap length items ∙ (length-append c.loop-maker.home.items (c.pop_last-pass.result ∷ []) ∙ ap (λ n. n + 1) i.count);
      room = c.push_reserved.ensures.capacity ∙ i.room;
      long = ap length p.put ∙ (length-set c.loop-maker.rows.items c.loop-maker.maker p.after ∙ i.long);
      given = subst (λ l. Each c.args.rows.now.items (GivenTo l c.pop_last-pass.new.rows.items (c.loop-maker.maker + 1))) (sym items)
          (gives_one c.loop-maker.home.items c.pop_last-pass.result c.args.rows.now.items c.loop-maker.rows.items c.pop_last-pass.new.rows.items c.loop-maker.maker (sym i.count) i.given p);
    }

pub returns-clause-gathered : goal.returns-clause-gathered
returns-clause-gathered c = let i = c.loop-maker.invariant in
    given_all c.loop-maker.home.items c.args.rows.now.items c.loop-maker.rows.items c.loop-maker.maker (let n = i.long in omega (arith, n)) i.long i.given
