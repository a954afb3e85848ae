-- The row of each maker gets its pass.
use Rattle.std.proofs.Common.{◌≡◌, ◌<◌, ◌∷◌, [], length, refl, ap, ◌∙◌, subst, arith, length-append, length-set}
use Rattle.std.specs.Vec.{vec_capacity}
use Rattle.std.proofs.lemmas.List.{append-nil}
use mathlib.Core.List.{IsPrefix}
use Rattle.turn_cell.specs.History.{Each}
use Rattle.turn_cell.proofs.Frames.{there}
use Rattle.turn_cell.proofs.Places.{prefix_pop}
use Rattle.region_tier.specs.Tiers.{Changed, HasMore, slots_of}
use Rattle.region_tier.proofs.Dealing.{DealtFrom, here_dealt, deals_one}
use Rattle.region_tier.proofs.rows.deal.Goals as goal

pub loop-pass-init : goal.loop-pass-init
loop-pass-init c = record {
  left = ([], append-nil c.args.column.items);
  room = refl;
  long = refl;
  dealt = λ k x e. record { below = λ h. e; above = λ h. absurd (let t = there c.args.rows.now.items k x e in let n = c.requires.count in omega (arith, t, n, h)) };
}

pub push_last-requires-clause-room : goal.push_last-requires-clause-room
push_last-requires-clause-room c = λ k x e here. let i = c.loop-pass.invariant in
    let items = ap length c.in-Some.ensures.items ∙ length-append c.pop.new.self.items (c.in-Some.pass ∷ []) in
    here_dealt c.args.column.items c.args.rows.now.items c.loop-pass.rows.items (length c.loop-pass.column.items) (λ i r. length (slots_of r) < vec_capacity r.slots) i.long i.dealt c.requires.room k x e (let l = c.len.ensures in omega (arith, here, items, l))

pub loop-pass-preserved : goal.loop-pass-preserved
loop-pass-preserved c = let i = c.loop-pass.invariant in let items = c.in-Some.ensures.items in
    let left = subst (λ l. IsPrefix l c.args.column.items) items i.left in
    let p = c.push_last.ensures in
    let is : c.len.result ≡ length c.pop.new.self.items = omega arith in
    record {
      left = prefix_pop c.pop.new.self.items c.args.column.items c.in-Some.pass left;
      room = c.in-Some.ensures.capacity ∙ i.room;
      long = ap length p.put ∙ (length-set c.loop-pass.rows.items c.len.result p.after ∙ i.long);
      dealt = deals_one c.args.column.items c.pop.new.self.items c.in-Some.pass c.args.rows.now.items c.loop-pass.rows.items c.push_last.new.rows.items (length c.pop.new.self.items) left refl
          (subst (λ l. Each c.args.rows.now.items (DealtFrom c.args.column.items c.loop-pass.rows.items (length l))) items i.dealt)
          (subst (λ m. Changed c.loop-pass.rows.items c.push_last.new.rows.items m (λ r d. HasMore r d c.in-Some.pass)) is p);
    }

pub returns-clause-dealt : goal.returns-clause-dealt
returns-clause-dealt c = let i = c.loop-pass.invariant in
    (i.long, λ k r e. (i.dealt k r e).above (let n : length c.loop-pass.column.items ≡ 0 = omega (arith, c.in_default.ensures.cases.0) in omega (arith, n)))
