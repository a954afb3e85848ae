-- One more row without passes.
use Rattle.std.proofs.Common.{rules, ◌≡◌, ◌+◌, length, [], ◌∷◌, sym, ap, ◌∙◌, subst, arith, length-append}
use Rattle.std.specs.Vec.{vec_capacity}
use mathlib.Core.Option.{some-ne-none}
use Rattle.turn_cell.specs.History.{Each}
use Rattle.turn_cell.proofs.Places.{each_push}
use Rattle.region_tier.specs.Tiers.{slots_of}
use Rattle.region_tier.proofs.opening.empty_rows.Goals as goal

pub loop-preserved : goal.loop-preserved
loop-preserved c = let i = c.loop.invariant in let items = c.push_reserved.ensures.items in
    record {
      count = ap length items ∙ (length-append c.loop.passes.items (record { slots = c.in_ok-slots.slots } ∷ []) ∙ ap (λ n. n + 1) i.count);
      room = c.push_reserved.ensures.capacity ∙ i.room;
      rows = subst (λ l. Each l (λ k r. (slots_of r ≡ []) × (vec_capacity r.slots ≡ c.args.keys))) (sym items)
          (each_push c.loop.passes.items (record { slots = c.in_ok-slots.slots }) (λ k r. (slots_of r ≡ []) × (vec_capacity r.slots ≡ c.args.keys)) i.rows (search rules));
    }

pub returns : goal.returns
returns c = let i = c.loop.invariant in let n = i.count in
    ((omega (arith, n), λ k x e. (ap length (i.rows k x e).0, λ j t z. absurd (some-ne-none t (sym z)))), λ k x e. (i.rows k x e).1)
